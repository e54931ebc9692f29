-- What a row sees of a table by the definition is what it sees of the table's events.
use Rattle.std.proofs.Common.{suc, ◌≡◌, ℕ, ◌+◌, ◌*◌, ◌<◌, ◌≤◌, inl, inr, List, [], arith, sym, ◌∙◌, ap, subst, refl, Bool, true, false, ◌&&◌, ◌||◌, cond}
use Rattle.std.specs.Prelude.{nat_lt, nat_eq, if◌then◌else◌, Option, Some, None}
use Rattle.std.proofs.lemmas.Bool.Decides.{nat_tests}
use Rattle.std.proofs.lemmas.Bool.{cases_lt}
use Rattle.std.proofs.Math.Nat.{mul-le-mul_right}
use Rattle.cycle_rules.specs.Schedule.{Fall, Known, key, if_before, seen, event}
use Rattle.cycle_rules.specs.Row.{Input, Table, phase}
use Rattle.cycle_rules.specs.Pick.{pick, padded}
use Rattle.cycle_rules.specs.Dispatch.{can_dispatch}
use Rattle.cycle_rules.specs.Issue.{can_issue}
use Rattle.cycle_rules.specs.Retire.{can_retire}
use Rattle.cycle_rules.specs.Seen.{key_at, comes_before, is_seen, has_issued, sees}
use Rattle.cycle_rules.specs.Run.{IsIssue, IsRow}
use Rattle.cycle_rules.specs.Events.{events, cycle_or, units_or_none, known_of}
use Rattle.cycle_rules.proofs.TableEvents.{events_of, sees_events, IsKept, IsEventIssue, IsEventRow}
use Rattle.cycle_rules.proofs.Rows.{event_below, event_of_row, phase_reserved, phase_free, least_along}

abbrev pub at_key : Input → ℕ → ℕ → ℕ → ℕ
at_key g c p j = key (events g) c (event g.rows p j)

pub choose_true : {A : Type 0} (b : Bool) (x y : A) → b ≡ true → cond b x y ≡ x
choose_true b x y e = rw e refl

pub choose_false : {A : Type 0} (b : Bool) (x y : A) → b ≡ false → cond b x y ≡ y
choose_false b x y e = rw e refl

-- what is known of a row that is run, and of none
pub known_in : (g : Input) (known : Known (List ℕ)) (q k : ℕ) → k < g.rows → known_of g known q k ≡ known (event g.rows q k)
known_in g known q k lt = choose_true (nat_lt k g.rows) _ _ (grind (arith, nat_tests, lt))

pub known_none : (g : Input) (known : Known (List ℕ)) (q k : ℕ) → known (event g.rows q k) ≡ None → known_of g known q k ≡ None
known_none g known q k none = nothing (nat_lt k g.rows) (known (event g.rows q k)) none
  where
    nothing : (b : Bool) (o : Option (Fall (List ℕ))) → o ≡ None → cond b o None ≡ None
    nothing true o e = e
    nothing false o e = refl

-- the keys are in the order of cycle, phase and row
pub key_order : (g : Input) (b q k c p j : ℕ) → q < 3 → p < 3 → k < g.rows → j < g.rows → nat_lt (at_key g b q k) (at_key g c p j) ≡ comes_before (key_at b q k) (key_at c p j)
unfolding comes_before
key_order g b q k c p j three_q three_p lk lj =
    let row_q : event g.rows q k < events g = event_below g q k three_q lk in
    let row_p : event g.rows p j < events g = event_below g p j three_p lj in
    elim (cases_lt b c) [
      | inl early ↦ (let le : suc b * events g ≤ c * events g = mul-le-mul_right (events g) (let s : suc b ≤ c = omega arith in s) in
          let lt : at_key g b q k < at_key g c p j = omega (arith, le) in grind (arith, nat_tests, early, lt))
      | inr late ↦ elim (cases_lt c b) [
        | inl past ↦ (let le : suc c * events g ≤ b * events g = mul-le-mul_right (events g) (let s : suc c ≤ b = omega arith in s) in
            let ge : at_key g c p j ≤ at_key g b q k = omega (arith, le) in grind (arith, nat_tests, past, ge))
        | inr now_or ↦ (let same : b ≡ c = omega arith in subst (λ x. nat_lt (at_key g x q k) (at_key g c p j) ≡ (nat_lt x c || (nat_eq x c && (nat_lt q p || (nat_eq q p && nat_lt k j))))) (sym same) (in_cycle_order))
      ]
    ]
  where
    in_cycle_order : nat_lt (at_key g c q k) (at_key g c p j) ≡ (nat_lt c c || (nat_eq c c && (nat_lt q p || (nat_eq q p && nat_lt k j))))
    in_cycle_order = elim (cases_lt q p) [
      | inl early ↦ (let le : suc q * g.rows ≤ p * g.rows = mul-le-mul_right g.rows (let s : suc q ≤ p = omega arith in s) in
          let lt : at_key g c q k < at_key g c p j = omega (arith, le) in grind (arith, nat_tests, early, lt))
      | inr late ↦ elim (cases_lt p q) [
        | inl past ↦ (let le : suc p * g.rows ≤ q * g.rows = mul-le-mul_right g.rows (let s : suc p ≤ q = omega arith in s) in
            let ge : at_key g c p j ≤ at_key g c q k = omega (arith, le) in grind (arith, nat_tests, past, ge))
        | inr now_or ↦ (let same : q ≡ p = omega arith in subst (λ x. nat_lt (at_key g c x k) (at_key g c p j) ≡ (nat_lt c c || (nat_eq c c && (nat_lt x p || (nat_eq x p && nat_lt k j))))) (sym same) (grind (arith, nat_tests)))
      ]
    ]

-- an event of a table is seen at a key where it comes before it
seen_event : (g : Input) (t : Table) (p j c q k : ℕ) (f : Fall (List ℕ)) → p < 3 → q < 3 → j < g.rows → (k < g.rows → events_of g t (event g.rows q k) ≡ Some f)
    → known_of g (seen (events g) (at_key g c p j) (events_of g t)) q k ≡ (if is_seen g (key_at f.cycle q k) (key_at c p j) then Some f else None)
seen_event g t p j c q k f three_p three_q lj is = elim (cases_lt k g.rows) [ inl low ↦ in_run low | inr high ↦ outside high ]
  where
    in_run : k < g.rows → known_of g (seen (events g) (at_key g c p j) (events_of g t)) q k ≡ (if is_seen g (key_at f.cycle q k) (key_at c p j) then Some f else None)
    in_run lk =
        let below : event g.rows q k < events g = event_below g q k three_q lk in
        let event_test : nat_lt (event g.rows q k) (events g) ≡ true = grind (arith, nat_tests, below) in
        let row_test : nat_lt k g.rows ≡ true = grind (arith, nat_tests, lk) in
        known_in g (seen (events g) (at_key g c p j) (events_of g t)) q k lk
        ∙ choose_true (nat_lt (event g.rows q k) (events g)) _ _ event_test
        ∙ ap (if_before (events g) (at_key g c p j) (event g.rows q k)) (is lk)
        ∙ ap (λ b. if b then Some f else None) (key_order g f.cycle q k c p j three_q three_p lk lj ∙ ap (λ b. b && comes_before (key_at f.cycle q k) (key_at c p j)) (sym row_test))

    outside : g.rows ≤ k → known_of g (seen (events g) (at_key g c p j) (events_of g t)) q k ≡ (if is_seen g (key_at f.cycle q k) (key_at c p j) then Some f else None)
    outside high =
        let row_test : nat_lt k g.rows ≡ false = grind (arith, nat_tests, high) in
        choose_false (nat_lt k g.rows) _ _ row_test ∙ ap (λ b. if b && comes_before (key_at f.cycle q k) (key_at c p j) then Some f else None) (sym row_test)

-- the event by which a row issues
issue_event : (g : Input) (t : Table) (k : ℕ) → IsKept (g.row k) (t k) → k < g.rows → (b : Bool) → (g.row k).reserved ≡ b
    → events_of g t (event g.rows (phase (g.row k)) k) ≡ Some (record { cycle = (t k).issue; what = (t k).units })
issue_event g t k kept lk true is =
    let what_is : (if (g.row k).reserved then (t k).units else []) ≡ (t k).units = choose_true (g.row k).reserved _ _ is in
    ap (λ q. events_of g t (event g.rows q k)) (phase_reserved (g.row k) is) ∙ event_of_row g t 2 k (omega arith) lk
    ∙ (λ i. Some (record { cycle = sym (kept.together is) i; what = what_is i }))
issue_event g t k kept lk false is = ap (λ q. events_of g t (event g.rows q k)) (phase_free (g.row k) is) ∙ event_of_row g t 1 k (omega arith) lk ∙ choose_false (g.row k).reserved _ _ is

phase_low : (g : Input) (k : ℕ) → (b : Bool) → (g.row k).reserved ≡ b → phase (g.row k) < 3
phase_low g k true is = omega (arith, phase_reserved (g.row k) is)
phase_low g k false is = omega (arith, phase_free (g.row k) is)

-- reading what is seen

read_cycle : (ahead : ℕ) (f : Fall (List ℕ)) (b : Bool) → cycle_or ahead (if b then Some f else None) ≡ (if b then f.cycle else ahead)
read_cycle ahead f true = refl
read_cycle ahead f false = refl

read_units : (f : Fall (List ℕ)) (b : Bool) → units_or_none (if b then Some f else None) ≡ (if b then f.what else [])
read_units f true = refl
read_units f false = refl

read_complete : (ahead latency complete : ℕ) (f : Fall (List ℕ)) (b : Bool) → (b ≡ true → complete ≡ f.cycle + latency)
    → cycle_or ahead (if b then Some f else None) + latency ≡ (if b then complete else ahead + latency)
read_complete ahead latency complete f true is = sym (is refl)
read_complete ahead latency complete f false is = refl

seen_row : (a b : Bool) → (a && b) ≡ true → a ≡ true
seen_row true b e = refl
seen_row false b e = cc

-- what a row sees by the definition and by the events
pub sees_same : (g : Input) (t : Table) (p j c : ℕ) → p < 3 → j < g.rows → ((k : ℕ) → k < g.rows → IsKept (g.row k) (t k)) → sees_events g t p j c ≡ sees g t p j c
sees_same g t p j c three lj kept = λ i k. record {
  dispatch = (ap (cycle_or (c + 1)) (dispatch_seen k) ∙ read_cycle (c + 1) (dispatch_fall k) (is_seen g (key_at (t k).dispatch 2 k) (key_at c p j))) i;
  issue = (ap (cycle_or (c + 1)) (issue_seen k) ∙ read_cycle (c + 1) (issue_fall k) (has_issued g t k c p j)) i;
  complete = (ap (λ o. cycle_or (c + 1) o + (g.row k).latency) (issue_seen k)
      ∙ read_complete (c + 1) (g.row k).latency (t k).complete (issue_fall k) (has_issued g t k c p j) (λ yes_seen. (kept k (row_of_seen k yes_seen)).complete)) i;
  retire = (ap (cycle_or (c + 1)) (retire_seen k) ∙ read_cycle (c + 1) (retire_fall k) (is_seen g (key_at (t k).retire 0 k) (key_at c p j))) i;
  units = (ap units_or_none (issue_seen k) ∙ read_units (issue_fall k) (has_issued g t k c p j)) i;
}
  where
    dispatch_fall : ℕ → Fall (List ℕ)
    dispatch_fall k = record { cycle = (t k).dispatch; what = if (g.row k).reserved then (t k).units else [] }

    issue_fall : ℕ → Fall (List ℕ)
    issue_fall k = record { cycle = (t k).issue; what = (t k).units }

    retire_fall : ℕ → Fall (List ℕ)
    retire_fall k = record { cycle = (t k).retire; what = [] }

    row_of_seen : (k : ℕ) → has_issued g t k c p j ≡ true → k < g.rows
    row_of_seen k h = let low : nat_lt k g.rows ≡ true = seen_row _ _ h in grind (arith, nat_tests, low)

    dispatch_seen : (k : ℕ) → known_of g (seen (events g) (at_key g c p j) (events_of g t)) 2 k ≡ (if is_seen g (key_at (t k).dispatch 2 k) (key_at c p j) then Some (dispatch_fall k) else None)
    dispatch_seen k = seen_event g t p j c 2 k (dispatch_fall k) three (omega arith) lj (λ lk. event_of_row g t 2 k (omega arith) lk)

    issue_seen : (k : ℕ) → known_of g (seen (events g) (at_key g c p j) (events_of g t)) (phase (g.row k)) k ≡ (if has_issued g t k c p j then Some (issue_fall k) else None)
    issue_seen k = seen_event g t p j c (phase (g.row k)) k (issue_fall k) three (phase_low g k (g.row k).reserved refl) lj (λ lk. issue_event g t k (kept k lk) lk (g.row k).reserved refl)

    retire_seen : (k : ℕ) → known_of g (seen (events g) (at_key g c p j) (events_of g t)) 0 k ≡ (if is_seen g (key_at (t k).retire 0 k) (key_at c p j) then Some (retire_fall k) else None)
    retire_seen k = seen_event g t p j c 0 k (retire_fall k) three (omega arith) lj (λ lk. event_of_row g t 0 k (omega arith) lk)

-- so a table is a run by the definition where it is one by its events

pub kept_row : (g : Input) (t : Table) (j : ℕ) → IsRow g t j → IsKept (g.row j) (t j)
kept_row g t j row = record { together = λ is. subst (IsIssue g t j) is row.issue; complete = row.complete }

issue_along : (g : Input) (t : Table) (j : ℕ) → ((c : ℕ) → sees g t 1 j c ≡ sees_events g t 1 j c) → (b : Bool) → IsIssue g t j b → IsEventIssue g t j b
issue_along g t j same true is = is
issue_along g t j same false least = least_along _ _ (t j).issue (λ c. ap (λ s. can_issue g s j c) (same c)) least

issue_back : (g : Input) (t : Table) (j : ℕ) → ((c : ℕ) → sees_events g t 1 j c ≡ sees g t 1 j c) → (b : Bool) → IsEventIssue g t j b → IsIssue g t j b
issue_back g t j same true is = is
issue_back g t j same false least = least_along _ _ (t j).issue (λ c. ap (λ s. can_issue g s j c) (same c)) least

pub event_rows : (g : Input) (t : Table) → ((j : ℕ) → j < g.rows → IsRow g t j) → (j : ℕ) → j < g.rows → IsEventRow g t j
event_rows g t run j lt = record {
  dispatch = least_along _ _ (t j).dispatch (λ c. ap (λ s. can_dispatch g s j c) (same 2 c (omega arith))) row.dispatch;
  issue = issue_along g t j (λ c. same 1 c (omega arith)) (g.row j).reserved row.issue;
  units = row.units ∙ ap (λ s. padded (pick g s j (t j).issue)) (same (phase (g.row j)) (t j).issue (phase_low g j (g.row j).reserved refl));
  complete = row.complete;
  retire = least_along _ _ (t j).retire (λ c. ap (λ s. can_retire g s j c) (same 0 c (omega arith))) row.retire;
}
  where
    row : IsRow g t j
    row = run j lt

    same : (p c : ℕ) → p < 3 → sees g t p j c ≡ sees_events g t p j c
    same p c three = sym (sees_same g t p j c three lt (λ k lk. kept_row g t k (run k lk)))

pub run_rows : (g : Input) (t : Table) → ((k : ℕ) → k < g.rows → IsKept (g.row k) (t k)) → ((j : ℕ) → j < g.rows → IsEventRow g t j) → (j : ℕ) → j < g.rows → IsRow g t j
run_rows g t kept run j lt = record {
  dispatch = least_along _ _ (t j).dispatch (λ c. ap (λ s. can_dispatch g s j c) (same 2 c (omega arith))) row.dispatch;
  issue = issue_back g t j (λ c. same 1 c (omega arith)) (g.row j).reserved row.issue;
  units = row.units ∙ ap (λ s. padded (pick g s j (t j).issue)) (same (phase (g.row j)) (t j).issue (phase_low g j (g.row j).reserved refl));
  complete = row.complete;
  retire = least_along _ _ (t j).retire (λ c. ap (λ s. can_retire g s j c) (same 0 c (omega arith))) row.retire;
}
  where
    row : IsEventRow g t j
    row = run j lt

    same : (p c : ℕ) → p < 3 → sees_events g t p j c ≡ sees g t p j c
    same p c three = sees_same g t p j c three lt kept
