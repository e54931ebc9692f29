-- Which rows in flight are ready and which wait for a cycle, as events fall.
use Rattle.std.proofs.Common.{zero, suc, ◌≡◌, ℕ, ◌+◌, ◌-◌, ◌%◌, ◌<◌, ◌≤◌, ◌⊎◌, inl, inr, List, [], ◌∷◌, length, set, get_or, drop, arith, sym, ◌∙◌, ap, subst, refl, Bool, true, false, not, ◌&&◌, ◌||◌}
use Rattle.std.specs.Prelude.{nat_lt, nat_eq, Option, Some, None, is_some, if◌then◌else◌}
use Rattle.std.specs.List.{list_any}
use Rattle.std.proofs.lemmas.Bool.Decides.{nat_tests}
use Rattle.std.proofs.lemmas.Bool.{cases_Bool, cases_eq, cases_lt, both_ways, leb-true}
use Rattle.std.proofs.lemmas.List.{drop_more}
use Rattle.std.proofs.Math.ListN.{drop_of_length-le}
use Rattle.cycle_rules.specs.Below.{count_below}
use Rattle.cycle_rules.specs.Row.{Input, times, phase, lead, advance_of}
use Rattle.cycle_rules.specs.Schedule.{Known}
use Rattle.cycle_rules.specs.Events.{known_of}
use Rattle.cycle_rules.specs.Issue.{producer, has_operands}
use Rattle.cycle_rules.specs.declared.bound.Source.{Source}
use Rattle.cycle_rules.specs.declared.times.Times.{Times}
use Rattle.cycle_rules.proofs.Rows.{phase_reserved, phase_free}
use Rattle.cycle_rules.proofs.Sees.{known_in, choose_false}
use Rattle.cycle_rules.proofs.WaitsTimed.{last_older}
use Rattle.event_rules.specs.Due.{later_by, later, read_after, read_from, all_read_from, ready_from}
use Rattle.event_rules.specs.Skip.{is_row, is_read_from, waits_for}
use Rattle.event_rules.proofs.EventSteps.{ready_stays, ready_unknown}
use Rattle.event_rules.proofs.StillTests.{reached, operands_from}
use Rattle.engine_state.specs.State.{never, if_known, recorded_in, recorded, now, IsWritten}
use Rattle.engine_state.specs.Writes.{IsDispatched, IsIssuedWith, IsRetired}
use Rattle.engine_state.proofs.State.{recorded_row, times_set_other, times_set_same}
use Rattle.engine_state.proofs.Taken.{phase_low}
use Rattle.engine_state.proofs.Turn.{never_is_none}
use Rattle.row_sets.specs.Rows.{same_place}
use Rattle.row_sets.specs.Ready.{has_row}
use Rattle.row_sets.specs.Agenda.{time_of, NoneWaits, IsTaken}
use Rattle.row_sets.specs.declared.ready.ReadyRows.{ReadyRows}
use Rattle.row_sets.specs.declared.agenda.Agenda.{Agenda}
use Rattle.row_sets.proofs.Places.{apart, time_again, time_place}
use Rattle.engine_steps.specs.Wake.{class_of, WaitsUntil, CompletesIn, AreAwake, AllLater, none_out, except, reads_from}
use Rattle.engine_steps.specs.declared.wakeup.Wakeup.{Wakeup}

-- What is recorded of an issue

pub row_issue : (g : Input) (k : ℕ) (xs : List Times) → k < g.rows → IsWritten (g.row k) (times xs k) → known_of g (recorded g xs) (phase (g.row k)) k ≡ if_known (times xs k).issue (times xs k).units
row_issue g k xs lt kept = known_in g (recorded g xs) (phase (g.row k)) k lt ∙ recorded_row g xs (phase (g.row k)) k (phase_low (g.row k)) lt ∙ by_kind (g.row k).reserved refl
  where
    by_kind : (b : Bool) → (g.row k).reserved ≡ b → recorded_in (g.row k) (times xs k) (phase (g.row k)) ≡ if_known (times xs k).issue (times xs k).units
    by_kind true is = ap (recorded_in (g.row k) (times xs k)) (phase_reserved (g.row k) is) ∙ ap (λ b. if_known (times xs k).dispatch (if b then (times xs k).units else [])) is
        ∙ ap (λ n. if_known n (times xs k).units) (sym (kept.together is))
    by_kind false is = ap (recorded_in (g.row k) (times xs k)) (phase_free (g.row k) is) ∙ choose_false (g.row k).reserved _ _ is

-- the issue of row k is recorded alike in two tables
abbrev SameIssue : Input → List Times → List Times → ℕ → Type 0
SameIssue g xs ys k = known_of g (recorded g ys) (phase (g.row k)) k ≡ known_of g (recorded g xs) (phase (g.row k)) k

same_known : (g : Input) (xs ys : List Times) (k : ℕ) → (k < g.rows → recorded_in (g.row k) (times ys k) (phase (g.row k)) ≡ recorded_in (g.row k) (times xs k) (phase (g.row k))) → SameIssue g xs ys k
same_known g xs ys k same = elim (cases_lt k g.rows) [
  | inl lt ↦ known_in g (recorded g ys) (phase (g.row k)) k lt ∙ recorded_row g ys (phase (g.row k)) k (phase_low (g.row k)) lt ∙ same lt ∙ sym (known_in g (recorded g xs) (phase (g.row k)) k lt ∙ recorded_row g xs (phase (g.row k)) k (phase_low (g.row k)) lt)
  | inr out ↦ (let test : nat_lt k g.rows ≡ false = grind (arith, nat_tests, out) in rw test refl)
]

same_other : (g : Input) (xs : List Times) (j k : ℕ) (v : Times) → (k ≡ j → ⊥) → SameIssue g xs (set xs j v) k
same_other g xs j k v ne = same_known g xs (set xs j v) k (λ lt. ap (λ t. recorded_in (g.row k) t (phase (g.row k))) (times_set_other xs j k v ne))

-- Ready times

-- where all issues are recorded alike, they are the same
ready_same : (g : Input) (known v : Known (List ℕ)) (j : ℕ) → ((k : ℕ) → known_of g v (phase (g.row k)) k ≡ known_of g known (phase (g.row k)) k) → ready_from g v j ≡ ready_from g known j
ready_same g known v j same = all_same (g.row j).reads
  where
    at : (read : ℕ) (o : Option ℕ) → read_after g v read o ≡ read_after g known read o
    at read None = refl
    at read (Some k) = ap (later_by (lead (g.row k).latency (advance_of g.machine read (g.row k).write))) (same k)

    all_same : (reads : List Source) → all_read_from g v j reads ≡ all_read_from g known j reads
    all_same [] = refl
    all_same (s ∷ rest) = ap (λ o. later (if nat_eq s.reg 0 then Some 0 else o) (all_read_from g v j rest)) (at s.read (producer g j s.reg)) ∙ ap (later (read_from g known j s)) (all_same rest)

any_more : {A : Type 0} (p q : A → Bool) (xs : List A) → ((x : A) → p x ≡ true → q x ≡ true) → list_any p xs ≡ true → list_any q xs ≡ true
any_more p q [] h e = cc
any_more p q (x ∷ rest) h e = elim (cases_Bool (p x)) [
  | inl is ↦ rw (h x is) refl
  | inr other ↦ or_true (q x) (list_any q rest) (any_more p q rest h (rw other at e))
]
  where
    or_true : (a b : Bool) → b ≡ true → (a || b) ≡ true
    or_true true b e = refl
    or_true false b e = e

-- a row that reads from one that has not issued has no ready time
no_ready : (g : Input) (xs : List Times) (k j t : ℕ) → j < g.rows → IsWritten (g.row j) (times xs j) → (times xs j).issue ≡ never → is_read_from g k j ≡ true → ready_from g (recorded g xs) k ≡ Some t → ⊥
no_ready g xs k j t lt kept none reads is =
    let unknown : known_of g (recorded g xs) (phase (g.row j)) j ≡ None = row_issue g j xs lt kept ∙ never_is_none (times xs j).issue (times xs j).units none in
    let waits : list_any (λ s. not (nat_eq s.reg 0) && waits_for g (recorded g xs) (producer g k s.reg)) (g.row k).reads ≡ true = any_more _ _ (g.row k).reads (λ s e. one (nat_eq s.reg 0) (producer g k s.reg) unknown e) reads in
    bad (ready_from g (recorded g xs) k) is (ready_unknown g (recorded g xs) k ∙ ap not waits)
  where
    of_row : (o : Option ℕ) → known_of g (recorded g xs) (phase (g.row j)) j ≡ None → is_row j o ≡ true → waits_for g (recorded g xs) o ≡ true
    of_row None none e = cc
    of_row (Some i) none e = (let here : i ≡ j = grind (arith, nat_tests, e) in subst (λ x. not (is_some (known_of g (recorded g xs) (phase (g.row x)) x)) ≡ true) (sym here) (rw none refl))

    one : (b : Bool) (o : Option ℕ) → known_of g (recorded g xs) (phase (g.row j)) j ≡ None → (not b && is_row j o) ≡ true → (not b && waits_for g (recorded g xs) o) ≡ true
    one true o none e = cc
    one false o none e = of_row o none e

    bad : (o : Option ℕ) → o ≡ Some t → is_some o ≡ not true → ⊥
    bad None p q = cc
    bad (Some x) p q = cc

-- a row reads from older rows alone
reads_older : (g : Input) (k j : ℕ) → is_read_from g k j ≡ true → j < k
unfolding producer
reads_older g k j e = any_of (g.row k).reads e
  where
    of_row : (o : Option ℕ) (r : ℕ) → o ≡ producer g k r → is_row j o ≡ true → j < k
    of_row None r is e = cc
    of_row (Some i) r is e = (let here : i ≡ j = grind (arith, nat_tests, e) in subst (λ x. x < k) here (last_older k (λ q. nat_eq (g.row q).rd r) i (sym is)))

    any_of : (reads : List Source) → list_any (λ s. not (nat_eq s.reg 0) && is_row j (producer g k s.reg)) reads ≡ true → j < k
    any_of [] e = cc
    any_of (s ∷ rest) e = elim (cases_Bool (not (nat_eq s.reg 0) && is_row j (producer g k s.reg))) [
      | inl is ↦ of_row (producer g k s.reg) s.reg refl (second (not (nat_eq s.reg 0)) (is_row j (producer g k s.reg)) is)
      | inr other ↦ any_of rest (rw other at e)
    ]
      where
        second : (a b : Bool) → (a && b) ≡ true → b ≡ true
        second true b e = e
        second false b e = cc

-- a ready time that lies ahead: the row lacks an operand
pub unready : (g : Input) (xs : List Times) (k c : ℕ) (o : Option ℕ) → ready_from g (recorded g xs) k ≡ o → ((r : ℕ) → o ≡ Some r → c < r) → has_operands g (now g c xs) k c ≡ false
unready g xs k c o is late = operands_from g (recorded g xs) k c ∙ ap (reached c) is ∙ ahead o late
  where
    ahead : (o : Option ℕ) → ((r : ℕ) → o ≡ Some r → c < r) → reached c o ≡ false
    ahead None late = refl
    ahead (Some r) late = (let lt : c < r = late r refl in grind (arith, nat_tests, lt))

ready_by : (g : Input) (xs : List Times) (k c r : ℕ) → ready_from g (recorded g xs) k ≡ Some r → has_operands g (now g c xs) k c ≡ true → r ≤ c
ready_by g xs k c r is has = leb-true r c (sym (operands_from g (recorded g xs) k c ∙ ap (reached c) is) ∙ has)

-- Rows whose times stay

waits_still : (g : Input) (xs ys : List Times) (k r : ℕ) → times ys k ≡ times xs k → ready_from g (recorded g ys) k ≡ ready_from g (recorded g xs) k → WaitsUntil g ys k r → WaitsUntil g xs k r
waits_still g xs ys k r same ready w = record { free = w.free; waits = sym (ap (λ (t : Times). t.issue) same) ∙ w.waits; operands = sym ready ∙ w.operands }

waits_again : (g : Input) (xs ys : List Times) (k r : ℕ) → (times ys k).issue ≡ (times xs k).issue → ready_from g (recorded g ys) k ≡ ready_from g (recorded g xs) k → WaitsUntil g xs k r → WaitsUntil g ys k r
waits_again g xs ys k r same ready w = record { free = w.free; waits = same ∙ w.waits; operands = ready ∙ w.operands }

completes_still : (g : Input) (xs ys : List Times) (k t : ℕ) → (times ys k).issue ≡ (times xs k).issue → (times ys k).complete ≡ (times xs k).complete → CompletesIn g ys k t → CompletesIn g xs k t
completes_still g xs ys k t issue complete w = record { ordered = w.ordered; issued = λ n. w.issued (issue ∙ n); complete = w.complete ∙ complete }

-- fewer are left out
pub awake_out : (g : Input) (xs : List Times) (w : Wakeup) (front head c : ℕ) (out more : ℕ → Bool) → ((k : ℕ) → front ≤ k → k < head → more k ≡ false → out k ≡ false) → AreAwake g xs w front head c out → AreAwake g xs w front head c more
awake_out g xs w front head c out more less a = record {
  few = a.few;
  ready = λ k r lo hi e. a.ready k r lo hi (less k lo hi e);
  completes = λ k t lo hi e. a.completes k t lo hi (less k lo hi e);
  exact = a.exact;
}

-- a later cycle
pub awake_later : (g : Input) (xs : List Times) (w : Wakeup) (front head b c : ℕ) (out : ℕ → Bool) → b ≤ c → AreAwake g xs w front head b out → AreAwake g xs w front head c out
awake_later g xs w front head b c out le a = record {
  few = a.few;
  ready = λ k r lo hi e u. elim (a.ready k r lo hi e u) [
    | inl p ↦ inl (omega (arith, p.0, le), p.1)
    | inr p ↦ inr p
  ];
  completes = λ k t lo hi e u. elim (a.completes k t lo hi e u) [
    | inl p ↦ inl (omega (arith, p, le))
    | inr p ↦ inr p
  ];
  exact = a.exact;
}

-- at first no row is in flight
pub awake_start : (g : Input) (xs : List Times) (w : Wakeup) → NoneWaits w.agenda → AreAwake g xs w 0 0 0 none_out
awake_start g xs w none = record {
  few = omega arith;
  ready = λ k r lo hi. absurd (omega (arith, hi));
  completes = λ k t lo hi. absurd (omega (arith, hi));
  exact = λ k t lo hi is. absurd (nothing t (sym (none k) ∙ is));
}
  where
    nothing : (t : ℕ) → None ≡ Some t → ⊥
    nothing t e = cc

pub later_start : (agenda : Agenda) (c : ℕ) → NoneWaits agenda → AllLater agenda c
later_start agenda c none k t is = absurd (nothing t (sym (none k) ∙ is))
  where
    nothing : (t : ℕ) → None ≡ Some t → ⊥
    nothing t e = cc

-- The oldest row retires

retire_known : (g : Input) (xs : List Times) (j c : ℕ) (v : Times) → j < length xs → IsRetired xs j c v → (k : ℕ) → SameIssue g xs (set xs j v) k
retire_known g xs j c v long w k = elim (cases_eq k j) [
  | inr ne ↦ same_other g xs j k v ne
  | inl here ↦ subst (SameIssue g xs (set xs j v)) (sym here) (same_known g xs (set xs j v) j (λ lt. ap (λ t. recorded_in (g.row j) t (phase (g.row j))) (times_set_same xs j v long) ∙ by_kind (g.row j).reserved refl))
]
  where
    by_kind : (b : Bool) → (g.row j).reserved ≡ b → recorded_in (g.row j) v (phase (g.row j)) ≡ recorded_in (g.row j) (times xs j) (phase (g.row j))
    by_kind true is = subst (λ p. recorded_in (g.row j) v p ≡ recorded_in (g.row j) (times xs j) p) (sym (phase_reserved (g.row j) is)) (rw (w.dispatch, w.units) refl)
    by_kind false is = subst (λ p. recorded_in (g.row j) v p ≡ recorded_in (g.row j) (times xs j) p) (sym (phase_free (g.row j) is)) (rw (w.issue, w.units) refl)

pub awake_retires : (g : Input) (xs : List Times) (w : Wakeup) (front head c : ℕ) (v : Times) → AreAwake g xs w front head c none_out → AllLater w.agenda c → front < length xs → IsRetired xs front c v → ((times xs front).issue ≡ never → ⊥) → (times xs front).complete ≤ c
    → AreAwake g (set xs front v) w (front + 1) head c none_out
awake_retires g xs w front head c v a later long retired issued complete = record {
  few = omega (arith, a.few);
  ready = λ k r lo hi e u. a.ready k r (omega (arith, lo)) hi e (waits_still g xs (set xs front v) k r (other k lo) (ready k) u);
  completes = λ k t lo hi e u. a.completes k t (omega (arith, lo)) hi e (completes_still g xs (set xs front v) k t (ap (λ (s : Times). s.issue) (other k lo)) (ap (λ (s : Times). s.complete) (other k lo)) u);
  exact = λ k t lo hi is. elim (cases_lt k (front + 4096)) [
    | inl low ↦ (let old : (k < head) × (WaitsUntil g xs k t ⊎ CompletesIn g xs k t) = a.exact k t (omega (arith, lo)) low is in (old.0, again k t lo old.1))
    | inr high ↦ (
        let here : k ≡ front + 4096 = omega (arith, hi, high) in
        absurd (gone t (sym (time_again w.agenda front) ∙ subst (λ i. time_of w.agenda i ≡ Some t) here is)))
  ];
}
  where
    other : (k : ℕ) → front + 1 ≤ k → times (set xs front v) k ≡ times xs k
    other k lo = times_set_other xs front k v (λ e. omega (arith, e, lo))

    ready : (k : ℕ) → ready_from g (recorded g (set xs front v)) k ≡ ready_from g (recorded g xs) k
    ready k = ready_same g (recorded g xs) (recorded g (set xs front v)) k (retire_known g xs front c v long retired)

    again : (k t : ℕ) → front + 1 ≤ k → WaitsUntil g xs k t ⊎ CompletesIn g xs k t → WaitsUntil g (set xs front v) k t ⊎ CompletesIn g (set xs front v) k t
    again k t lo (inl u) = inl (waits_again g xs (set xs front v) k t (ap (λ (s : Times). s.issue) (other k lo)) (ready k) u)
    again k t lo (inr u) = inr (completes_still g (set xs front v) xs k t (sym (ap (λ (s : Times). s.issue) (other k lo))) (sym (ap (λ (s : Times). s.complete) (other k lo))) u)

    -- the row that retires waits for nothing
    gone : (t : ℕ) → time_of w.agenda front ≡ Some t → ⊥
    gone t is =
        let after : c < t = later front t is in
        elim ((a.exact front t (omega arith) (omega arith) is).1) [
          | inl u ↦ issued u.waits
          | inr u ↦ omega (arith, after, u.complete, complete)
        ]

-- A row issues

pub awake_issues : (g : Input) (xs : List Times) (w : Wakeup) (front head c j : ℕ) (v : Times) → AreAwake g xs w front head c none_out → AllLater w.agenda c → front ≤ j → j < head → j < g.rows → length xs ≡ g.rows
    → IsWritten (g.row j) (times xs j) → (times xs j).issue ≡ never → has_operands g (now g c xs) j c ≡ true → AreAwake g (set xs j v) w front head c (reads_from g j)
awake_issues g xs w front head c j v a later lo_j hi_j lt long kept none operands = record {
  few = a.few;
  ready = λ k r lo hi e u. (let o : (k ≡ j → ⊥) × (is_read_from g k j ≡ false) = out k e in
      a.ready k r lo hi refl (waits_still g xs (set xs j v) k r (times_set_other xs j k v o.0) (stays k o.1) u));
  completes = λ k t lo hi e u. (let o : (k ≡ j → ⊥) × (is_read_from g k j ≡ false) = out k e in
      a.completes k t lo hi refl (completes_still g xs (set xs j v) k t (ap (λ (s : Times). s.issue) (times_set_other xs j k v o.0)) (ap (λ (s : Times). s.complete) (times_set_other xs j k v o.0)) u));
  exact = λ k t lo hi is. (let old : (k < head) × (WaitsUntil g xs k t ⊎ CompletesIn g xs k t) = a.exact k t lo hi is in (old.0, again k t is (cases_eq k j) old.1));
}
  where
    or_false : (x y : Bool) → (x || y) ≡ false → (x ≡ false) × (y ≡ false)
    or_false true y e = cc
    or_false false y e = (refl, e)

    out : (k : ℕ) → reads_from g j k ≡ false → (k ≡ j → ⊥) × (is_read_from g k j ≡ false)
    out k e = (let p : (nat_eq k j ≡ false) × (is_read_from g k j ≡ false) = or_false _ _ e in (λ s. (let same : nat_eq k j ≡ true = grind (arith, nat_tests, s) in both_ways _ (p.0) same), p.1))

    stays : (k : ℕ) → is_read_from g k j ≡ false → ready_from g (recorded g (set xs j v)) k ≡ ready_from g (recorded g xs) k
    stays k e = ready_stays g (recorded g xs) (recorded g (set xs j v)) k j (λ i ne. same_other g xs j i v ne) e

    again : (k t : ℕ) → time_of w.agenda k ≡ Some t → (k ≡ j) ⊎ (k ≡ j → ⊥) → WaitsUntil g xs k t ⊎ CompletesIn g xs k t → WaitsUntil g (set xs j v) k t ⊎ CompletesIn g (set xs j v) k t
    again k t is (inl here) (inl u) = (
        let after : c < t = later k t is in
        let by : t ≤ c = ready_by g xs j c t (subst (λ i. ready_from g (recorded g xs) i ≡ Some t) here u.operands) operands in
        absurd (omega (arith, after, by)))
    again k t is (inl here) (inr u) = absurd (u.issued (ap (λ i. (times xs i).issue) here ∙ none))
    again k t is (inr ne) (inl u) = elim (cases_Bool (is_read_from g k j)) [
      | inl reads ↦ absurd (no_ready g xs k j t lt kept none reads u.operands)
      | inr free ↦ inl (waits_again g xs (set xs j v) k t (ap (λ (s : Times). s.issue) (times_set_other xs j k v ne)) (stays k free) u)
    ]
    again k t is (inr ne) (inr u) = inr (completes_still g (set xs j v) xs k t (sym (ap (λ (s : Times). s.issue) (times_set_other xs j k v ne))) (sym (ap (λ (s : Times). s.complete) (times_set_other xs j k v ne))) u)

-- A row dispatches, and issues where it is reserved

dispatch_known : (g : Input) (xs : List Times) (head c : ℕ) (v : Times) → head < length xs → (g.row head).reserved ≡ false → IsIssuedWith g xs head c v false → (k : ℕ) → SameIssue g xs (set xs head v) k
dispatch_known g xs head c v long free w k = elim (cases_eq k head) [
  | inr ne ↦ same_other g xs head k v ne
  | inl here ↦ subst (SameIssue g xs (set xs head v)) (sym here) (same_known g xs (set xs head v) head (λ lt. ap (λ t. recorded_in (g.row head) t (phase (g.row head))) (times_set_same xs head v long)
      ∙ subst (λ p. recorded_in (g.row head) v p ≡ recorded_in (g.row head) (times xs head) p) (sym (phase_free (g.row head) free)) (rw (w.0, w.2) refl)))
]

pub awake_dispatches : (g : Input) (xs : List Times) (w : Wakeup) (front head c : ℕ) (v : Times) → AreAwake g xs w front head c none_out → front ≤ head → head < front + 4096 → head < length xs → IsDispatched g xs head c v → AreAwake g (set xs head v) w front (head + 1) c (λ k. nat_eq k head)
awake_dispatches g xs w front head c v a order few long d = record {
  few = omega (arith, few);
  ready = λ k r lo hi e u. (let ne : k ≡ head → ⊥ = other k e in let less : k < head = omega (arith, hi, ne) in
      a.ready k r lo less refl (waits_still g xs (set xs head v) k r (times_set_other xs head k v ne) (stays k less) u));
  completes = λ k t lo hi e u. (let ne : k ≡ head → ⊥ = other k e in let less : k < head = omega (arith, hi, ne) in
      a.completes k t lo less refl (completes_still g xs (set xs head v) k t (ap (λ (s : Times). s.issue) (times_set_other xs head k v ne)) (ap (λ (s : Times). s.complete) (times_set_other xs head k v ne)) u));
  exact = λ k t lo hi is. (let old : (k < head) × (WaitsUntil g xs k t ⊎ CompletesIn g xs k t) = a.exact k t lo hi is in (omega (arith, old.0), again k t (old.0) (old.1)));
}
  where
    other : (k : ℕ) → nat_eq k head ≡ false → k ≡ head → ⊥
    other k e s = (let same : nat_eq k head ≡ true = grind (arith, nat_tests, s) in both_ways _ e same)

    -- no older row reads from it
    stays : (k : ℕ) → k < head → ready_from g (recorded g (set xs head v)) k ≡ ready_from g (recorded g xs) k
    stays k less = ready_stays g (recorded g xs) (recorded g (set xs head v)) k head (λ i ne. same_other g xs head i v ne) (elim (cases_Bool (is_read_from g k head)) [
      | inl reads ↦ absurd (omega (arith, reads_older g k head reads, less))
      | inr free ↦ free
    ])

    again : (k t : ℕ) → k < head → WaitsUntil g xs k t ⊎ CompletesIn g xs k t → WaitsUntil g (set xs head v) k t ⊎ CompletesIn g (set xs head v) k t
    again k t less (inl u) = (let ne : k ≡ head → ⊥ = λ e. omega (arith, e, less) in inl (waits_again g xs (set xs head v) k t (ap (λ (s : Times). s.issue) (times_set_other xs head k v ne)) (stays k less) u))
    again k t less (inr u) = (let ne : k ≡ head → ⊥ = λ e. omega (arith, e, less) in inr (completes_still g (set xs head v) xs k t (sym (ap (λ (s : Times). s.issue) (times_set_other xs head k v ne))) (sym (ap (λ (s : Times). s.complete) (times_set_other xs head k v ne))) u))

-- A row finds its place

not_out : (k i : ℕ) (out : ℕ → Bool) → except k out i ≡ false → (i ≡ k) ⊎ (out i ≡ false)
not_out k i out e = elim (cases_eq i k) [
  | inl here ↦ inl here
  | inr ne ↦ (let test : nat_eq i k ≡ false = grind (arith, nat_tests, ne) in inr (rw test at e))
]

-- it waits for no cycle that is known or its cycle has come
pub settle_none : (g : Input) (xs : List Times) (w : Wakeup) (front head c k : ℕ) (out : ℕ → Bool) → ((r : ℕ) → WaitsUntil g xs k r → ⊥) → ((t : ℕ) → CompletesIn g xs k t → t ≤ c) → AreAwake g xs w front head c out → AreAwake g xs w front head c (except k out)
settle_none g xs w front head c k out no_wait come a = record {
  few = a.few;
  ready = λ i r lo hi e u. elim (not_out k i out e) [
    | inl here ↦ absurd (no_wait r (subst (λ q. WaitsUntil g xs q r) here u))
    | inr in_it ↦ a.ready i r lo hi in_it u
  ];
  completes = λ i t lo hi e u. elim (not_out k i out e) [
    | inl here ↦ inl (come t (subst (λ q. CompletesIn g xs q t) here u))
    | inr in_it ↦ a.completes i t lo hi in_it u
  ];
  exact = a.exact;
}

same_ready : (g : Input) (xs : List Times) (k r t : ℕ) → WaitsUntil g xs k r → WaitsUntil g xs k t → r ≡ t
same_ready g xs k r t a b = some_is r t (sym a.operands ∙ b.operands)
  where
    some_is : (x y : ℕ) → Some x ≡ Some y → x ≡ y
    some_is x y e = cc

-- it is ready
pub settle_ready : (g : Input) (xs : List Times) (w : Wakeup) (ready : ReadyRows) (front head c k r : ℕ) (out : ℕ → Bool) → ((q j : ℕ) → q < 64 → has_row ready q j ≡ ((nat_eq q (class_of (g.row k).uses) && same_place j k) || has_row w.ready q j)) → ((u : _) → class_of u < 64)
    → WaitsUntil g xs k r → r ≤ c → AreAwake g xs w front head c out → AreAwake g xs (record { ready = ready; agenda = w.agenda }) front head c (except k out)
settle_ready g xs w ready front head c k r out is low waits by a = record {
  few = a.few;
  ready = λ i t lo hi e u. elim (not_out k i out e) [
    | inl here ↦ inl (omega (arith, same_ready g xs k r t waits (subst (λ q. WaitsUntil g xs q t) here u), by), subst (λ q. has_row ready (class_of (g.row q).uses) q ≡ true) (sym here) (mine (class_of (g.row k).uses) _ (is (class_of (g.row k).uses) k (low (g.row k).uses))))
    | inr in_it ↦ elim (a.ready i t lo hi in_it u) [
      | inl p ↦ inl (p.0, is (class_of (g.row i).uses) i (low (g.row i).uses) ∙ rest (nat_eq (class_of (g.row i).uses) (class_of (g.row k).uses) && same_place i k) _ p.1)
      | inr p ↦ inr p
    ]
  ];
  completes = λ i t lo hi e u. elim (not_out k i out e) [
    | inl here ↦ absurd (u.issued (ap (λ q. (times xs q).issue) here ∙ waits.waits))
    | inr in_it ↦ a.completes i t lo hi in_it u
  ];
  exact = a.exact;
}
  where
    rest : (x y : Bool) → y ≡ true → (x || y) ≡ true
    rest true y e = refl
    rest false y e = e

    mine : (q : ℕ) (y : Bool) → has_row ready q k ≡ ((nat_eq q q && same_place k k) || y) → has_row ready q k ≡ true
    mine q y e = (let one : nat_eq q q ≡ true = grind (arith, nat_tests) in let two : nat_eq (k % 4096) (k % 4096) ≡ true = grind (arith, nat_tests) in e ∙ rw (one, two) refl)

-- it is on the agenda
pub settle_agenda : (g : Input) (xs : List Times) (w : Wakeup) (agenda : Agenda) (front head c k t : ℕ) (out : ℕ → Bool) → ((j : ℕ) → time_of agenda j ≡ (if same_place j k then Some t else time_of w.agenda j)) → front ≤ k → k < head
    → WaitsUntil g xs k t ⊎ CompletesIn g xs k t → AreAwake g xs w front head c out → AreAwake g xs (record { ready = w.ready; agenda = agenda }) front head c (except k out)
settle_agenda g xs w agenda front head c k t out is lo_k hi_k own a = record {
  few = a.few;
  ready = λ i r lo hi e u. elim (cases_eq i k) [
    | inl here ↦ inr (subst (λ q. time_of agenda q ≡ Some r) (sym here) (mine ∙ ap Some (by_waits own r (subst (λ q. WaitsUntil g xs q r) here u))))
    | inr ne ↦ elim (a.ready i r lo hi (left_in i ne e) u) [
      | inl p ↦ inl p
      | inr p ↦ inr (others i lo (omega (arith, hi, a.few)) ne ∙ p)
    ]
  ];
  completes = λ i r lo hi e u. elim (cases_eq i k) [
    | inl here ↦ inr (subst (λ q. time_of agenda q ≡ Some r) (sym here) (mine ∙ ap Some (by_completes own r (subst (λ q. CompletesIn g xs q r) here u))))
    | inr ne ↦ elim (a.completes i r lo hi (left_in i ne e) u) [
      | inl p ↦ inl p
      | inr p ↦ inr (others i lo (omega (arith, hi, a.few)) ne ∙ p)
    ]
  ];
  exact = λ i r lo hi e. elim (cases_eq i k) [
    | inl here ↦ (
        let same : t ≡ r = some_is t r (sym mine ∙ subst (λ q. time_of agenda q ≡ Some r) here e) in
        (omega (arith, here, hi_k), subst (λ q. WaitsUntil g xs q r ⊎ CompletesIn g xs q r) (sym here) (subst (λ n. WaitsUntil g xs k n ⊎ CompletesIn g xs k n) same own)))
    | inr ne ↦ a.exact i r lo hi (sym (others i lo hi ne) ∙ e)
  ];
}
  where
    some_is : (x y : ℕ) → Some x ≡ Some y → x ≡ y
    some_is x y e = cc

    left_in : (i : ℕ) → (i ≡ k → ⊥) → except k out i ≡ false → out i ≡ false
    left_in i ne e = elim (not_out k i out e) [ inl here ↦ absurd (ne here) | inr in_it ↦ in_it ]

    mine : time_of agenda k ≡ Some t
    mine = (let two : nat_eq (k % 4096) (k % 4096) ≡ true = grind (arith, nat_tests) in is k ∙ rw two refl)

    others : (i : ℕ) → front ≤ i → i < front + 4096 → (i ≡ k → ⊥) → time_of agenda i ≡ time_of w.agenda i
    others i lo hi ne = (let two : same_place i k ≡ false = apart front i k lo hi lo_k (omega (arith, hi_k, a.few)) ne in is i ∙ rw two refl)

    by_waits : WaitsUntil g xs k t ⊎ CompletesIn g xs k t → (r : ℕ) → WaitsUntil g xs k r → t ≡ r
    by_waits (inl u) r v = same_ready g xs k t r u v
    by_waits (inr u) r v = absurd (u.issued v.waits)

    by_completes : WaitsUntil g xs k t ⊎ CompletesIn g xs k t → (r : ℕ) → CompletesIn g xs k r → t ≡ r
    by_completes (inl u) r v = absurd (v.issued u.waits)
    by_completes (inr u) r v = u.complete ∙ sym v.complete

pub later_put : (old agenda : Agenda) (c k t : ℕ) → ((j : ℕ) → time_of agenda j ≡ (if same_place j k then Some t else time_of old j)) → c < t → AllLater old c → AllLater agenda c
later_put old agenda c k t is after later j r e = elim (cases_Bool (same_place j k)) [
  | inl here ↦ (let same : t ≡ r = some_is t r (sym (is j ∙ rw here refl) ∙ e) in omega (arith, same, after))
  | inr ne ↦ later j r (sym (is j ∙ rw ne refl) ∙ e)
]
  where
    some_is : (x y : ℕ) → Some x ≡ Some y → x ≡ y
    some_is x y e = cc

-- a row that is on the agenda stands there with its own time
pub own_time : (g : Input) (xs : List Times) (w : Wakeup) (front head c k t : ℕ) (out : ℕ → Bool) → AreAwake g xs w front head c out → front ≤ k → k < head → time_of w.agenda k ≡ Some t → WaitsUntil g xs k t ⊎ CompletesIn g xs k t
own_time g xs w front head c k t out a lo hi is = (a.exact k t lo (omega (arith, hi, a.few)) is).1

-- a row that has issued is ready no more
pub awake_leaves : (g : Input) (xs : List Times) (w : Wakeup) (ready : ReadyRows) (front head c k : ℕ) (out : ℕ → Bool) → ((q j : ℕ) → q < 64 → has_row ready q j ≡ (not (nat_eq q (class_of (g.row k).uses) && same_place j k) && has_row w.ready q j)) → ((u : _) → class_of u < 64)
    → front ≤ k → k < head → ((times xs k).issue ≡ never → ⊥) → AreAwake g xs w front head c out → AreAwake g xs (record { ready = ready; agenda = w.agenda }) front head c out
awake_leaves g xs w ready front head c k out is low lo_k hi_k issued a = record {
  few = a.few;
  ready = λ i r lo hi e u. elim (a.ready i r lo hi e u) [
    | inl p ↦ (
        let ne : i ≡ k → ⊥ = λ s. issued (sym (ap (λ q. (times xs q).issue) s) ∙ u.waits) in
        let two : same_place i k ≡ false = apart front i k lo (omega (arith, hi, a.few)) lo_k (omega (arith, hi_k, a.few)) ne in
        inl (p.0, is (class_of (g.row i).uses) i (low (g.row i).uses) ∙ rw two (kept (nat_eq (class_of (g.row i).uses) (class_of (g.row k).uses)) _ p.1)))
    | inr p ↦ inr p
  ];
  completes = a.completes;
  exact = a.exact;
}
  where
    kept : (x y : Bool) → y ≡ true → (not (x && false) && y) ≡ true
    kept true y e = e
    kept false y e = e

-- Rows whose cycle has come are ready

pub awake_taken : (g : Input) (xs : List Times) (w : Wakeup) (agenda : Agenda) (ready : ReadyRows) (front head c k t : ℕ) → AreAwake g xs w front head c none_out → front ≤ k → k < front + 4096 → time_of w.agenda k ≡ Some t → t ≤ c → ((j : ℕ) → time_of agenda j ≡ (if same_place j k then None else time_of w.agenda j))
    → ((q j : ℕ) → q < 64 → has_row w.ready q j ≡ true → has_row ready q j ≡ true) → ((times xs k).issue ≡ never → has_row ready (class_of (g.row k).uses) k ≡ true) → ((u : _) → class_of u < 64)
    → AreAwake g xs (record { ready = ready; agenda = agenda }) front head c none_out
awake_taken g xs w agenda ready front head c k t a lo_k hi_k was come is more found low = record {
  few = a.few;
  ready = λ i r lo hi e u. elim (a.ready i r lo hi e u) [
    | inl p ↦ inl (p.0, more (class_of (g.row i).uses) i (low (g.row i).uses) p.1)
    | inr p ↦ elim (cases_eq i k) [
      | inl here ↦ (
          let same : t ≡ r = some_is t r (sym was ∙ subst (λ q. time_of w.agenda q ≡ Some r) here p) in
          inl (omega (arith, same, come), subst (λ q. has_row ready (class_of (g.row q).uses) q ≡ true) (sym here) (found (sym (ap (λ q. (times xs q).issue) here) ∙ u.waits))))
      | inr ne ↦ inr (others i lo (omega (arith, hi, a.few)) ne ∙ p)
    ]
  ];
  completes = λ i r lo hi e u. elim (a.completes i r lo hi e u) [
    | inl p ↦ inl p
    | inr p ↦ elim (cases_eq i k) [
      | inl here ↦ (let same : t ≡ r = some_is t r (sym was ∙ subst (λ q. time_of w.agenda q ≡ Some r) here p) in inl (omega (arith, same, come)))
      | inr ne ↦ inr (others i lo (omega (arith, hi, a.few)) ne ∙ p)
    ]
  ];
  exact = λ i r lo hi e. elim (cases_Bool (same_place i k)) [
    | inl here ↦ absurd (nothing r (sym (is i ∙ rw here refl) ∙ e))
    | inr ne ↦ a.exact i r lo hi (sym (is i ∙ rw ne refl) ∙ e)
  ];
}
  where
    some_is : (x y : ℕ) → Some x ≡ Some y → x ≡ y
    some_is x y e = cc

    nothing : (r : ℕ) → None ≡ Some r → ⊥
    nothing r e = cc

    others : (i : ℕ) → front ≤ i → i < front + 4096 → (i ≡ k → ⊥) → time_of agenda i ≡ time_of w.agenda i
    others i lo hi ne = (let two : same_place i k ≡ false = apart front i k lo hi lo_k hi_k ne in is i ∙ rw two refl)

-- How many rows wait for a cycle

abbrev pub waiting : Agenda → ℕ
waiting agenda = count_below 4096 (λ q. is_some (time_of agenda q))

less_equal : (a b : Bool) → (a ≡ true → b ≡ true) → (if a then 1 else 0) ≤ (if b then 1 else 0)
less_equal true b h = rw (h refl) (omega arith)
less_equal false b h = omega arith

count_up : (n : ℕ) (p q : ℕ → Bool) → ((v : ℕ) → q v ≡ true → p v ≡ true) → count_below n q ≤ count_below n p
unfolding count_below
count_up zero p q h = omega arith
count_up (suc n) p q h = omega (arith, count_up n p q h, less_equal (q n) (p n) (h n))

count_fewer : (n k : ℕ) (p q : ℕ → Bool) → k < n → p k ≡ true → q k ≡ false → ((v : ℕ) → q v ≡ true → p v ≡ true) → count_below n q < count_below n p
unfolding count_below
count_fewer zero k p q lt yes_p no_q h = absurd (omega (arith, lt))
count_fewer (suc n) k p q lt yes_p no_q h = elim (cases_eq k n) [
  | inl here ↦ (
      let in_p : p n ≡ true = subst (λ i. p i ≡ true) here yes_p in
      let out_q : q n ≡ false = subst (λ i. q i ≡ false) here no_q in
      let up : count_below n q ≤ count_below n p = count_up n p q h in
      rw (in_p, out_q) (omega (arith, up)))
  | inr ne ↦ omega (arith, count_fewer n k p q (omega (arith, lt, ne)) yes_p no_q h, less_equal (q n) (p n) (h n))
]

pub taken_fewer : (old new : Agenda) (start c k : ℕ) → IsTaken old new start c k → waiting new < waiting old
taken_fewer old new start c k t = count_fewer 4096 (k % 4096) (λ q. is_some (time_of old q)) (λ q. is_some (time_of new q)) (omega arith)
    (some_of _ _ (time_place old (k % 4096) k again ∙ t.waits)) (none_of _ (t.rest (k % 4096) ∙ (let test : nat_eq (k % 4096 % 4096) (k % 4096) ≡ true = grind (arith, nat_tests, again) in rw test refl)))
    (λ v e. kept (same_place v k) (time_of old v) (ap is_some (sym (t.rest v)) ∙ e))
  where
    again : k % 4096 % 4096 ≡ k % 4096
    again = omega arith

    some_of : (o : Option ℕ) (x : ℕ) → o ≡ Some x → is_some o ≡ true
    some_of None x e = cc
    some_of (Some y) x e = refl

    none_of : (o : Option ℕ) → o ≡ None → is_some o ≡ false
    none_of None e = refl
    none_of (Some y) e = cc

    kept : (b : Bool) (o : Option ℕ) → is_some (if b then None else o) ≡ true → is_some o ≡ true
    kept true o e = cc
    kept false o e = e

-- A row that is put in is ready

pub roused : (old ready : ReadyRows) (class k q : ℕ) → ((r j : ℕ) → r < 64 → has_row ready r j ≡ ((nat_eq r class && same_place j k) || has_row old r j)) → class < 64 → q ≡ class → has_row ready q k ≡ true
roused old ready class k q is low e =
    let one : nat_eq class class ≡ true = grind (arith, nat_tests) in
    let two : nat_eq (k % 4096) (k % 4096) ≡ true = grind (arith, nat_tests) in
    subst (λ r. has_row ready r k ≡ true) (sym e) (is class k low ∙ rw (one, two) refl)

-- The rows that are left out while readers find their places

-- row k is among those that stand some numbers of rows after row j
abbrev pub still_out : ℕ → List ℕ → ℕ → Bool
still_out j ds k = nat_lt j k && list_any (nat_eq (k - j)) ds

pub out_first : (g : Input) (j front head c : ℕ) (xs : List Times) (w : Wakeup) (ds : List ℕ) → head ≤ g.rows → ((k : ℕ) → j < k → k < g.rows → is_read_from g k j ≡ true → list_any (nat_eq (k - j)) ds ≡ true)
    → AreAwake g xs w front head c (except j (reads_from g j)) → AreAwake g xs w front head c (still_out j ds)
out_first g j front head c xs w ds within all a = awake_out g xs w front head c (except j (reads_from g j)) (still_out j ds) (λ k lo hi e. less k hi e) a
  where
    or_out : (x y : Bool) → x ≡ false → y ≡ false → (not x && (x || y)) ≡ false
    or_out true y p q = cc
    or_out false y p q = q

    not_self : (y : Bool) → (not true && (true || y)) ≡ false
    not_self y = refl

    less : (k : ℕ) → k < head → still_out j ds k ≡ false → except j (reads_from g j) k ≡ false
    less k hi e = elim (cases_eq k j) [
      | inl here ↦ (let test : nat_eq k j ≡ true = grind (arith, nat_tests, here) in rw test (not_self (is_read_from g k j)))
      | inr ne ↦ (let test : nat_eq k j ≡ false = grind (arith, nat_tests, ne) in or_out (nat_eq k j) (is_read_from g k j) test (elim (cases_Bool (is_read_from g k j)) [
        | inr free ↦ free
        | inl reads ↦ (
            let older : j < k = reads_older g k j reads in
            let before : nat_lt j k ≡ true = grind (arith, nat_tests, older) in
            absurd (both_ways _ e (rw (before, all k older (omega (arith, hi, within)) reads) refl)))
      ]))
    ]

-- row k is the one that the next number names
drop_one : (j k q d : ℕ) (ds : List ℕ) → k ≡ j + d → still_out j ds q ≡ false → except k (still_out j (d ∷ ds)) q ≡ false
drop_one j k q d ds is e = elim (cases_eq q k) [
  | inl here ↦ (let test : nat_eq q k ≡ true = grind (arith, nat_tests, here) in rw test refl)
  | inr ne ↦ (let test : nat_eq q k ≡ false = grind (arith, nat_tests, ne) in rw test (elim (cases_lt j q) [
    | inr before ↦ (let low : nat_lt j q ≡ false = grind (arith, nat_tests, before) in rw low refl)
    | inl after ↦ (
        let low : nat_lt j q ≡ true = grind (arith, nat_tests, after) in
        let other : q - j ≡ d → ⊥ = λ s. ne (omega (arith, s, is, after)) in
        let apart : nat_eq (q - j) d ≡ false = grind (arith, nat_tests, other) in
        rw (low, apart) (rw low at e))
  ]))
]

pub out_next : (g : Input) (j k front head c i : ℕ) (xs : List Times) (w : Wakeup) (ds : List ℕ) → i < length ds → k ≡ j + get_or ds i 0
    → AreAwake g xs w front head c (except k (still_out j (drop i ds))) → AreAwake g xs w front head c (still_out j (drop (i + 1) ds))
out_next g j k front head c i xs w ds lt is a = awake_out g xs w front head c (except k (still_out j (drop i ds))) (still_out j (drop (i + 1) ds)) (λ q lo hi e. less q e) a
  where
    less : (q : ℕ) → still_out j (drop (i + 1) ds) q ≡ false → except k (still_out j (drop i ds)) q ≡ false
    less q e = subst (λ (ns : List ℕ). except k (still_out j ns) q ≡ false) (sym (drop_more ds i 0 lt)) (drop_one j k q (get_or ds i 0) (drop (i + 1) ds) is e)

pub out_beyond : (g : Input) (j k front head c i : ℕ) (xs : List Times) (w : Wakeup) (ds : List ℕ) → i < length ds → k ≡ j + get_or ds i 0 → head ≤ k
    → AreAwake g xs w front head c (still_out j (drop i ds)) → AreAwake g xs w front head c (still_out j (drop (i + 1) ds))
out_beyond g j k front head c i xs w ds lt is beyond a = awake_out g xs w front head c (still_out j (drop i ds)) (still_out j (drop (i + 1) ds)) (λ q lo hi e. less q hi e) a
  where
    less : (q : ℕ) → q < head → still_out j (drop (i + 1) ds) q ≡ false → still_out j (drop i ds) q ≡ false
    less q hi e = (
        let ne : nat_eq q k ≡ false = grind (arith, nat_tests, hi, beyond) in
        rw ne at (subst (λ (ns : List ℕ). except k (still_out j ns) q ≡ false) (sym (drop_more ds i 0 lt)) (drop_one j k q (get_or ds i 0) (drop (i + 1) ds) is e)))

pub out_last : (g : Input) (j front head c i : ℕ) (xs : List Times) (w : Wakeup) (ds : List ℕ) → length ds ≤ i → AreAwake g xs w front head c (still_out j (drop i ds)) → AreAwake g xs w front head c none_out
out_last g j front head c i xs w ds le a = awake_out g xs w front head c (still_out j (drop i ds)) none_out (λ q lo hi e. none q) a
  where
    and_false : (x : Bool) → (x && false) ≡ false
    and_false true = refl
    and_false false = refl

    none : (q : ℕ) → still_out j (drop i ds) q ≡ false
    none q = subst (λ (ns : List ℕ). still_out j ns q ≡ false) (sym (drop_of_length-le ds le)) (and_false (nat_lt j q))

-- nothing is taken off the agenda
pub awake_agenda : (g : Input) (xs : List Times) (w : Wakeup) (agenda : Agenda) (front head c : ℕ) (out : ℕ → Bool) → ((j : ℕ) → time_of agenda j ≡ time_of w.agenda j) → AreAwake g xs w front head c out → AreAwake g xs (record { ready = w.ready; agenda = agenda }) front head c out
awake_agenda g xs w agenda front head c out same a = record {
  few = a.few;
  ready = λ k r lo hi e u. elim (a.ready k r lo hi e u) [
    | inl p ↦ inl p
    | inr p ↦ inr (same k ∙ p)
  ];
  completes = λ k t lo hi e u. elim (a.completes k t lo hi e u) [
    | inl p ↦ inl p
    | inr p ↦ inr (same k ∙ p)
  ];
  exact = λ k t lo hi is. a.exact k t lo hi (sym (same k) ∙ is);
}

-- the row that dispatched has found its place
pub awake_entered : (g : Input) (xs : List Times) (w : Wakeup) (front head k c : ℕ) → AreAwake g xs w front head c (except k (λ i. nat_eq i k)) → AreAwake g xs w front head c none_out
awake_entered g xs w front head k c a = awake_out g xs w front head c (except k (λ i. nat_eq i k)) none_out (λ i lo hi e. never_both (nat_eq i k)) a
  where
    never_both : (b : Bool) → (not b && b) ≡ false
    never_both true = refl
    never_both false = refl
