-- A schedule of a table's events is a run, and a row that retires has issued and dispatched.
use Rattle.std.proofs.Common.{◌≡◌, ℕ, ◌+◌, ◌<◌, ◌⊎◌, inl, inr, List, [], arith, sym, ◌∙◌, ap, subst, refl, Bool, true, false, ◌&&◌, not, cond}
use Rattle.std.specs.Prelude.{nat_lt, if◌then◌else◌, Option, Some, None}
use Rattle.std.proofs.lemmas.Bool.Decides.{nat_tests}
use Rattle.cycle_rules.specs.Below.{Least}
use Rattle.cycle_rules.specs.Schedule.{Fall, Known, key, seen, event, FallsFirst, IsFirst, IsSchedule}
use Rattle.cycle_rules.specs.Row.{Input, Table, phase}
use Rattle.cycle_rules.specs.Pick.{pick, padded}
use Rattle.cycle_rules.specs.Issue.{can_issue}
use Rattle.cycle_rules.specs.Retire.{can_retire}
use Rattle.cycle_rules.specs.Events.{events, cycle_or, units_or_none, in_cycle, may_fall, units_taken, rules_of}
use Rattle.cycle_rules.proofs.TableEvents.{events_of, sees_events, IsKept, IsEventIssue, IsEventRow}
use Rattle.cycle_rules.proofs.Rows.{allowed_at, takes_at, least_along, phase_reserved, phase_free, takes_units, event_below, event_of_row}
use Rattle.cycle_rules.proofs.Sees.{choose_true, choose_false, known_none}

-- A schedule in which each event of a row falls is a run

-- the event of a row that falls
pub falls_of : (g : Input) (bound : ℕ) (v : Known (List ℕ)) (p j : ℕ) (f : Fall (List ℕ)) → IsSchedule (rules_of g) (events g) bound v → p < 3 → j < g.rows → v (event g.rows p j) ≡ Some f
    → FallsFirst (rules_of g) (events g) bound v (event g.rows p j) f
falls_of g bound v p j f h three lt is = subst (IsFirst (rules_of g) (events g) bound v (event g.rows p j)) is (h (event g.rows p j) (event_below g p j three lt))

abbrev pub at_event : Input → Known (List ℕ) → ℕ → ℕ → ℕ → Known (List ℕ)
at_event g v p j c = seen (events g) (key (events g) c (event g.rows p j)) v

pub least_of : (g : Input) (bound : ℕ) (v : Known (List ℕ)) (p j : ℕ) (f : Fall (List ℕ)) → IsSchedule (rules_of g) (events g) bound v → p < 3 → j < g.rows → v (event g.rows p j) ≡ Some f
    → Least (λ c. may_fall g (at_event g v p j c) c p j) f.cycle
least_of g bound v p j f h three lt is = least_along _ _ f.cycle (λ c. allowed_at g (at_event g v p j c) c p j lt) (falls_of g bound v p j f h three lt is).least

pub what_of : (g : Input) (bound : ℕ) (v : Known (List ℕ)) (p j : ℕ) (f : Fall (List ℕ)) → IsSchedule (rules_of g) (events g) bound v → p < 3 → j < g.rows → v (event g.rows p j) ≡ Some f
    → f.what ≡ units_taken g (at_event g v p j f.cycle) f.cycle p j
what_of g bound v p j f h three lt is = (falls_of g bound v p j f h three lt is).what ∙ takes_at g (at_event g v p j f.cycle) f.cycle p j lt

row_issue : (g : Input) (t : Table) (bound j : ℕ) → IsSchedule (rules_of g) (events g) bound (events_of g t) → IsKept (g.row j) (t j) → j < g.rows → (b : Bool) → (g.row j).reserved ≡ b → IsEventIssue g t j b
row_issue g t bound j h kept lt true is = kept.together is
row_issue g t bound j h kept lt false is =
    let falls : events_of g t (event g.rows 1 j) ≡ Some (record { cycle = (t j).issue; what = (t j).units }) = event_of_row g t 1 j (omega arith) lt ∙ choose_false (g.row j).reserved _ _ is in
    least_along _ _ (t j).issue (λ c. ap (λ b. not b && can_issue g (sees_events g t 1 j c) j c) is) (least_of g bound (events_of g t) 1 j (record { cycle = (t j).issue; what = (t j).units }) h (omega arith) lt falls)

row_units : (g : Input) (t : Table) (bound j : ℕ) → IsSchedule (rules_of g) (events g) bound (events_of g t) → IsKept (g.row j) (t j) → j < g.rows → (b : Bool) → (g.row j).reserved ≡ b
    → (t j).units ≡ padded (pick g (sees_events g t (phase (g.row j)) j (t j).issue) j (t j).issue)
row_units g t bound j h kept lt true is =
    let two : phase (g.row j) ≡ 2 = phase_reserved (g.row j) is in
    let f : Fall (List ℕ) = record { cycle = (t j).dispatch; what = if (g.row j).reserved then (t j).units else [] } in
    let units : (t j).units ≡ padded (pick g (sees_events g t 2 j (t j).dispatch) j (t j).dispatch) =
    sym (choose_true (g.row j).reserved (t j).units [] is) ∙ what_of g bound (events_of g t) 2 j f h (omega arith) lt (event_of_row g t 2 j (omega arith) lt)
    ∙ takes_units g (at_event g (events_of g t) 2 j (t j).dispatch) (t j).dispatch 2 j (sym two) in
    subst (λ p. (t j).units ≡ padded (pick g (sees_events g t p j (t j).issue) j (t j).issue)) (sym two)
    (subst (λ c. (t j).units ≡ padded (pick g (sees_events g t 2 j c) j c)) (sym (kept.together is)) units)
row_units g t bound j h kept lt false is =
    let one : phase (g.row j) ≡ 1 = phase_free (g.row j) is in
    let f : Fall (List ℕ) = record { cycle = (t j).issue; what = (t j).units } in
    let falls : events_of g t (event g.rows 1 j) ≡ Some f = event_of_row g t 1 j (omega arith) lt ∙ choose_false (g.row j).reserved _ _ is in
    let units : (t j).units ≡ padded (pick g (sees_events g t 1 j (t j).issue) j (t j).issue) =
    what_of g bound (events_of g t) 1 j f h (omega arith) lt falls ∙ takes_units g (at_event g (events_of g t) 1 j (t j).issue) (t j).issue 1 j (sym one) in
    subst (λ p. (t j).units ≡ padded (pick g (sees_events g t p j (t j).issue) j (t j).issue)) (sym one) units

-- a schedule of a table's events is a run
pub schedule_row : (g : Input) (t : Table) (bound j : ℕ) → IsSchedule (rules_of g) (events g) bound (events_of g t) → IsKept (g.row j) (t j) → j < g.rows → IsEventRow g t j
schedule_row g t bound j h kept lt = record {
  dispatch = least_of g bound (events_of g t) 2 j (record { cycle = (t j).dispatch; what = if (g.row j).reserved then (t j).units else [] }) h (omega arith) lt (event_of_row g t 2 j (omega arith) lt);
  issue = row_issue g t bound j h kept lt (g.row j).reserved refl;
  complete = kept.complete;
  retire = least_of g bound (events_of g t) 0 j (record { cycle = (t j).retire; what = [] }) h (omega arith) lt (event_of_row g t 0 j (omega arith) lt);
  units = row_units g t bound j h kept lt (g.row j).reserved refl;
}

-- A row that has retired has issued and dispatched

pub unseen : (m k e : ℕ) (v : Known (List ℕ)) → v e ≡ None → seen m k v e ≡ None
unseen m k e v none = rw none (nothing (nat_lt e m))
  where
    nothing : (b : Bool) → ◌≡◌ {A = Option (Fall (List ℕ))} (cond b None None) None
    nothing true = refl
    nothing false = refl

pub first_true : (a b : Bool) → (a && b) ≡ true → a ≡ true
first_true true b e = refl
first_true false b e = cc

pub second_true : (a b : Bool) → (a && b) ≡ true → b ≡ true
second_true true b e = e
second_true false b e = cc

not_after : (c n : ℕ) → nat_lt (c + 1 + n) c ≡ true → ⊥
not_after c n e = grind (arith, nat_tests, e)

not_next : (c : ℕ) → nat_lt (c + 1) c ≡ true → ⊥
not_next c e = grind (arith, nat_tests, e)

pub retire_needs : (g : Input) (known : Known (List ℕ)) (j c : ℕ) → can_retire g (in_cycle g c known) j c ≡ true → known (event g.rows (phase (g.row j)) j) ≡ None → ⊥
unfolding can_retire
retire_needs g known j c can none = not_after c (g.row j).latency (sym (ap (λ o. nat_lt (cycle_or (c + 1) o + (g.row j).latency) c) (known_none g known (phase (g.row j)) j none)) ∙ first_true _ _ (first_true _ _ can))

pub leave_needs : (g : Input) (known : Known (List ℕ)) (j c : ℕ) → can_issue g (in_cycle g c known) j c ≡ true → known (event g.rows 2 j) ≡ None → ⊥
unfolding can_issue
leave_needs g known j c can none = not_next c (sym (ap (λ o. nat_lt (cycle_or (c + 1) o) c) (known_none g known 2 j none)) ∙ first_true _ _ can)

-- an event that falls
pub some_of : (bound : ℕ) (o : Option (Fall (List ℕ))) → (o ≡ None → ⊥) → o ≡ Some (record { cycle = cycle_or bound o; what = units_or_none o })
some_of bound None there = absurd (there refl)
some_of bound (Some f) there = refl

pub cases_option : {A : Type 0} (o : Option A) → (o ≡ None) ⊎ ((x : A) × (o ≡ Some x))
cases_option None = inl refl
cases_option (Some x) = inr (x, refl)

pub apart : true ≡ false → ⊥
apart e = cc

-- which events of a row that retires fall
pub record Falls (g : Input) (v : Known (List ℕ)) (j : ℕ) : Type 0 where
  pub retires : v (event g.rows 0 j) ≡ None → ⊥
  pub issues : v (event g.rows (phase (g.row j)) j) ≡ None → ⊥
  pub dispatches : v (event g.rows 2 j) ≡ None → ⊥

row_dispatches : (g : Input) (bound : ℕ) (v : Known (List ℕ)) (j : ℕ) → IsSchedule (rules_of g) (events g) bound v → j < g.rows → (v (event g.rows (phase (g.row j)) j) ≡ None → ⊥)
    → (b : Bool) → (g.row j).reserved ≡ b → v (event g.rows 2 j) ≡ None → ⊥
row_dispatches g bound v j h lt issues true is none = issues (subst (λ p. v (event g.rows p j) ≡ None) (sym (phase_reserved (g.row j) is)) none)
row_dispatches g bound v j h lt issues false is none =
    let f : Fall (List ℕ) = record { cycle = cycle_or bound (v (event g.rows 1 j)); what = units_or_none (v (event g.rows 1 j)) } in
    let falls : v (event g.rows 1 j) ≡ Some f = some_of bound (v (event g.rows 1 j)) (subst (λ p. v (event g.rows p j) ≡ None → ⊥) (phase_free (g.row j) is) issues) in
    let allowed : may_fall g (at_event g v 1 j f.cycle) f.cycle 1 j ≡ true = (least_of g bound v 1 j f h (omega arith) lt falls).holds in
    leave_needs g (at_event g v 1 j f.cycle) j f.cycle (second_true _ _ allowed) (unseen _ _ _ v none)

pub row_falls : (g : Input) (bound : ℕ) (v : Known (List ℕ)) (j : ℕ) → IsSchedule (rules_of g) (events g) bound v → j < g.rows → (v (event g.rows 0 j) ≡ None → ⊥) → Falls g v j
row_falls g bound v j h lt retires =
    let f : Fall (List ℕ) = record { cycle = cycle_or bound (v (event g.rows 0 j)); what = units_or_none (v (event g.rows 0 j)) } in
    let can : may_fall g (at_event g v 0 j f.cycle) f.cycle 0 j ≡ true = (least_of g bound v 0 j f h (omega arith) lt (some_of bound (v (event g.rows 0 j)) retires)).holds in
    let issues : v (event g.rows (phase (g.row j)) j) ≡ None → ⊥ = λ none. retire_needs g (at_event g v 0 j f.cycle) j f.cycle can (unseen _ _ _ v none) in
    record { retires = retires; issues = issues; dispatches = row_dispatches g bound v j h lt issues (g.row j).reserved refl }
