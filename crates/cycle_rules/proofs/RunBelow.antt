-- Where all rows retire below a bound by the rules, the table that they give below it is the run.
use Rattle.std.proofs.Common.{zero, suc, ◌≡◌, ℕ, ◌+◌, ◌/◌, ◌%◌, ◌<◌, ◌≤◌, inl, inr, List, [], arith, sym, ◌∙◌, ap, subst, refl, Bool, true, false, not}
use Rattle.std.specs.Prelude.{nat_lt, if◌then◌else◌, Option, Some, None, is_some}
use Rattle.std.proofs.lemmas.Bool.Decides.{nat_tests}
use Rattle.std.proofs.lemmas.Bool.{cases_lt}
use Rattle.std.proofs.lemmas.List.FromFn.{length-map-range_with_len, get_or-map-range_with_len}
use Rattle.cycle_rules.specs.Schedule.{Fall, Known, Rules, key, if_before, seen, event, IsFirst, IsSchedule, made}
use Rattle.cycle_rules.specs.Row.{Input, Table, times, no_times, phase}
use Rattle.cycle_rules.specs.Events.{events, cycle_or, units_or_none, table_of, may_fall, rules_of, run_below, retired_below}
use Rattle.cycle_rules.specs.Run.{IsRunOf}
use Rattle.cycle_rules.specs.declared.times.Times.{Times}
use Rattle.cycle_rules.proofs.TableEvents.{event_in, events_of, IsKept}
use Rattle.cycle_rules.proofs.Sees.{known_in, run_rows}
use Rattle.cycle_rules.proofs.Counts.{count_all}
use Rattle.cycle_rules.proofs.Exists.{schedule_exists}
use Rattle.cycle_rules.proofs.Rows.{phase_reserved, phase_free, phase_some, takes_none, event_of_row, IsEvent, event_is}
use Rattle.cycle_rules.proofs.Falls.{falls_of, at_event, least_of, what_of, some_of, cases_option, apart, first_true, schedule_row, Falls, row_falls}

-- a schedule looks at the events alone
seen_along : {P : Type 0} (m k : ℕ) (v w : Known P) → ((e : ℕ) → e < m → v e ≡ w e) → seen m k v ≡ seen m k w
seen_along {P} m k v w same = λ i e. at_one e i
  where
    at_one : (e : ℕ) → seen m k v e ≡ seen m k w e
    at_one e = elim (cases_lt e m) [
      | inl low ↦ ap (λ o. if nat_lt e m then if_before m k e o else None) (same e low)
      | inr high ↦ (let outside : nat_lt e m ≡ false = grind (arith, nat_tests, high) in rw outside refl)
    ]

first_along : {P : Type 0} (r : Rules P) (m bound e : ℕ) (v w : Known P) → ((k : ℕ) → seen m k v ≡ seen m k w) → (o : Option (Fall P)) → IsFirst r m bound v e o → IsFirst r m bound w e o
first_along r m bound e v w same None h = λ c lt. subst (λ s. r.allowed s c e ≡ false) (same (key m c e)) (h c lt)
first_along r m bound e v w same (Some f) h = record {
  within = h.within;
  least = record {
    holds = subst (λ s. r.allowed s f.cycle e ≡ true) (same (key m f.cycle e)) h.least.holds;
    below = λ b lt. subst (λ s. r.allowed s b e ≡ false) (same (key m b e)) (h.least.below b lt);
  };
  what = subst (λ s. f.what ≡ r.takes s f.cycle e) (same (key m f.cycle e)) h.what;
}

pub schedule_along : {P : Type 0} (r : Rules P) (m bound : ℕ) (v w : Known P) → ((e : ℕ) → e < m → v e ≡ w e) → IsSchedule r m bound v → IsSchedule r m bound w
schedule_along r m bound v w same h e lt = subst (IsFirst r m bound w e) (same e lt) (first_along r m bound e v w (λ k. seen_along m k v w same) (v e) (h e lt))

-- the row of the table, where it is one of the run
abbrev row_known : Input → ℕ → Known (List ℕ) → ℕ → Times
row_known g ahead known j = record {
  dispatch = cycle_or ahead (known (event g.rows 2 j));
  issue = cycle_or ahead (known (event g.rows (phase (g.row j)) j));
  complete = cycle_or ahead (known (event g.rows (phase (g.row j)) j)) + (g.row j).latency;
  retire = cycle_or ahead (known (event g.rows 0 j));
  units = units_or_none (known (event g.rows (phase (g.row j)) j));
}

row_in : (g : Input) (ahead : ℕ) (known : Known (List ℕ)) (j : ℕ) → j < g.rows → table_of g ahead known j ≡ row_known g ahead known j
row_in g ahead known j lt = λ i. record {
  dispatch = cycle_or ahead (known_in g known 2 j lt i);
  issue = cycle_or ahead (known_in g known (phase (g.row j)) j lt i);
  complete = cycle_or ahead (known_in g known (phase (g.row j)) j lt i) + (g.row j).latency;
  retire = cycle_or ahead (known_in g known 0 j lt i);
  units = units_or_none (known_in g known (phase (g.row j)) j lt i);
}

-- each event of such a row is that of the table
retire_event : (g : Input) (bound : ℕ) (v : Known (List ℕ)) (j : ℕ) → IsSchedule (rules_of g) (events g) bound v → j < g.rows → Falls g v j → v (event g.rows 0 j) ≡ event_in (g.row j) (row_known g bound v j) 0
retire_event g bound v j h lt falls =
    let f : Fall (List ℕ) = record { cycle = cycle_or bound (v (event g.rows 0 j)); what = units_or_none (v (event g.rows 0 j)) } in
    let is : v (event g.rows 0 j) ≡ Some f = some_of bound (v (event g.rows 0 j)) falls.retires in
    let none : f.what ≡ [] = what_of g bound v 0 j f h (omega arith) lt is ∙ takes_none g (at_event g v 0 j f.cycle) f.cycle 0 j (λ e. omega (arith, phase_some (g.row j), e)) in
    is ∙ ap (λ us. Some (record { cycle = f.cycle; what = us })) none

issue_event : (g : Input) (bound : ℕ) (v : Known (List ℕ)) (j : ℕ) → IsSchedule (rules_of g) (events g) bound v → j < g.rows → Falls g v j → (b : Bool) → (g.row j).reserved ≡ b
    → v (event g.rows 1 j) ≡ (if b then None else Some (record { cycle = (row_known g bound v j).issue; what = (row_known g bound v j).units }))
issue_event g bound v j h lt falls false is =
    let one : phase (g.row j) ≡ 1 = phase_free (g.row j) is in
    subst (λ p. v (event g.rows 1 j) ≡ Some (record { cycle = cycle_or bound (v (event g.rows p j)); what = units_or_none (v (event g.rows p j)) })) (sym one)
    (some_of bound (v (event g.rows 1 j)) (subst (λ p. v (event g.rows p j) ≡ None → ⊥) one falls.issues))
issue_event g bound v j h lt falls true is = elim (cases_option (v (event g.rows 1 j))) [
  | inl none ↦ none
  | inr x ↦ (let allowed : may_fall g (at_event g v 1 j (x.0).cycle) (x.0).cycle 1 j ≡ true = (least_of g bound v 1 j x.0 h (omega arith) lt x.1).holds in
      absurd (apart (sym (first_true _ _ allowed) ∙ ap not is)))
]

dispatch_event : (g : Input) (bound : ℕ) (v : Known (List ℕ)) (j : ℕ) → IsSchedule (rules_of g) (events g) bound v → j < g.rows → Falls g v j → (b : Bool) → (g.row j).reserved ≡ b
    → v (event g.rows 2 j) ≡ Some (record { cycle = (row_known g bound v j).dispatch; what = if b then (row_known g bound v j).units else [] })
dispatch_event g bound v j h lt falls true is =
    subst (λ p. v (event g.rows 2 j) ≡ Some (record { cycle = cycle_or bound (v (event g.rows 2 j)); what = units_or_none (v (event g.rows p j)) })) (sym (phase_reserved (g.row j) is))
    (some_of bound (v (event g.rows 2 j)) falls.dispatches)
dispatch_event g bound v j h lt falls false is =
    let f : Fall (List ℕ) = record { cycle = cycle_or bound (v (event g.rows 2 j)); what = units_or_none (v (event g.rows 2 j)) } in
    let there : v (event g.rows 2 j) ≡ Some f = some_of bound (v (event g.rows 2 j)) falls.dispatches in
    let none : f.what ≡ [] = what_of g bound v 2 j f h (omega arith) lt there ∙ takes_none g (at_event g v 2 j f.cycle) f.cycle 2 j (λ e. omega (arith, phase_free (g.row j) is, e)) in
    there ∙ ap (λ us. Some (record { cycle = f.cycle; what = us })) none

row_event : (g : Input) (bound : ℕ) (v : Known (List ℕ)) (p j : ℕ) → IsSchedule (rules_of g) (events g) bound v → p < 3 → j < g.rows → Falls g v j → v (event g.rows p j) ≡ event_in (g.row j) (row_known g bound v j) p
row_event g bound v zero j h three lt falls = retire_event g bound v j h lt falls
row_event g bound v (suc zero) j h three lt falls = issue_event g bound v j h lt falls (g.row j).reserved refl
row_event g bound v (suc (suc zero)) j h three lt falls = dispatch_event g bound v j h lt falls (g.row j).reserved refl
row_event g bound v (suc (suc (suc p))) j h three lt falls = absurd (omega arith)

-- the rows of the table
row_below : (g : Input) (bound j : ℕ) → j < g.rows → times (run_below g bound) j ≡ row_known g bound (made (rules_of g) (events g) bound) j
row_below g bound j lt = get_or-map-range_with_len (table_of g bound (made (rules_of g) (events g) bound)) 0 g.rows j j no_times lt (omega arith) ∙ row_in g bound (made (rules_of g) (events g) bound) j lt

kept_of : (g : Input) (bound : ℕ) (v : Known (List ℕ)) (j : ℕ) → IsKept (g.row j) (row_known g bound v j)
kept_of g bound v j = record { together = λ is. ap (λ p. cycle_or bound (v (event g.rows p j))) (phase_reserved (g.row j) is); complete = refl }

not_none : (o : Option (Fall (List ℕ))) → is_some o ≡ true → o ≡ None → ⊥
not_none o e f = apart (sym e ∙ ap is_some f)

pub below_is_run : (g : Input) (bound : ℕ) → g.rows ≤ retired_below g bound → IsRunOf g (run_below g bound)
below_is_run g bound all =
    let v : Known (List ℕ) = made (rules_of g) (events g) bound in
    let t : Table = times (run_below g bound) in
    let h : IsSchedule (rules_of g) (events g) bound v = schedule_exists (rules_of g) (events g) bound in
    let falls : (j : ℕ) → j < g.rows → Falls g v j = λ j lt. row_falls g bound v j h lt (not_none (v (event g.rows 0 j)) (count_all g.rows (λ k. is_some (v (event g.rows 0 k))) all j lt)) in
    let same : (e : ℕ) → e < events g → v e ≡ events_of g t e = λ e low. (let row : IsEvent g.rows e = event_is g.rows e low in
    subst (λ x. v x ≡ events_of g t x) row.is
    (row_event g bound v (e / g.rows) (e % g.rows) h row.phase row.row (falls (e % g.rows) row.row)
    ∙ ap (λ x. event_in (g.row (e % g.rows)) x (e / g.rows)) (sym (row_below g bound (e % g.rows) row.row))
    ∙ sym (event_of_row g t (e / g.rows) (e % g.rows) row.phase row.row))) in
    let kept : (j : ℕ) → j < g.rows → IsKept (g.row j) (t j) = λ j lt. subst (IsKept (g.row j)) (sym (row_below g bound j lt)) (kept_of g bound v j) in
    record {
      rows = length-map-range_with_len (table_of g bound v) 0 g.rows;
      each = run_rows g t kept (λ j lt. schedule_row g t bound j (schedule_along (rules_of g) (events g) bound v (events_of g t) same h) (kept j lt) lt);
    }

-- its rows retire below the bound
pub below_is_low : (g : Input) (bound : ℕ) → g.rows ≤ retired_below g bound → (j : ℕ) → j < g.rows → (times (run_below g bound) j).retire < bound
below_is_low g bound all j lt =
    let v : Known (List ℕ) = made (rules_of g) (events g) bound in
    let f : Fall (List ℕ) = record { cycle = cycle_or bound (v (event g.rows 0 j)); what = units_or_none (v (event g.rows 0 j)) } in
    let falls : v (event g.rows 0 j) ≡ Some f = some_of bound (v (event g.rows 0 j)) (not_none (v (event g.rows 0 j)) (count_all g.rows (λ k. is_some (v (event g.rows 0 k))) all j lt)) in
    subst (λ x. x.retire < bound) (sym (row_below g bound j lt)) ((falls_of g bound v 0 j f (schedule_exists (rules_of g) (events g) bound) (omega arith) lt falls).within)
