-- At most one table is the run.
use Rattle.std.proofs.Common.{zero, suc, ◌≡◌, ℕ, ◌+◌, ◌/◌, ◌%◌, ◌<◌, ◌≤◌, inl, inr, List, [], arith, sym, ◌∙◌, ap, subst, refl, Bool, true, false, ◌&&◌, not}
use Rattle.std.specs.Prelude.{if◌then◌else◌, Option, Some, None}
use Rattle.std.proofs.lemmas.Bool.{cases_lt}
use Rattle.std.proofs.lemmas.List.{ext_get_or}
use Rattle.cycle_rules.specs.Below.{Least, sum_below}
use Rattle.cycle_rules.specs.Schedule.{Fall, Known, key, seen, event, FallsFirst, IsFirst, IsSchedule}
use Rattle.cycle_rules.specs.Row.{Input, Table, phase, times, no_times}
use Rattle.cycle_rules.specs.Pick.{pick, padded}
use Rattle.cycle_rules.specs.Issue.{can_issue}
use Rattle.cycle_rules.specs.Events.{events, may_fall, units_taken, rules_of}
use Rattle.cycle_rules.specs.Run.{IsRunOf}
use Rattle.cycle_rules.proofs.TableEvents.{event_in, events_of, sees_events, IsEventIssue, IsEventRow, IsWithin}
use Rattle.cycle_rules.proofs.Sees.{event_rows}
use Rattle.cycle_rules.specs.declared.times.Times.{Times}
use Rattle.cycle_rules.proofs.Unique.{schedule_unique}
use Rattle.cycle_rules.proofs.Rows.{allowed_at, takes_at, least_along, phase_reserved, phase_free, phase_some, takes_units, takes_none, event_below, event_of_row, IsEvent, event_is}

-- what the event of row j in phase p sees of the table's events in a cycle
abbrev at_event : Input → Table → ℕ → ℕ → ℕ → Known (List ℕ)
at_event g t p j c = seen (events g) (key (events g) c (event g.rows p j)) (events_of g t)

-- the event of a row falls first where the rules of its phase say so
falls_first : (g : Input) (t : Table) (p j bound : ℕ) (f : Fall (List ℕ)) → j < g.rows → f.cycle < bound
    → Least (λ c. may_fall g (at_event g t p j c) c p j) f.cycle → f.what ≡ units_taken g (at_event g t p j f.cycle) f.cycle p j
    → FallsFirst (rules_of g) (events g) bound (events_of g t) (event g.rows p j) f
falls_first g t p j bound f lt within least what = record {
  within = within;
  least = least_along _ _ f.cycle (λ c. sym (allowed_at g (at_event g t p j c) c p j lt)) least;
  what = what ∙ sym (takes_at g (at_event g t p j f.cycle) f.cycle p j lt);
}

never_allowed : (g : Input) (t : Table) (j bound : ℕ) → j < g.rows → (g.row j).reserved ≡ true → IsFirst (rules_of g) (events g) bound (events_of g t) (event g.rows 1 j) None
never_allowed g t j bound lt is = λ c within. allowed_at g (at_event g t 1 j c) c 1 j lt ∙ ap (λ b. not b && can_issue g (sees_events g t 1 j c) j c) is

issue_first : (g : Input) (t : Table) (j bound : ℕ) → j < g.rows → (t j).issue < bound → IsEventRow g t j → (b : Bool) → (g.row j).reserved ≡ b
    → IsFirst (rules_of g) (events g) bound (events_of g t) (event g.rows 1 j) (if b then None else Some (record { cycle = (t j).issue; what = (t j).units }))
issue_first g t j bound lt within row true is = never_allowed g t j bound lt is
issue_first g t j bound lt within row false is =
    let one : phase (g.row j) ≡ 1 = phase_free (g.row j) is in
    let issue : IsEventIssue g t j false = subst (IsEventIssue g t j) is row.issue in
    falls_first g t 1 j bound (record { cycle = (t j).issue; what = (t j).units }) lt within
    (least_along _ _ (t j).issue (λ c. sym (ap (λ b. not b && can_issue g (sees_events g t 1 j c) j c) is)) issue)
    (subst (λ p. (t j).units ≡ padded (pick g (sees_events g t p j (t j).issue) j (t j).issue)) one row.units ∙ sym (takes_units g (at_event g t 1 j (t j).issue) (t j).issue 1 j (sym one)))

dispatch_takes : (g : Input) (t : Table) (j : ℕ) → IsEventRow g t j → (b : Bool) → (g.row j).reserved ≡ b
    → (if b then (t j).units else []) ≡ units_taken g (at_event g t 2 j (t j).dispatch) (t j).dispatch 2 j
dispatch_takes g t j row true is =
    let two : phase (g.row j) ≡ 2 = phase_reserved (g.row j) is in
    let issue : (t j).issue ≡ (t j).dispatch = subst (IsEventIssue g t j) is row.issue in
    subst (λ c. (t j).units ≡ padded (pick g (sees_events g t 2 j c) j c)) issue (subst (λ p. (t j).units ≡ padded (pick g (sees_events g t p j (t j).issue) j (t j).issue)) two row.units)
    ∙ sym (takes_units g (at_event g t 2 j (t j).dispatch) (t j).dispatch 2 j (sym two))
dispatch_takes g t j row false is = sym (takes_none g (at_event g t 2 j (t j).dispatch) (t j).dispatch 2 j (λ e. omega (arith, phase_free (g.row j) is, e)))

-- the events of a row that is as the rules say
row_first : (g : Input) (t : Table) (p j bound : ℕ) → p < 3 → j < g.rows → (t j).dispatch < bound → (t j).issue < bound → (t j).retire < bound → IsEventRow g t j
    → IsFirst (rules_of g) (events g) bound (events_of g t) (event g.rows p j) (event_in (g.row j) (t j) p)
row_first g t zero j bound three lt d i r row = falls_first g t 0 j bound (record { cycle = (t j).retire; what = [] }) lt r row.retire
    (sym (takes_none g (at_event g t 0 j (t j).retire) (t j).retire 0 j (λ e. omega (arith, phase_some (g.row j), e))))
row_first g t (suc zero) j bound three lt d i r row = issue_first g t j bound lt i row (g.row j).reserved refl
row_first g t (suc (suc zero)) j bound three lt d i r row =
    falls_first g t 2 j bound (record { cycle = (t j).dispatch; what = if (g.row j).reserved then (t j).units else [] }) lt d row.dispatch (dispatch_takes g t j row (g.row j).reserved refl)
row_first g t (suc (suc (suc p))) j bound three lt d i r row = absurd (omega arith)

-- a run is a schedule
pub run_schedule : (g : Input) (t : Table) (bound : ℕ) → IsWithin g t bound → ((j : ℕ) → j < g.rows → IsEventRow g t j) → IsSchedule (rules_of g) (events g) bound (events_of g t)
run_schedule g t bound within run e lt =
    let at : IsEvent g.rows e = event_is g.rows e lt in
    let first : IsFirst (rules_of g) (events g) bound (events_of g t) (event g.rows (e / g.rows) (e % g.rows)) (event_in (g.row (e % g.rows)) (t (e % g.rows)) (e / g.rows)) =
    row_first g t (e / g.rows) (e % g.rows) bound at.phase at.row (within.dispatch _ at.row) (within.issue _ at.row) (within.retire _ at.row) (run _ at.row) in
    subst (λ x. IsFirst (rules_of g) (events g) bound (events_of g t) x (events_of g t x)) at.is
    (subst (λ o. IsFirst (rules_of g) (events g) bound (events_of g t) (event g.rows (e / g.rows) (e % g.rows)) o) (sym (event_of_row g t (e / g.rows) (e % g.rows) at.phase at.row)) first)

-- a bound above all times of a table
term_le : (n : ℕ) (f : ℕ → ℕ) (j : ℕ) → j < n → f j ≤ sum_below n f
unfolding sum_below
term_le zero f j lt = absurd (omega arith)
term_le (suc n) f j lt = elim (cases_lt j n) [ inl low ↦ omega (arith, term_le n f j low) | inr last ↦ (let e : j ≡ n = omega arith in subst (λ k. f k ≤ sum_below n f + f n) (sym e) (omega arith)) ]

abbrev pub above : Input → Table → ℕ
above g t = suc (sum_below g.rows (λ j. (t j).dispatch + (t j).issue + (t j).retire))

pub within_above : (g : Input) (t : Table) (bound : ℕ) → above g t ≤ bound → IsWithin g t bound
within_above g t bound le = record {
  dispatch = λ j lt. omega (arith, term_le g.rows (λ j. (t j).dispatch + (t j).issue + (t j).retire) j lt);
  issue = λ j lt. omega (arith, term_le g.rows (λ j. (t j).dispatch + (t j).issue + (t j).retire) j lt);
  retire = λ j lt. omega (arith, term_le g.rows (λ j. (t j).dispatch + (t j).issue + (t j).retire) j lt);
}

-- two runs have the same events
events_same : (g : Input) (s t : Table) → ((j : ℕ) → j < g.rows → IsEventRow g s j) → ((j : ℕ) → j < g.rows → IsEventRow g t j) → (p j : ℕ) → p < 3 → j < g.rows → event_in (g.row j) (s j) p ≡ event_in (g.row j) (t j) p
events_same g s t a b p j three lt =
    let bound : ℕ = above g s + above g t in
    sym (event_of_row g s p j three lt)
    ∙ schedule_unique (rules_of g) (events g) bound (events_of g s) (events_of g t)
    (run_schedule g s bound (within_above g s bound (omega arith)) a) (run_schedule g t bound (within_above g t bound (omega arith)) b)
    (event g.rows p j) (event_below g p j three lt)
    ∙ event_of_row g t p j three lt

cycle_same : (a b : ℕ) (x y : List ℕ) → ◌≡◌ {A = Option (Fall (List ℕ))} (Some (record { cycle = a; what = x })) (Some (record { cycle = b; what = y })) → (a ≡ b) × (x ≡ y)
cycle_same a b x y e = (ap (λ (o : Option (Fall (List ℕ))). elim o [ Some f ↦ f.cycle | None ↦ a ]) e, ap (λ (o : Option (Fall (List ℕ))). elim o [ Some f ↦ f.what | None ↦ x ]) e)

-- the issue and the units of a row, by its events
issue_same : (g : Input) (s t : Table) (j : ℕ) → IsEventRow g s j → IsEventRow g t j → (b : Bool) → (g.row j).reserved ≡ b
    → ◌≡◌ {A = Option (Fall (List ℕ))} (if b then None else Some (record { cycle = (s j).issue; what = (s j).units })) (if b then None else Some (record { cycle = (t j).issue; what = (t j).units }))
    → ◌≡◌ {A = Option (Fall (List ℕ))} (Some (record { cycle = (s j).dispatch; what = if b then (s j).units else [] })) (Some (record { cycle = (t j).dispatch; what = if b then (t j).units else [] }))
    → ((s j).issue ≡ (t j).issue) × ((s j).units ≡ (t j).units)
issue_same g s t j a b true is first second =
    let same : ((s j).dispatch ≡ (t j).dispatch) × ((s j).units ≡ (t j).units) = cycle_same _ _ _ _ second in
    let mine : (s j).issue ≡ (s j).dispatch = subst (IsEventIssue g s j) is a.issue in
    let theirs : (t j).issue ≡ (t j).dispatch = subst (IsEventIssue g t j) is b.issue in
    (mine ∙ same.0 ∙ sym theirs, same.1)
issue_same g s t j a b false is first second = cycle_same _ _ _ _ first

times_same : (a b : Times) → a.dispatch ≡ b.dispatch → a.issue ≡ b.issue → a.complete ≡ b.complete → a.retire ≡ b.retire → a.units ≡ b.units → a ≡ b
times_same a b d i w t u = λ k. record { dispatch = d k; issue = i k; complete = w k; retire = t k; units = u k }

row_unique : (g : Input) (s t : Table) → ((j : ℕ) → j < g.rows → IsEventRow g s j) → ((j : ℕ) → j < g.rows → IsEventRow g t j) → (j : ℕ) → j < g.rows → s j ≡ t j
row_unique g s t a b j lt =
    let retire : ((s j).retire ≡ (t j).retire) × (◌≡◌ {A = List ℕ} [] []) = cycle_same _ _ _ _ (events_same g s t a b 0 j (omega arith) lt) in
    let dispatch : ((s j).dispatch ≡ (t j).dispatch) × ((if (g.row j).reserved then (s j).units else []) ≡ (if (g.row j).reserved then (t j).units else [])) = cycle_same _ _ _ _ (events_same g s t a b 2 j (omega arith) lt) in
    let issue : ((s j).issue ≡ (t j).issue) × ((s j).units ≡ (t j).units) = issue_same g s t j (a j lt) (b j lt) (g.row j).reserved refl (events_same g s t a b 1 j (omega arith) lt) (events_same g s t a b 2 j (omega arith) lt) in
    times_same (s j) (t j) dispatch.0 issue.0 ((a j lt).complete ∙ ap (λ c. c + (g.row j).latency) issue.0 ∙ sym (b j lt).complete) retire.0 issue.1

-- at most one table is the run
pub table_unique : (g : Input) (a b : List Times) → IsRunOf g a → IsRunOf g b → a ≡ b
table_unique g a b p q = ext_get_or no_times a b (p.rows ∙ sym q.rows)
    (λ j lt. row_unique g (times a) (times b) (event_rows g (times a) p.each) (event_rows g (times b) q.each) j (subst (λ n. j < n) p.rows lt))
