-- The beginning of a run, and its end: where all rows have retired the table is the run.
use Rattle.std.proofs.Common.{zero, suc, ◌≡◌, ℕ, ◌*◌, ◌/◌, ◌%◌, ◌<◌, inl, inr, List, [], replicate, arith, sym, ◌∙◌, ap, subst, refl, Bool, true, false, cond}
use Rattle.std.specs.Prelude.{nat_lt, if◌then◌else◌, Option, None}
use Rattle.std.proofs.lemmas.Bool.Decides.{nat_tests}
use Rattle.std.proofs.lemmas.Bool.{cases_lt}
use Rattle.std.proofs.lemmas.List.{get_or-replicate, length-replicate}
use Rattle.cycle_rules.specs.Schedule.{Fall, event, IsSchedule, known_at, made}
use Rattle.cycle_rules.specs.Row.{Input, times, no_times}
use Rattle.cycle_rules.specs.Events.{events, rules_of}
use Rattle.cycle_rules.specs.Run.{IsRunOf}
use Rattle.engine_state.specs.State.{never, recorded_in, recorded, at, IsWritten, IsState}
use Rattle.cycle_rules.specs.Row.{Row}
use Rattle.cycle_rules.specs.declared.times.Times.{Times}
use Rattle.cycle_rules.proofs.Exists.{schedule_exists}
use Rattle.cycle_rules.proofs.Rows.{phase_free, event_is}
use Rattle.engine_state.proofs.State.{recorded_row, state_along}
use Rattle.cycle_rules.proofs.TableEvents.{event_in, events_of, IsKept}
use Rattle.cycle_rules.proofs.Sees.{choose_false, run_rows}
use Rattle.engine_state.proofs.Turn.{none_is_never, known_is_some, never_is_none}
use Rattle.cycle_rules.proofs.Falls.{falls_of, schedule_row, Falls, row_falls}

-- At the end of the cycles below a bound

-- a row whose times are all recorded
pub record IsDone (t : Times) : Type 0 where
  pub dispatch : t.dispatch ≡ never → ⊥
  pub issue : t.issue ≡ never → ⊥
  pub retire : t.retire ≡ never → ⊥

issue_done : (g : Input) (xs : List Times) (j : ℕ) → j < g.rows → IsWritten (g.row j) (times xs j) → Falls g (recorded g xs) j → ((times xs j).dispatch ≡ never → ⊥) → (b : Bool) → (g.row j).reserved ≡ b → (times xs j).issue ≡ never → ⊥
issue_done g xs j lt kept falls dispatch true is n = dispatch (sym (kept.together is) ∙ n)
issue_done g xs j lt kept falls dispatch false is n = falls.issues (subst (λ p. recorded g xs (event g.rows p j) ≡ None) (sym (phase_free (g.row j) is))
    (recorded_row g xs 1 j (omega arith) lt ∙ choose_false (g.row j).reserved _ _ is ∙ never_is_none (times xs j).issue (times xs j).units n))

-- a row that has retired has dispatched and issued
row_done : (g : Input) (bound : ℕ) (xs : List Times) (j : ℕ) → IsSchedule (rules_of g) (events g) bound (recorded g xs) → IsWritten (g.row j) (times xs j) → j < g.rows → ((times xs j).retire ≡ never → ⊥) → IsDone (times xs j)
row_done g bound xs j h kept lt retired =
    let retires : recorded g xs (event g.rows 0 j) ≡ None → ⊥ = λ none. retired (none_is_never (times xs j).retire [] (sym (recorded_row g xs 0 j (omega arith) lt) ∙ none)) in
    let falls : Falls g (recorded g xs) j = row_falls g bound (recorded g xs) j h lt retires in
    let dispatch : (times xs j).dispatch ≡ never → ⊥ = λ n. falls.dispatches (recorded_row g xs 2 j (omega arith) lt ∙ never_is_none (times xs j).dispatch (if (g.row j).reserved then (times xs j).units else []) n) in
    record { dispatch = dispatch; issue = issue_done g xs j lt kept falls dispatch (g.row j).reserved refl; retire = retired }

-- what is recorded of rows that are done are the events of the table
done_event : (b : Row) (t : Times) (p : ℕ) → IsDone t → recorded_in b t p ≡ event_in b t p
done_event b t zero d = known_is_some t.retire [] d.retire
done_event b t (suc zero) d = ap (λ o. cond b.reserved None o) (known_is_some t.issue t.units d.issue)
done_event b t (suc (suc p)) d = known_is_some t.dispatch (if b.reserved then t.units else []) d.dispatch

pub done_events : (g : Input) (xs : List Times) → ((j : ℕ) → j < g.rows → IsDone (times xs j)) → recorded g xs ≡ events_of g (times xs)
done_events g xs d = λ i e. same e i
  where
    same : (e : ℕ) → recorded g xs e ≡ events_of g (times xs) e
    same e = elim (cases_lt e (events g)) [
      | inl low ↦ ap (λ o. cond (nat_lt e (events g)) o None) (done_event (g.row (e % g.rows)) (times xs (e % g.rows)) (e / g.rows) (d (e % g.rows) (event_is g.rows e low).row))
      | inr high ↦ (let outside : nat_lt e (events g) ≡ false = grind (arith, nat_tests, high) in rw outside refl)
    ]

-- what an engine has recorded when all rows have retired is the run
pub state_schedule : (g : Input) (bound : ℕ) (xs : List Times) → IsState g (at g bound 0 0) xs → IsSchedule (rules_of g) (events g) bound (recorded g xs)
state_schedule g bound xs h =
    let made_all : recorded g xs ≡ made (rules_of g) (events g) bound = (state_along g (at g bound 0 0) (bound * events g) xs (omega arith) h).known in
    subst (IsSchedule (rules_of g) (events g) bound) (sym made_all) (schedule_exists (rules_of g) (events g) bound)

pub state_run : (g : Input) (bound : ℕ) (xs : List Times) → IsState g (at g bound 0 0) xs → ((j : ℕ) → j < g.rows → (times xs j).retire ≡ never → ⊥) → IsRunOf g xs
state_run g bound xs h retired =
    let schedule : IsSchedule (rules_of g) (events g) bound (recorded g xs) = state_schedule g bound xs h in
    let done : (j : ℕ) → j < g.rows → IsDone (times xs j) = λ j lt. row_done g bound xs j schedule (h.kept j lt) lt (retired j lt) in
    let whole : IsSchedule (rules_of g) (events g) bound (events_of g (times xs)) = subst (IsSchedule (rules_of g) (events g) bound) (done_events g xs done) schedule in
    let kept : (j : ℕ) → j < g.rows → IsKept (g.row j) (times xs j) = λ j lt. record { together = (h.kept j lt).together; complete = (h.kept j lt).complete (done j lt).issue } in
    record { rows = h.rows; each = run_rows g (times xs) kept (λ j lt. schedule_row g (times xs) bound j whole (kept j lt) lt) }

-- what falls below a bound is less
pub state_low : (g : Input) (bound : ℕ) (xs : List Times) (j : ℕ) → IsState g (at g bound 0 0) xs → j < g.rows → ((times xs j).retire ≡ never → ⊥) → (times xs j).retire < bound
state_low g bound xs j h lt retired =
    (falls_of g bound (recorded g xs) 0 j (record { cycle = (times xs j).retire; what = [] }) (state_schedule g bound xs h) (omega arith) lt (recorded_row g xs 0 j (omega arith) lt ∙ known_is_some (times xs j).retire [] retired)).within

-- at first nothing is recorded
pub state_start : (g : Input) (v : Times) → v.dispatch ≡ never → v.issue ≡ never → v.retire ≡ never → IsState g (at g 0 0 0) (replicate g.rows v)
state_start g v d i r = state_along g 0 (at g 0 0 0) (replicate g.rows v) (omega arith) (record {
  rows = length-replicate g.rows v;
  known = λ k e. nothing e k;
  kept = λ j lt. rw (get_or-replicate g.rows j v no_times lt) (record { together = λ _. i ∙ sym d; complete = λ ne. absurd (ne i) });
})
  where
    none_of : (b : Row) (p : ℕ) → recorded_in b v p ≡ None
    none_of b zero = never_is_none v.retire [] r
    none_of b (suc zero) = ap (λ o. cond b.reserved None o) (never_is_none v.issue v.units i) ∙ same_none b.reserved
      where
        same_none : (x : Bool) → ◌≡◌ {A = Option (Fall (List ℕ))} (cond x None None) None
        same_none true = refl
        same_none false = refl
    none_of b (suc (suc p)) = never_is_none v.dispatch (if b.reserved then v.units else []) d

    nothing : (e : ℕ) → recorded g (replicate g.rows v) e ≡ known_at (rules_of g) (events g) 0 e
    nothing e = elim (cases_lt e (events g)) [
      | inl low ↦ (let test : nat_lt e (events g) ≡ true = grind (arith, nat_tests) in
          rw (test, get_or-replicate g.rows (e % g.rows) v no_times (event_is g.rows e low).row) (none_of (g.row (e % g.rows)) (e / g.rows)))
      | inr high ↦ (let outside : nat_lt e (events g) ≡ false = grind (arith, nat_tests, high) in rw outside refl)
    ]
