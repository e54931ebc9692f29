-- What the units tell: when a use gives its unit back.
use Rattle.std.proofs.Common.{◌≡◌, ℕ, ◌+◌, ◌-◌, ◌*◌, ◌<◌, inl, inr, List, arith, sym, ◌∙◌, ap, subst, refl, Bool, true, false, not}
use Rattle.std.specs.Prelude.{nat_eq, Option, Some, None}
use Rattle.std.specs.List.{list_any}
use Rattle.std.proofs.lemmas.Bool.{cases_Bool, both_ways}
use Rattle.cycle_rules.specs.Below.{all_below}
use Rattle.cycle_rules.specs.Held.{changes_at}
use Rattle.cycle_rules.specs.Row.{Input, Table, phase}
use Rattle.cycle_rules.specs.Pick.{taken_by, taken_below}
use Rattle.cycle_rules.specs.Schedule.{Fall, event, known_at}
use Rattle.cycle_rules.specs.Events.{events, rules_of, known_of, cycle_or, units_or_none, in_cycle}
use Rattle.cycle_rules.specs.declared.times.Times.{Times}
use Rattle.cycle_rules.proofs.Sees.{known_in}
use Rattle.resource_units.specs.Kept.{AnswersChange}
use Rattle.engine_state.specs.State.{recorded, at, taken_now, IsState}
use Rattle.engine_state.proofs.Taken.{phase_low}
use Rattle.event_rules.specs.Due.{changes, all_times}
use Rattle.event_rules.proofs.ChangesTold.{change_told}
use Rattle.event_rules.proofs.TakenStill.{any_taken, by_changes}
use Rattle.event_rules.proofs.Turns.{each, not_not}
use Rattle.engine_steps.proofs.Moving.{fell_early}
use Rattle.engine_steps.specs.Done.{known_below, IsIdle}
use Rattle.event_engine.specs.Tells.{Until, is_time, SomeTime, IsPast, TellsChange}
use Rattle.event_engine.proofs.RowTimes.{set_change}

-- what is recorded when all cycles below c are done fell before c
pub fell_before : (g : Input) (c q k : ℕ) (xs : List Times) (f : Fall (List ℕ)) → IsState g (at g c 0 0) xs → q < 3 → k < g.rows → known_of g (recorded g xs) q k ≡ Some f → f.cycle < c
fell_before g c q k xs f s three lt is = fell_early g c q k f three lt (sym (ap (λ v. v (event g.rows q k)) s.known) ∙ sym (known_in g (recorded g xs) q k lt) ∙ is)

-- where no row sets a time in a cycle, no use that took a unit changes in it
no_change : (g : Input) (c x : ℕ) (xs : List Times) → 0 < c → is_time g (recorded g xs) x ≡ false → list_any (changes_at g.machine x) (taken_now g (c - 1) xs) ≡ false
unfolding is_time
no_change g c x xs start none =
    let t : Table = in_cycle g (c - 1) (recorded g xs) in
    let sum : c - 1 + 1 ≡ c = omega (arith, start) in
    any_taken g t (changes_at g.machine x) (c - 1 + 1) (λ k lt early. of_row k lt (known_of g (recorded g xs) (phase (g.row k)) k) refl early)
  where
    row_none : (k : ℕ) → k < g.rows → list_any (nat_eq x) (all_times g (recorded g xs) k) ≡ false
    row_none k lt = let all : all_below g.rows (λ j. not (list_any (nat_eq x) (all_times g (recorded g xs) j))) ≡ true = not_not _ none in
        not_false _ (each g.rows _ all k lt)
      where
        not_false : (b : Bool) → not b ≡ true → b ≡ false
        not_false false e = refl
        not_false true e = cc

    of_row : (k : ℕ) → k < g.rows → (o : Option (Fall (List ℕ))) → known_of g (recorded g xs) (phase (g.row k)) k ≡ o → cycle_or (c - 1 + 1) o < c - 1 + 1
        → list_any (changes_at g.machine x) (taken_by (cycle_or (c - 1 + 1) o) (g.row k).uses (units_or_none o)) ≡ false
    of_row k lt None is early = absurd (omega (arith, early))
    of_row k lt (Some f) is early = by_changes g.machine x f.cycle (g.row k).uses f.what (elim (cases_Bool (list_any (nat_eq x) (changes f.cycle (g.row k).uses))) [
      | inr out ↦ out
      | inl here ↦ absurd (both_ways _ (row_none k lt) (set_change g (recorded g xs) k x f is here))
    ])

pub change_tells : (g : Input) (c : ℕ) (xs : List Times) (o : Option ℕ) → 0 < c → IsState g (at g c 0 0) xs → AnswersChange g.machine (c - 1) (taken_now g (c - 1) xs) o → TellsChange g (recorded g xs) c o
change_tells g c xs o start s told = record {
  changed = λ k f lt is y lo before. (
      let early : f.cycle < c = fell_before g c (phase (g.row k)) k xs f s (phase_low (g.row k)) lt is in
      let none : list_any (changes_at g.machine y) (taken_now g (c - 1) xs) ≡ false = no_answer o told y (omega (arith, lo, start)) before in
      change_told g (at g c 0 0) (c - 1) y k f lt (subst (λ v. known_of g v (phase (g.row k)) k ≡ Some f) s.known is) (omega (arith, early, lo)) (omega (arith, early))
      (subst (λ v. list_any (changes_at g.machine y) (taken_below g (in_cycle g (c - 1) v) (c - 1 + 1)) ≡ false) s.known none));
  time = some_time o told;
}
  where
    no_answer : (p : Option ℕ) → AnswersChange g.machine (c - 1) (taken_now g (c - 1) xs) p → (y : ℕ) → c - 1 < y → Until p y → list_any (changes_at g.machine y) (taken_now g (c - 1) xs) ≡ false
    no_answer None none y lo before = none y lo
    no_answer (Some b) next y lo before = next.none y lo before

    some_time : (p : Option ℕ) → AnswersChange g.machine (c - 1) (taken_now g (c - 1) xs) p → SomeTime g (recorded g xs) c p
    some_time None none = tt
    some_time (Some b) next = record {
      later = omega (arith, next.later, start);
      set = elim (cases_Bool (is_time g (recorded g xs) b)) [
        | inl is ↦ is
        | inr none ↦ absurd (both_ways _ (no_change g c b xs start none) next.there)
      ];
    }

-- where the cycle before was idle, all that is recorded fell before it
pub past_of_idle : (g : Input) (c : ℕ) (xs : List Times) → 0 < c → IsState g (at g c 0 0) xs → IsIdle g (c - 1) c → IsPast g (recorded g xs) c
past_of_idle g c xs start s idle = record {
  dispatched = λ k f lt is. past 2 k f (omega arith) lt is;
  issued = λ k f lt is. past (phase (g.row k)) k f (phase_low (g.row k)) lt is;
  retired = λ k f lt is. past 0 k f (omega arith) lt is;
}
  where
    known : recorded g xs ≡ known_at (rules_of g) (events g) (at g (c - 1) 0 0)
    known = let first : (n : ℕ) → at g n 0 0 ≡ n * events g = λ n. omega arith in
        s.known ∙ ap (known_at (rules_of g) (events g)) (first c) ∙ idle ∙ ap (known_at (rules_of g) (events g)) (sym (first (c - 1)))

    past : (q k : ℕ) (f : Fall (List ℕ)) → q < 3 → k < g.rows → known_of g (recorded g xs) q k ≡ Some f → f.cycle + 1 < c
    past q k f three lt is =
        let early : f.cycle < c - 1 = fell_early g (c - 1) q k f three lt (sym (ap (λ v. v (event g.rows q k)) known) ∙ sym (known_in g (recorded g xs) q k lt) ∙ is) in
        omega (arith, early)

pub recorded_below : (g : Input) (c : ℕ) (xs : List Times) → IsState g (at g c 0 0) xs → recorded g xs ≡ known_below g c
recorded_below g c xs s = let first : at g c 0 0 ≡ c * events g = omega arith in s.known ∙ ap (known_at (rules_of g) (events g)) first
