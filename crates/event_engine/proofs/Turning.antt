-- Where an engine may turn next, and that its state stays sound.
use Rattle.std.proofs.Common.{◌≡◌, ℕ, ◌+◌, ◌-◌, ◌<◌, ◌≤◌, List, length, Bool, true, false, not, inl, inr, arith, refl, sym, ap, subst}
use Rattle.std.specs.Prelude.{Option, Some, None, is_some, nat_le, nat_eq}
use Rattle.std.specs.List.{list_any}
use Rattle.std.proofs.lemmas.Bool.{le-leb, both_ways, cases_lt}
use Rattle.cycle_rules.specs.Below.{count_below}
use Rattle.machine_model.specs.Valid.{IsValidMachine}
use Rattle.cycle_rules.specs.Bind.{AreBoundRows}
use Rattle.cycle_rules.specs.Row.{Input, times}
use Rattle.cycle_rules.specs.Schedule.{Fall, Known, event}
use Rattle.cycle_rules.specs.Run.{IsRunOf, total_of}
use Rattle.cycle_rules.specs.Events.{run_below}
use Rattle.cycle_rules.specs.CycleBound.{cycle_bound, turn_bound}
use Rattle.event_rules.specs.Due.{all_times, is_set}
use Rattle.event_rules.specs.Clear.{IsClear}
use Rattle.cycle_rules.specs.declared.times.Times.{Times}
use Rattle.cycle_rules.proofs.BoundLow.{bound_low}
use Rattle.cycle_rules.proofs.OneRun.{table_unique}
use Rattle.cycle_rules.proofs.RunEnds.{all_retire}
use Rattle.cycle_rules.proofs.RunBelow.{below_is_run, below_is_low}
use Rattle.event_rules.proofs.Turns.{few_turns, each_turn}
use Rattle.event_rules.proofs.Clears.{clear_cycles, set_time}
use Rattle.event_rules.proofs.EventSteps.{after_event}
use Rattle.engine_steps.specs.Done.{known_below, all_retired}
use Rattle.event_engine.specs.Turn.{left_at, IsTurn, IsNextTurn, IsBounded}

-- all rows have retired, by what is known
abbrev pub retired_by : Input → Known (List ℕ) → Bool
retired_by g known = nat_le g.rows (count_below g.rows (λ j. is_some (known (event g.rows 0 j))))

-- the count of turns falls
pub left_falls : (g : Input) (c x : ℕ) → IsTurn g c x → left_at g (x + 1) + 1 ≤ left_at g c
left_falls g c x t = each_turn g (known_below g (cycle_bound g)) c x t.later t.set

pub few_at_start : (g : Input) → left_at g 0 ≤ turn_bound g
few_at_start g = few_turns g (known_below g (cycle_bound g))

-- Where an engine finds its next turn

-- while not all rows have retired, no cycle up to the bound is left out
pub not_past : (g : Input) (c : ℕ) → IsBounded g → retired_by g (known_below g c) ≡ false → known_below g (cycle_bound g) ≡ known_below g c → ⊥
not_past g c b more same = both_ways _ more (subst (λ k. retired_by g k ≡ true) same (le-leb _ _ b.ends))

-- where the rows set no time before x, and one at x
pub turn_of_clear : (g : Input) (c x : ℕ) → IsBounded g → c ≤ cycle_bound g → retired_by g (known_below g c) ≡ false → c ≤ x → 0 < c
    → ((k : ℕ) → k < g.rows → IsClear g (known_below g c) c x k) → (k : ℕ) → k < g.rows → list_any (nat_eq x) (all_times g (known_below g c) k) ≡ true → IsTurn g c x
turn_of_clear g c x b in_bound more le start clear k lk here = record {
  later = le;
  before = elim (cases_lt x (cycle_bound g)) [
    | inl low ↦ low
    | inr past ↦ absurd (not_past g c b more (clear_cycles g c (cycle_bound g) in_bound (λ e. absurd (omega (arith, e, start))) (λ k lk. shorter (clear k lk) past)))
  ];
  same = clear_cycles g c x le (λ e. absurd (omega (arith, e, start))) clear;
  set = set_time g (cycle_bound g) c x k in_bound lk here;
}
  where
    shorter : {k : ℕ} → IsClear g (known_below g c) c x k → cycle_bound g ≤ x → IsClear g (known_below g c) c (cycle_bound g) k
    shorter h past = record {
      dispatched = λ f is lo. omega (arith, past, h.dispatched f is lo);
      issued = λ f is lo. omega (arith, past, h.issued f is lo);
      retired = λ f is lo. omega (arith, past, h.retired f is lo);
      full = λ f is some lo. omega (arith, past, h.full f is some lo);
      rest = λ f is some lo. omega (arith, past, h.rest f is some lo);
      completes = λ f is here lo. omega (arith, past, h.completes f is here lo);
      completed = λ f is here lo. omega (arith, past, h.completed f is here lo);
      changed = λ f is y lo hi. h.changed f is y lo (omega (arith, past, hi));
      ready = λ waits r is lo. omega (arith, past, h.ready waits r is lo);
    }

-- the cycle after an event
pub turn_after_event : (g : Input) (c p k : ℕ) (f : Fall (List ℕ)) → IsBounded g → c + 1 ≤ cycle_bound g → retired_by g (known_below g (c + 1)) ≡ false
    → p < 3 → k < g.rows → known_below g (c + 1) (event g.rows p k) ≡ Some f → f.cycle ≡ c → IsTurn g (c + 1) (c + 1)
turn_after_event g c p k f b in_bound more three lk is at = record {
  later = omega arith;
  before = elim (cases_lt (c + 1) (cycle_bound g)) [
    | inl low ↦ low
    | inr past ↦ (let s : cycle_bound g ≡ c + 1 = omega (arith, in_bound, past) in absurd (not_past g (c + 1) b more (ap (known_below g) s)))
  ];
  same = refl;
  set = after_event g (cycle_bound g) c p k f in_bound three lk is at;
}

-- the first turn
pub turn_at_start : (g : Input) → IsTurn g 0 0
unfolding cycle_bound is_set
turn_at_start g = record { later = omega arith; before = omega arith; same = refl; set = refl }

-- What holds of a run

-- the run of a body that is bound by a valid machine is bounded
pub bounded_of : (numbers size : ℕ) (g : Input) → IsValidMachine numbers size g.machine → AreBoundRows g → 0 < g.rows → g.rows ≤ 1048576 → IsBounded g
bounded_of numbers size g valid bound some few = record { some = some; ends = all_retire numbers size g valid bound; fits = bound_low numbers size g valid bound few }

-- and its total is within the bound
pub total_bounded : (g : Input) (table : List Times) → IsBounded g → IsRunOf g table → total_of table ≤ cycle_bound g
total_bounded g table b run =
    let most : ℕ = cycle_bound g in
    let same : table ≡ run_below g most = table_unique g table (run_below g most) run (below_is_run g most b.ends) in
    let count : length table ≡ g.rows = run.rows in
    let last : (times (run_below g most) (length table - 1)).retire < most = below_is_low g most b.ends (length table - 1) (omega (arith, count, b.some)) in
    let here : (times table (length table - 1)).retire < most = subst (λ (t : List Times). (times t (length table - 1)).retire < most) (sym same) last in
    omega (arith, here)

-- where there is no next turn, all rows have retired
pub over_of : (g : Input) (c : ℕ) (o : Option ℕ) → IsNextTurn g c o → not (is_some o) ≡ true → all_retired g c ≡ true
over_of g c None h e = h
over_of g c (Some x) h e = cc

-- where there is one, it is it
pub turn_of : (g : Input) (c x : ℕ) (o : Option ℕ) → IsNextTurn g c o → o ≡ Some x → IsTurn g c x
turn_of g c x o h is = (subst (IsNextTurn g c) is h).1
