-- What is known of a body that is bound by a machine, and of its run.
use Rattle.std.proofs.Common.{◌≡◌, ℕ, ◌-◌, ◌*◌, ◌<◌, ◌≤◌, ◌^◌, List, length, map, take, replicate, arith, sym, subst, true, length-append}
use Rattle.std.specs.Prelude.{nat_lt, slice_index_or}
use Rattle.std.specs.List.{All}
use Rattle.std.proofs.lemmas.Bool.Decides.{nat_tests}
use Rattle.std.proofs.lemmas.Bool.{ltb-true}
use Rattle.std.proofs.lemmas.List.{get_or-take, length-take, length-replicate}
use Rattle.std.proofs.lemmas.Nat.{mul-le}
use Rattle.std.proofs.lemmas.List.Sums.{AllPass-from_list_all}
use Rattle.machine_model.specs.Meaning.{MachineMeaning}
use Rattle.machine_model.specs.Valid.{IsValidMachine, no_use}
use Rattle.machine_model.specs.Uses.{units_of, in_use_order}
use Rattle.machine_model.specs.declared.facts.Use.{Use}
use Rattle.cycle_rules.specs.Below.{count_below}
use Rattle.cycle_rules.specs.Bind.{IsBoundBy, IsBoundBody, IsBound, AreBoundRows, row_of, uses_of, eight}
use Rattle.cycle_rules.specs.CycleBound.{cycle_bound}
use Rattle.cycle_rules.specs.Events.{retired_below, run_below}
use Rattle.cycle_rules.specs.Row.{Input, input, times, uops_of}
use Rattle.cycle_rules.specs.Run.{IsRunOf, total_of}
use Rattle.cycle_rules.specs.declared.bound.Bound.{Bound}
use Rattle.cycle_rules.specs.declared.times.Times.{Times}
use Rattle.cycle_rules.proofs.BoundRows.{entry_is_bound}
use Rattle.cycle_rules.proofs.BoundLow.{bound_low}
use Rattle.cycle_rules.proofs.Counts.{count_full}
use Rattle.cycle_rules.proofs.OneRun.{table_unique}
use Rattle.cycle_rules.proofs.RunBelow.{below_is_run, below_is_low}
use Rattle.cycle_rules.proofs.RunCut.{retired_is}
use Rattle.cycle_rules.proofs.RunEnds.{all_retire, run_ends}
use Rattle.issue_queues.specs.Queues.{IsNaming}
use Rattle.engine_steps.specs.Ranges.{AreRanges}

-- an entry has eight places for uses, of which those that count name resources of the machine

eight_long : (us : List Use) → 8 ≤ length (eight us)
eight_long us = omega (arith, length-append us (replicate (8 - length us) no_use), length-replicate {A = Use} (8 - length us) no_use)

pub names_of : (numbers size : ℕ) (m : MachineMeaning) (b : Bound) → IsValidMachine numbers size m → IsBoundBy m b → IsNaming m b
names_of numbers size m b valid h =
    let bound : IsBound m b = entry_is_bound m b valid h in
    let long : 8 ≤ length b.uses = subst (λ (x : Bound). 8 ≤ length x.uses) (sym h.bound) (eight_long (in_use_order (units_of m) (uses_of (m.class h.classes.write)))) in
    record {
      few = bound.use_count;
      within = λ i lt. (
          let inside : i < length (take b.use_count b.uses) = omega (arith, length-take b.use_count b.uses, lt, long, bound.use_count) in
          let known : nat_lt (slice_index_or (take b.use_count b.uses) i no_use).resource m.resource_count ≡ true = AllPass-from_list_all (λ (w : Use). nat_lt w.resource m.resource_count) (take b.use_count b.uses) bound.row.uses.known i no_use inside in
          let low : (slice_index_or (take b.use_count b.uses) i no_use).resource < m.resource_count = ltb-true _ _ known in
          subst (λ (w : Use). w.resource < m.resource_count) (get_or-take b.use_count b.uses i no_use lt) low);
    }

pub all_named : (numbers size : ℕ) (m : MachineMeaning) (body : List Bound) → IsValidMachine numbers size m → IsBoundBody m body → All (λ b. IsNaming m b) body
all_named numbers size m body valid is = λ k d lt. names_of numbers size m (slice_index_or body k d) valid (is k d lt)

-- the ranges of a run

some_uops : (g : Input) (j : ℕ) → 1 ≤ (g.row j).uops → 1 ≤ g.machine.limits.reorder → 1 ≤ uops_of g j
unfolding uops_of
some_uops g j a b = omega (arith, a, b)

pub ranges_of : (numbers size : ℕ) (g : Input) → IsValidMachine numbers size g.machine → AreBoundRows g → g.rows ≤ 1048576 → AreRanges g
ranges_of numbers size g valid bound few = record {
  width_low = valid.limits.width_low;
  width_high = valid.limits.width_high;
  reorder_high = valid.limits.reorder_high;
  rows = few;
  some_uops = λ j lt. some_uops g j (bound j lt).uops_low valid.limits.reorder_low;
  bound = bound;
}

-- all rows retire below the last cycle
pub ends_low : (numbers size : ℕ) (g : Input) → IsValidMachine numbers size g.machine → AreBoundRows g → g.rows ≤ 1048576 → g.rows ≤ retired_below g (2 ^ 41)
ends_low numbers size g valid bound few =
    let most : ℕ = cycle_bound g in
    let all : g.rows ≤ retired_below g most = all_retire numbers size g valid bound in
    let low : most < 2 ^ 41 = bound_low numbers size g valid bound few in
    let run : IsRunOf g (run_below g most) = below_is_run g most all in
    let count : retired_below g (2 ^ 41) ≡ count_below g.rows (λ j. nat_lt (times (run_below g most) j).retire (2 ^ 41)) = retired_is g (2 ^ 41) (run_below g most) run in
    let full : g.rows ≤ count_below g.rows (λ j. nat_lt (times (run_below g most) j).retire (2 ^ 41)) = count_full g.rows (λ j. nat_lt (times (run_below g most) j).retire (2 ^ 41))
    (λ j lt. let early : (times (run_below g most) j).retire < most = below_is_low g most all j lt in let before : (times (run_below g most) j).retire < 2 ^ 41 = omega (arith, early, low) in grind (arith, nat_tests, before)) in
    omega (arith, count, full)

-- a run ends within its bound
pub total_low : (numbers size : ℕ) (m : MachineMeaning) (body : List Bound) (iterations : ℕ) (table : List Times) → IsValidMachine numbers size m → IsBoundBody m body → IsRunOf (input m (map row_of body) iterations) table
    → total_of table ≤ cycle_bound (input m (map row_of body) iterations)
total_low numbers size m body iterations table valid is run =
    let one : (t : List Times) × IsRunOf (input m (map row_of body) iterations) t × (total_of t ≤ cycle_bound (input m (map row_of body) iterations)) = run_ends numbers size m body iterations valid is in
    subst (λ t. total_of t ≤ cycle_bound (input m (map row_of body) iterations)) (table_unique (input m (map row_of body) iterations) one.0 table one.1 run) one.2

-- a body that is repeated is no longer than its run
pub short_body : (iterations n : ℕ) → 1 ≤ iterations → iterations * n ≤ 1048576 → n ≤ 1048576
short_body iterations n some few = let one : 1 * n ≤ iterations * n = mul-le 1 n iterations n some (omega arith) in omega (arith, one, few)
