-- The run of a body that is bound by a machine is sound.
use Rattle.std.proofs.Common.{◌≡◌, ℕ, ◌*◌, ◌<◌, ◌≤◌, ◌^◌, List, length, map, arith, sym, subst}
use Rattle.std.proofs.lemmas.List.{length-map}
use Rattle.machine_model.specs.Meaning.{MachineMeaning}
use Rattle.machine_model.specs.Valid.{IsValidMachine}
use Rattle.cycle_rules.specs.Bind.{IsBoundBody, AreBoundRows, row_of}
use Rattle.cycle_rules.specs.CycleBound.{cycle_bound}
use Rattle.cycle_rules.specs.Events.{retired_below, run_below}
use Rattle.cycle_rules.specs.Row.{Input, input, times}
use Rattle.cycle_rules.specs.Run.{IsRunOf}
use Rattle.cycle_rules.specs.declared.bound.Bound.{Bound}
use Rattle.cycle_rules.specs.declared.times.Times.{Times}
use Rattle.cycle_rules.proofs.BoundRows.{body_is_bound, input_is_bound}
use Rattle.cycle_rules.proofs.BoundLow.{bound_low}
use Rattle.cycle_rules.proofs.OneRun.{table_unique}
use Rattle.cycle_rules.proofs.RunBelow.{below_is_run, below_is_low}
use Rattle.cycle_rules.proofs.RunEnds.{all_retire}
use Rattle.dep_graph.specs.Walk.{IsSoundRun}

-- each row of a run retires early
run_early : (numbers size : ℕ) (g : Input) (table : List Times) → IsValidMachine numbers size g.machine → AreBoundRows g → g.rows ≤ 1048576 → IsRunOf g table → (j : ℕ) → j < g.rows → (times table j).retire < 2 ^ 41
run_early numbers size g table valid bound few run j lt =
    let all : g.rows ≤ retired_below g (cycle_bound g) = all_retire numbers size g valid bound in
    let low : cycle_bound g < 2 ^ 41 = bound_low numbers size g valid bound few in
    let one : run_below g (cycle_bound g) ≡ table = table_unique g (run_below g (cycle_bound g)) table (below_is_run g (cycle_bound g) all) run in
    let early : (times table j).retire < cycle_bound g = subst (λ xs. (times xs j).retire < cycle_bound g) one (below_is_low g (cycle_bound g) all j lt) in
    omega (arith, early, low)

pub sound_run : (numbers size : ℕ) (m : MachineMeaning) (body : List Bound) (iterations : ℕ) (table : List Times) → IsValidMachine numbers size m → IsBoundBody m body → iterations * length body ≤ 1048576
    → IsRunOf (input m (map row_of body) iterations) table → IsSoundRun (input m (map row_of body) iterations) table
sound_run numbers size m body iterations table valid is few run =
    let g : Input = input m (map row_of body) iterations in
    let bound : AreBoundRows g = input_is_bound m body iterations (body_is_bound numbers size m body valid is) in
    let rows : g.rows ≤ 1048576 = subst (λ n. iterations * n ≤ 1048576) (sym (length-map body row_of)) few in
    record {
      limits = valid.limits;
      files = valid.files_few;
      share = valid.share;
      units = λ r u lt has. (valid.resource r lt).units_low u has;
      bound = bound;
      few = rows;
      run = run;
      early = run_early numbers size g table valid bound rows run;
    }
