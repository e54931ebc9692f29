use Rattle.std.proofs.Common.{◌≡◌, ◌≤◌, ◌-◌, ◌++◌}
use Rattle.mca_run.specs.Load.{generated_from}
use Rattle.mca_run.proofs.generator.generate_from.Given as goal

abbrev pub invariant-loop : goal.invariant-loop
invariant-loop l = record {
  within : l.counter ≤ l.count;
  front : l.code.items ++ generated_from (l.count - l.counter) l.x ≡ generated_from l.count l.seed;
}
