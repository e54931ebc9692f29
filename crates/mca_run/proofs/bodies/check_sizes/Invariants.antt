use Rattle.std.proofs.Common.{◌≤◌, ◌<◌, ℕ}
use Rattle.mca_fixed.specs.declared.limits.TheConstants.{MOST_ROWS}
use Rattle.mca_run.specs.Refusal.{rows_at}
use Rattle.mca_run.proofs.bodies.check_sizes.Given as goal

abbrev pub invariant-loop-k : goal.invariant-loop-k
invariant-loop-k l = (j : ℕ) → j < l.k → rows_at l.program l.iterations j ≤ MOST_ROWS
