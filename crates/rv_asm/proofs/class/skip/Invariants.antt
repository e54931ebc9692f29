use Rattle.std.proofs.Common.{◌≡◌, ◌≤◌, length}
use Rattle.rv_asm.specs.Statement.{skip}
use Rattle.rv_asm.proofs.class.skip.Given as goal

abbrev pub invariant-loop-rest : goal.invariant-loop-rest
invariant-loop-rest l = record {
  so_far : skip l.class l.rest ≡ skip l.class l.text;
  within : length l.rest ≤ length l.text;
}

abbrev pub decreases-loop-rest : goal.decreases-loop-rest
decreases-loop-rest l = length l.rest
