use Rattle.std.proofs.Common.{◌+◌, ◌≤◌}
use Rattle.cycle_rules.proofs.pipe.drive.Given as goal

abbrev pub invariant-loop-c : goal.invariant-loop-c
invariant-loop-c g l = record {
  sound : g.P.Pipe.sound l.pipe;
  same : g.P.Pipe.same l.fn.pipe l.pipe;
  steps : l.steps + g.P.Pipe.left l.pipe ≤ l.fn.steps + g.P.Pipe.left l.fn.pipe;
}

abbrev pub decreases-loop-c : goal.decreases-loop-c
decreases-loop-c g l = g.P.Pipe.left l.pipe
