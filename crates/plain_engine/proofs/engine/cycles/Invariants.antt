use Rattle.std.proofs.Common.{◌≡◌}
use Rattle.engine_steps.specs.Pipeline.{run_of, IsDone}
use Rattle.plain_engine.proofs.engine.cycles.Given as goal

abbrev pub invariant-loop-c : goal.invariant-loop-c
invariant-loop-c g l = record {
  run : run_of g.M.Machine.meaning l.pipeline ≡ run_of g.M.Machine.meaning l.initial.pipeline;
  done : IsDone g.M.Machine.meaning g.M.Mask.UnitMask.holds l.pipeline l.c;
}
