use Rattle.mca_run.specs.Steps.{AreBodies}
use Rattle.mca_run.proofs.bodies.bind_regions.Given as goal

abbrev pub invariant-loop-k : goal.invariant-loop-k
invariant-loop-k g l = AreBodies (g.M.Machine.meaning l.machine) l.program l.k l.bodies.items
