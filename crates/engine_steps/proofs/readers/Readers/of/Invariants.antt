use Rattle.engine_steps.specs.Readers.{AreLists}
use Rattle.engine_steps.proofs.readers.Readers.of.Given as goal

abbrev pub invariant-loop-place : goal.invariant-loop-place
invariant-loop-place l = AreLists l.links l.place l.starts.items l.later.items
