use Rattle.engine_steps.specs.Readers.{AreChained}
use Rattle.engine_steps.proofs.readers.Chains.of.Given as goal

abbrev pub invariant-loop-id : goal.invariant-loop-id
invariant-loop-id l = AreChained l.links l.id l.chains.last.items l.chains.earlier.items
