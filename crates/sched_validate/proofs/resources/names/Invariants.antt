use Rattle.std.proofs.Common.{◌≡◌, map, take}
use Rattle.sched_validate.proofs.resources.names.Given as goal

abbrev pub invariant-loop-resource : goal.invariant-loop-resource
invariant-loop-resource l = l.names.items ≡ map (λ r. r.now.name) (take l.resource-index l.resources)
