use Rattle.std.proofs.Common.{◌≡◌, map, take}
use Rattle.sched_validate.proofs.resources.buffers.Given as goal

abbrev pub invariant-loop-resource : goal.invariant-loop-resource
invariant-loop-resource l = l.buffers.items ≡ map (λ r. r.now.buffer) (take l.resource-index l.resources)
