use Rattle.std.proofs.Common.{refl}
use Rattle.sched_resolve.proofs.opcodes.all_opcodes.Goals as goal

pub returns : goal.returns
returns c = refl
