use Rattle.sched_validate.proofs.Needs.{places}
use Rattle.sched_validate.proofs.Whole.{valid}
use Rattle.sched_validate.proofs.law.machine_is_valid.Goals as goal

pub returns : goal.returns
returns c = λ es ds t few is sound. valid es ds t few (places es ds is) sound
