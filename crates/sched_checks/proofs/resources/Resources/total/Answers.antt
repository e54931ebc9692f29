use Rattle.std.proofs.Common.{◌∙◌, ap}
use Rattle.sched_checks.specs.Resources.{total}
use Rattle.sched_checks.proofs.PartsAt.{total_is}
use Rattle.sched_checks.proofs.resources.Resources.total.Goals as goal

pub returns : goal.returns
returns c = rw c.as_slice.ensures.value at c.count_at.ensures ∙ total_is _ _ c.args.number c.self.invariant.1 ∙ ap (λ rs. total rs c.args.number) c.self.view_is
