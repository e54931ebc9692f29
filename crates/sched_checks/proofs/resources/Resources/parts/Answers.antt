use Rattle.std.proofs.Common.{◌∙◌, ap}
use Rattle.sched_checks.specs.Resources.{parts}
use Rattle.sched_checks.proofs.PartsAt.{parts_are}
use Rattle.sched_checks.proofs.resources.Resources.parts.Goals as goal

pub returns : goal.returns
returns c = rw c.as_slice.ensures.value at c.numbers_at.ensures ∙ parts_are _ _ c.args.number c.self.invariant.0 ∙ ap (λ rs. parts rs c.args.number) c.self.view_is
