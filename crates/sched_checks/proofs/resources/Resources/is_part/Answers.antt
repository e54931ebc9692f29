use Rattle.std.proofs.Common.{◌∙◌, ap, nat_eq}
use Rattle.std.specs.List.{list_any}
use Rattle.sched_checks.specs.Resources.{parts}
use Rattle.sched_checks.proofs.PartsAt.{parts_are}
use Rattle.sched_checks.proofs.resources.Resources.is_part.Goals as goal

pub returns : goal.returns
returns c = rw c.as_slice.ensures.value at c.has_number_at.ensures
    ∙ ap (λ ps. list_any (λ q. nat_eq q c.args.part) ps) (parts_are _ _ c.args.number c.self.invariant.0 ∙ ap (λ rs. parts rs c.args.number) c.self.view_is)
