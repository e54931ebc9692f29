use Rattle.std.proofs.Common.{◌∙◌, ap, map}
use Rattle.machine_model.specs.declared.limits.Limits.{Limits}
use Rattle.cycle_rules.specs.Bind.{row_of}
use Rattle.cycle_rules.specs.Row.{Row, input}
use Rattle.engine_steps.proofs.Operands.{uops_told}
use Rattle.engine_steps.proofs.plan.PlanRows.uops.Goals as goal

pub returns : goal.returns
returns g c = c.min.ensures ∙ uops_told (input (g.M.Machine.meaning c.args.self.now.machine.now) (map row_of c.args.self.now.body.now) c.args.self.now.iterations) c.args.j c.instruction-b.result.now.uops c.limits-reorder.result.reorder
    (ap (λ (b : Row). b.uops) c.instruction-b.ensures.row) (ap (λ (l : Limits). l.reorder) c.limits-reorder.ensures)
