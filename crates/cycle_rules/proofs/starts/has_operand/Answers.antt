use Rattle.std.proofs.Common.{sym, ◌∙◌, refl}
use Rattle.cycle_rules.specs.Given.{input_in}
use Rattle.cycle_rules.proofs.SeenIssues.{operand_zero, operand_of}
use Rattle.cycle_rules.proofs.starts.has_operand.Goals as goal

pub returns-then-number-eq0 : goal.returns-then-number-eq0
returns-then-number-eq0 g c = operand_zero _ _ _ _ c.args.source.now (sym c.number.ensures.value ∙ c.if-number-eq0.true)

pub returns-in-Some : goal.returns-in-Some
returns-in-Some g c = operand_of (input_in (g.M.Machine.meaning c.args.machine.now) c.args.given.now.body.now c.args.given.now.count) _ c.args.at.row c.args.at.cycle c.args.source.now _ _ (λ e. c.if-number-eq0.false (c.number.ensures.value ∙ e)) c.in-Some.ensures.is c.has_value.ensures

pub returns-in-None : goal.returns-in-None
returns-in-None g c = operand_of (input_in (g.M.Machine.meaning c.args.machine.now) c.args.given.now.body.now c.args.given.now.count) _ c.args.at.row c.args.at.cycle c.args.source.now _ _ (λ e. c.if-number-eq0.false (c.number.ensures.value ∙ e)) c.in-None.ensures.is refl
