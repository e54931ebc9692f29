use Rattle.std.proofs.Common.{sym, ◌∙◌, ap}
use Rattle.cycle_rules.specs.Pick.{pick_unit}
use Rattle.cycle_rules.proofs.Free.{next_none, next_some}
use Rattle.cycle_rules.proofs.finds.find.Goals as goal

pub returns-then-used-eq0 : goal.returns-then-used-eq0
returns-then-used-eq0 g c = λ earlier is rest. next_none (g.M.Machine.meaning c.args.machine.now) earlier c.args.at.cycle c.args.used.now rest c.if-used-eq0.true

pub returns-in-Some : goal.returns-in-Some
returns-in-Some g c = λ earlier is rest. next_some (g.M.Machine.meaning c.args.machine.now) earlier c.args.at.cycle c.args.used.now rest _ c.if-used-eq0.false
    (c.in-Some.ensures.is ∙ ap (λ l. pick_unit (g.M.Machine.meaning c.args.machine.now) l c.args.at.cycle c.args.used.now.resource) (sym is))

pub returns-in-None : goal.returns-in-None
returns-in-None g c = λ earlier is rest. next_some (g.M.Machine.meaning c.args.machine.now) earlier c.args.at.cycle c.args.used.now rest _ c.if-used-eq0.false
    (c.in-None.ensures.is ∙ ap (λ l. pick_unit (g.M.Machine.meaning c.args.machine.now) l c.args.at.cycle c.args.used.now.resource) (sym is))
