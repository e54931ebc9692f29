use Rattle.std.proofs.Common.{◌∙◌, sym}
use Rattle.cycle_rules.specs.Bind.{row_of}
use Rattle.resource_units.proofs.Shows.{single}
use Rattle.engine_steps.proofs.Classes.{class_none, class_one}
use Rattle.engine_steps.proofs.wakeup.class_of.Goals as goal

pub returns-then-uses-ne1 : goal.returns-then-uses-ne1
returns-then-uses-ne1 c = class_none (row_of c.args.b.now).uses c.if-uses-ne1.true

pub returns : goal.returns
returns c = c.class_of_use.ensures ∙ class_one (row_of c.args.b.now).uses _ (sym (single (row_of c.args.b.now).uses (record { resource = 0; hold = 0 }) c.if-uses-ne1.false))
