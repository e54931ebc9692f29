use Rattle.std.proofs.Common.{◌∙◌, sym, ap, arith}
use Rattle.cycle_rules.specs.Bind.{row_of}
use Rattle.cycle_rules.specs.Row.{Row}
use Rattle.engine_steps.specs.Wake.{class_of}
use Rattle.engine_steps.proofs.Classes.{class_low}
use Rattle.engine_steps.proofs.Wakes.{roused}
use Rattle.engine_steps.proofs.wakeup.rouse.Goals as goal

pub insert-requires : goal.insert-requires
insert-requires g c = omega (arith, c.class_of.ensures, class_low (row_of c.instruction-b.result.now).uses)

pub returns-clause-found : goal.returns-clause-found
returns-clause-found g c none = roused c.args.ready.now c.insert.new.self c.class_of.result c.args.k (class_of ((g.R.Rows.input c.args.rows.now).row c.args.k).uses) c.insert.ensures (omega (arith, c.class_of.ensures, class_low (row_of c.instruction-b.result.now).uses))
    (sym (c.class_of.ensures ∙ ap (λ (b : Row). class_of b.uses) c.instruction-b.ensures.row))
