use Rattle.std.proofs.Common.{◌∙◌, sym, ap}
use Rattle.std.specs.Prelude.{nat_le}
use Rattle.cycle_rules.specs.Row.{times}
use Rattle.dep_graph.specs.Walk.{weight_of, is_enough}
use Rattle.dep_graph.specs.declared.window.Limited.TheVariants.{Registers}
use Rattle.dep_graph.proofs.Walks.{registers_from}
use Rattle.dep_graph.proofs.walk.take_registers.Goals as goal

pub returns-clause-from : goal.returns-clause-from
returns-clause-from g c = λ b le.
    registers_from (g.R.Rows.input c.args.rows.now) (times (g.R.Rows.table c.args.rows.now)) c.args.j b c.take-from.result c.take_file.result
    (ap (λ l. is_enough (weight_of (g.R.Rows.input c.args.rows.now) Registers) l.registers (times (g.R.Rows.table c.args.rows.now)) c.args.j b) (sym c.limits-bound.ensures) ∙ c.take-from.ensures.from b)
    (c.take_file.ensures.from b)
    ∙ ap (λ m. nat_le m b) (sym c.max.ensures)
