use Rattle.std.proofs.Common.{◌-◌}
use Rattle.cycle_rules.specs.Row.{times}
use Rattle.dep_graph.specs.Taking.{IsTaking}
use Rattle.dep_graph.proofs.unit_waits.take_before.Given as goal

abbrev pub invariant-loop-units : goal.invariant-loop-units
invariant-loop-units g l = IsTaking g.M.Machine.meaning g.M.Mask.UnitMask.holds (g.R.Rows.input l.rows) (times (g.R.Rows.table l.rows)) l.order l.taken l.i l.units l.last

abbrev pub decreases-loop-units : goal.decreases-loop-units
decreases-loop-units g l = (g.R.Rows.input l.rows).rows - l.taken
