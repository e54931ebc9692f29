use Rattle.std.proofs.Common.{◌≡◌, take}
use Rattle.cycle_rules.specs.Row.{times}
use Rattle.dep_graph.specs.Blamed.{edges_along}
use Rattle.dep_graph.specs.WaitSums.{AreSumsAlong}
use Rattle.dep_graph.specs.Taking.{IsTaking}
use Rattle.dep_graph.proofs.graph.edges_in_order.Given as goal

abbrev pub invariant-loop-i : goal.invariant-loop-i
invariant-loop-i g l = record {
  taking : IsTaking g.M.Machine.meaning g.M.Mask.UnitMask.holds (g.R.Rows.input l.rows) (times (g.R.Rows.table l.rows)) l.order l.taken l.i l.units l.last;
  sums : AreSumsAlong (g.R.Rows.input l.rows) (times (g.R.Rows.table l.rows)) l.order l.i l.sums;
  edges : l.edges.items ≡ edges_along (g.R.Rows.input l.rows) (times (g.R.Rows.table l.rows)) (take l.i l.order);
}
