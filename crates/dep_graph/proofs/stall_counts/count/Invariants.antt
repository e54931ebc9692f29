use Rattle.std.proofs.Common.{◌≡◌}
use Rattle.cycle_rules.specs.Row.{times}
use Rattle.dep_graph.specs.Walk.{IsWalk, sums_of}
use Rattle.dep_graph.proofs.stall_counts.count.Given as goal

abbrev pub invariant-loop-j : goal.invariant-loop-j
invariant-loop-j g l = record {
  walk : IsWalk (g.R.Rows.input l.rows) (times (g.R.Rows.table l.rows)) l.j l.walk;
  counts : l.counts ≡ sums_of (g.R.Rows.input l.rows) (times (g.R.Rows.table l.rows)) l.j;
}
