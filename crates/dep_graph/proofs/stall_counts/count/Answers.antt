use Rattle.std.proofs.Common.{sym, ◌∙◌}
use Rattle.cycle_rules.specs.Row.{Input, Table, times}
use Rattle.dep_graph.proofs.Walks.{sums_none}
use Rattle.dep_graph.proofs.stall_counts.count.Goals as goal

pub loop-j-init : goal.loop-j-init
loop-j-init g c =
    let run : Input = g.R.Rows.input c.args.rows.now in
    let t : Table = times (g.R.Rows.table c.args.rows.now) in
    record { walk = c.empty-walk.ensures run t; counts = c.none-counts.ensures ∙ sym (sums_none run t) }
