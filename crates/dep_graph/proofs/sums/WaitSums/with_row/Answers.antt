use Rattle.std.proofs.Common.{◌<◌, refl, arith}
use Rattle.std.specs.Prelude.{slice_index}
use Rattle.cycle_rules.specs.Row.{times}
use Rattle.dep_graph.proofs.Summed.{row_low, sums_low, sums_more}
use Rattle.dep_graph.proofs.sums.WaitSums.with_row.Goals as goal

pub overflow_add-result : goal.overflow_add-result
overflow_add-result g c =
    let low = sums_low (g.R.Rows.input c.args.rows.now) (g.R.Rows.table c.args.rows.now) c.args.order.now c.args.i c.args.self c.requires.run c.requires.order c.requires.place c.requires.sums in
    let lj : slice_index c.args.order.now c.args.i < (g.R.Rows.input c.args.rows.now).rows = c.requires.order.all.below c.args.i (omega (arith, c.requires.place, c.requires.order.all.rows)) in
    let row = row_low (g.R.Rows.input c.args.rows.now) (g.R.Rows.table c.args.rows.now) (slice_index c.args.order.now c.args.i) c.requires.run lj in
    omega (arith, low.0, row.0, c.requires.waits.before.register.is)

pub overflow_add-result-2 : goal.overflow_add-result-2
overflow_add-result-2 g c =
    let low = sums_low (g.R.Rows.input c.args.rows.now) (g.R.Rows.table c.args.rows.now) c.args.order.now c.args.i c.args.self c.requires.run c.requires.order c.requires.place c.requires.sums in
    let lj : slice_index c.args.order.now c.args.i < (g.R.Rows.input c.args.rows.now).rows = c.requires.order.all.below c.args.i (omega (arith, c.requires.place, c.requires.order.all.rows)) in
    let row = row_low (g.R.Rows.input c.args.rows.now) (g.R.Rows.table c.args.rows.now) (slice_index c.args.order.now c.args.i) c.requires.run lj in
    omega (arith, low.1, row.1, c.requires.waits.before.memory.is)

pub overflow_add-result-3 : goal.overflow_add-result-3
overflow_add-result-3 g c =
    let low = sums_low (g.R.Rows.input c.args.rows.now) (g.R.Rows.table c.args.rows.now) c.args.order.now c.args.i c.args.self c.requires.run c.requires.order c.requires.place c.requires.sums in
    let lj : slice_index c.args.order.now c.args.i < (g.R.Rows.input c.args.rows.now).rows = c.requires.order.all.below c.args.i (omega (arith, c.requires.place, c.requires.order.all.rows)) in
    let row = row_low (g.R.Rows.input c.args.rows.now) (g.R.Rows.table c.args.rows.now) (slice_index c.args.order.now c.args.i) c.requires.run lj in
    omega (arith, low.2, row.2, c.requires.waits.units)

pub returns : goal.returns
returns g c = sums_more (g.R.Rows.input c.args.rows.now) (times (g.R.Rows.table c.args.rows.now)) c.args.order.now c.args.i c.args.self _ c.args.row c.requires.sums c.requires.waits refl refl refl
