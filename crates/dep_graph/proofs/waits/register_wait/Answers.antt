use Rattle.std.proofs.Common.{◌≡◌, ◌+◌, ◌-◌, arith, ◌∙◌, ap}
use Rattle.std.specs.Prelude.{if◌then◌else◌}
use Rattle.cycle_rules.specs.Row.{Input, Table, times}
use Rattle.cycle_rules.specs.Waits.{earliest}
use Rattle.dep_graph.proofs.Reading.{register_is}
use Rattle.dep_graph.proofs.Summed.{dispatch_low}
use Rattle.dep_graph.proofs.waits.register_wait.Goals as goal

pub earliest-from-requires : goal.earliest-from-requires
earliest-from-requires g c = omega (arith, dispatch_low (g.R.Rows.input c.args.rows.now) (g.R.Rows.table c.args.rows.now) c.args.j c.requires.run c.requires.row, ap (λ r. r.dispatch) c.times.ensures)

pub returns : goal.returns
returns g c =
    let run : Input = g.R.Rows.input c.args.rows.now in
    let t : Table = times (g.R.Rows.table c.args.rows.now) in
    let from : c.earliest-from.result ≡ earliest run t c.args.j = c.earliest-from.ensures (t c.args.j).issue (run.row c.args.j).reserved c.requires.slot ∙ ap (λ r. if (run.row c.args.j).reserved then r.dispatch else r.dispatch + 1) c.times.ensures in
    register_is run t c.args.j c.late.result c.until.result c.requires.run.run.each c.requires.row c.late.ensures (c.until.ensures.cycles ∙ ap (λ m. c.late.result.time - m) from) c.until.ensures.row
