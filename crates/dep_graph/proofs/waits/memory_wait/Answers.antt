use Rattle.std.proofs.Common.{◌≡◌, ◌+◌, refl, arith, sym, ◌∙◌, ap}
use Rattle.std.specs.Prelude.{if◌then◌else◌}
use Rattle.cycle_rules.specs.Row.{Input, Table, times}
use Rattle.cycle_rules.specs.Waits.{earliest, operands_at}
use Rattle.dep_graph.specs.PassTimes.{pass_time}
use Rattle.dep_graph.specs.Peaks.{IsPeak}
use Rattle.dep_graph.proofs.Reading.{memory_is}
use Rattle.dep_graph.proofs.Summed.{dispatch_low, issue_low}
use Rattle.dep_graph.proofs.Timed.{waits_sum}
use Rattle.dep_graph.proofs.waits.memory_wait.Goals as goal

pub returns-then-fence-eq0 : goal.returns-then-fence-eq0
returns-then-fence-eq0 g c =
    let run : Input = g.R.Rows.input c.args.rows.now in
    let t : Table = times (g.R.Rows.table c.args.rows.now) in
    let fence : IsPeak (pass_time run t c.args.j) c.args.j c.of_kind-fence.result = c.of_kind-fence.ensures run t c.args.j (ap (λ r. r.kind) (sym c.requires.instruction)) c.requires.fences in
    memory_is run t c.args.j c.of_kind-fence.result c.until.result (operands_at run t c.args.j) c.requires.run.run.each c.requires.row refl fence (omega (arith, c.until.ensures.cycles, c.if-fence-eq0.true)) c.until.ensures.row

pub earliest-requires : goal.earliest-requires
earliest-requires g c = omega (arith, dispatch_low (g.R.Rows.input c.args.rows.now) (g.R.Rows.table c.args.rows.now) c.args.j c.requires.run c.requires.row, ap (λ r. r.dispatch) c.requires.at)

pub overflow_add-earliest : goal.overflow_add-earliest
overflow_add-earliest g c =
    let run : Input = g.R.Rows.input c.args.rows.now in
    let t : Table = times (g.R.Rows.table c.args.rows.now) in
    let from : c.earliest.result ≡ earliest run t c.args.j = c.earliest.ensures (t c.args.j).issue (run.row c.args.j).reserved c.requires.slot ∙ ap (λ r. if (run.row c.args.j).reserved then r.dispatch else r.dispatch + 1) c.requires.at in
    let sum = waits_sum run t c.args.j c.requires.run.run.each c.requires.row in
    omega (arith, from, c.register_wait-register.ensures.is, sum.0, sum.1, sum.2, issue_low run (g.R.Rows.table c.args.rows.now) c.args.j c.requires.run c.requires.row)

pub returns : goal.returns
returns g c =
    let run : Input = g.R.Rows.input c.args.rows.now in
    let t : Table = times (g.R.Rows.table c.args.rows.now) in
    let from : c.earliest.result ≡ earliest run t c.args.j = c.earliest.ensures (t c.args.j).issue (run.row c.args.j).reserved c.requires.slot ∙ ap (λ r. if (run.row c.args.j).reserved then r.dispatch else r.dispatch + 1) c.requires.at in
    let fence : IsPeak (pass_time run t c.args.j) c.args.j c.of_kind-fence.result = c.of_kind-fence.ensures run t c.args.j (ap (λ r. r.kind) (sym c.requires.instruction)) c.requires.fences in
    let sum = waits_sum run t c.args.j c.requires.run.run.each c.requires.row in
    let ready : c.earliest.result + c.register_wait-register.result.cycles ≡ operands_at run t c.args.j = omega (arith, from, c.register_wait-register.ensures.is, sum.0) in
    memory_is run t c.args.j c.of_kind-fence.result c.until-2.result (c.earliest.result + c.register_wait-register.result.cycles) c.requires.run.run.each c.requires.row ready fence c.until-2.ensures.cycles c.until-2.ensures.row
