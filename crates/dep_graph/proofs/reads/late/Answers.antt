use Rattle.std.proofs.Common.{sym, subst}
use Rattle.std.specs.Prelude.{slice_index_or}
use Rattle.cycle_rules.specs.Links.{AreLinks, no_links}
use Rattle.cycle_rules.specs.Row.{Input, Table, times}
use Rattle.cycle_rules.specs.declared.links.Links.{Links}
use Rattle.dep_graph.specs.Peaks.{IsLate}
use Rattle.dep_graph.proofs.Reading.{late_of}
use Rattle.dep_graph.proofs.reads.late.Goals as goal

pub returns : goal.returns
returns g c =
    let run : Input = g.R.Rows.input c.args.rows.now in
    let t : Table = times (g.R.Rows.table c.args.rows.now) in
    let links : Links = slice_index_or c.args.links.now c.place.result no_links in
    let are : AreLinks run c.args.j links = subst (λ p. AreLinks run c.args.j (slice_index_or c.args.links.now p no_links)) (sym c.place.ensures) (c.requires.links.each c.args.j c.requires.row) in
    subst (IsLate run t c.args.j (run.row c.args.j).reads) (sym c.later.ensures) (late_of run t c.args.j links c.value.result c.value-2.result are c.value.ensures c.value-2.ensures)
