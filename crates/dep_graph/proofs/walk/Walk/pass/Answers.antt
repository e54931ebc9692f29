use Rattle.std.proofs.Common.{arith, ◌∙◌, ap}
use Rattle.cycle_rules.specs.Row.{Input, Table, times}
use Rattle.dep_graph.specs.RowCounts.{both, total}
use Rattle.dep_graph.proofs.Walks.{sums_more, sums_same, total_low, issue_early}
use Rattle.dep_graph.proofs.walk.Walk.pass.Goals as goal

pub add-requires : goal.add-requires
add-requires g c =
    let run : Input = g.R.Rows.input c.args.rows.now in
    let t : Table = times (g.R.Rows.table c.args.rows.now) in
    let at = issue_early run t c.args.j c.requires.run.run.each c.requires.row in
    omega (arith, total_low run t c.args.j c.requires.run.run.each c.requires.row, ap total c.requires.counts, ap total c.pass_later-row.ensures.counts, at.0, at.1, at.2, c.requires.run.early c.args.j c.requires.row)

pub returns-clause-counts : goal.returns-clause-counts
returns-clause-counts g c =
    let run : Input = g.R.Rows.input c.args.rows.now in
    let t : Table = times (g.R.Rows.table c.args.rows.now) in
    c.add.ensures ∙ (λ i. both (c.requires.counts i) (c.pass_later-row.ensures.counts i)) ∙ sums_more run t c.args.j

pub returns-then-times-self-clause-counts : goal.returns-then-times-self-clause-counts
returns-then-times-self-clause-counts g c =
    let run : Input = g.R.Rows.input c.args.rows.now in
    let t : Table = times (g.R.Rows.table c.args.rows.now) in
    c.requires.counts ∙ sums_same run t c.args.j (omega (arith, ap (λ r. r.dispatch) c.times.ensures, c.if-times-self.true, c.requires.walk.begin))
