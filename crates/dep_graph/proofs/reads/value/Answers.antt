use Rattle.std.proofs.Common.{◌-◌, ◌<◌, ℕ, arith, ap}
use Rattle.cycle_rules.specs.Row.{Input}
use Rattle.dep_graph.proofs.Summed.{issue_low}
use Rattle.dep_graph.proofs.reads.value.Goals as goal

pub available-requires : goal.available-requires
available-requires g c =
    let run : Input = g.R.Rows.input c.args.rows.now in
    let k : ℕ = c.args.j - c.args.link.back in
    let lt : k < run.rows = omega (arith, c.requires.row) in
    omega (arith, ap (λ r. r.issue) c.times.ensures, issue_low run (g.R.Rows.table c.args.rows.now) k c.requires.run lt)
