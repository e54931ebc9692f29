use Rattle.std.proofs.Common.{◌≡◌, ◌≤◌, arith, sym, ap, subst, true}
use Rattle.cycle_rules.specs.Row.{Input, Table, times}
use Rattle.cycle_rules.specs.Dispatch.{fits_group}
use Rattle.dep_graph.specs.Walk.{IsFilled}
use Rattle.dep_graph.proofs.Reached.{holds_at_dispatch}
use Rattle.dep_graph.proofs.Runs.{start_le}
use Rattle.dep_graph.proofs.Walks.{issue_early, some_uops}
use Rattle.dep_graph.proofs.walk.fill_group.Goals as goal

pub place_from-from-requires-clause-uops : goal.place_from-from-requires-clause-uops
place_from-from-requires-clause-uops g c =
    let run : Input = g.R.Rows.input c.args.rows.now in
    omega (arith, (c.uops-uops.ensures run c.args.j c.requires.instruction (ap (λ l. l.reorder) (sym c.limits-limits.ensures))), some_uops run c.args.j (c.requires.run.bound c.args.j c.requires.row).uops_low c.requires.run.limits.reorder_low)

pub place_from-from-requires-clause-early : goal.place_from-from-requires-clause-early
place_from-from-requires-clause-early g c =
    let run : Input = g.R.Rows.input c.args.rows.now in
    let t : Table = times (g.R.Rows.table c.args.rows.now) in
    let at = issue_early run t c.args.j c.requires.run.run.each c.requires.row in
    omega (arith, c.requires.begin, start_le run t c.args.j (c.requires.run.run.each c.args.j c.requires.row), at.0, at.1, at.2, c.requires.run.early c.args.j c.requires.row)

pub overflow_sub-end : goal.overflow_sub-end
overflow_sub-end g c =
    let run : Input = g.R.Rows.input c.args.rows.now in
    omega (arith, c.requires.begin, c.requires.end, start_le run (times (g.R.Rows.table c.args.rows.now)) c.args.j (c.requires.run.run.each c.args.j c.requires.row))

pub pass-requires-clause-early : goal.pass-requires-clause-early
pass-requires-clause-early g c =
    let run : Input = g.R.Rows.input c.args.rows.now in
    let t : Table = times (g.R.Rows.table c.args.rows.now) in
    let at = issue_early run t c.args.j c.requires.run.run.each c.requires.row in
    omega (arith, c.requires.end, at.0, at.1, at.2, c.requires.run.early c.args.j c.requires.row)

pub join-requires : goal.join-requires
join-requires g c =
    let run : Input = g.R.Rows.input c.args.rows.now in
    let t : Table = times (g.R.Rows.table c.args.rows.now) in
    let le : c.args.begin ≤ c.args.end = omega (arith, c.requires.begin, c.requires.end, start_le run t c.args.j (c.requires.run.run.each c.args.j c.requires.row)) in
    let passed : IsFilled run t c.args.j c.args.end c.pass.new.self = c.pass.ensures run t c.args.j c.args.begin c.args.end c.requires.fill (ap (λ l. l.width) (sym c.limits-limits.ensures)) (omega (arith, le)) in
    record { few = passed.few }

pub returns-clause-fill : goal.returns-clause-fill
returns-clause-fill g c =
    let run : Input = g.R.Rows.input c.args.rows.now in
    let t : Table = times (g.R.Rows.table c.args.rows.now) in
    let le : c.args.begin ≤ c.args.end = omega (arith, c.requires.begin, c.requires.end, start_le run t c.args.j (c.requires.run.run.each c.args.j c.requires.row)) in
    let passed : IsFilled run t c.args.j c.args.end c.pass.new.self = c.pass.ensures run t c.args.j c.args.begin c.args.end c.requires.fill (ap (λ l. l.width) (sym c.limits-limits.ensures)) (omega (arith, le)) in
    let some : 1 ≤ c.uops-uops.result = omega (arith, (c.uops-uops.ensures run c.args.j c.requires.instruction (ap (λ l. l.reorder) (sym c.limits-limits.ensures))), some_uops run c.args.j (c.requires.run.bound c.args.j c.requires.row).uops_low c.requires.run.limits.reorder_low) in
    let fits : fits_group run t c.args.j c.args.end ≡ true = subst (λ e. fits_group run t c.args.j e ≡ true) (sym c.requires.end) (holds_at_dispatch run t c.args.j 0 c.requires.run.run.each c.requires.row (omega arith)) in
    c.join.ensures run t c.args.j c.args.end passed c.requires.run.limits some (sym (c.uops-uops.ensures run c.args.j c.requires.instruction (ap (λ l. l.reorder) (sym c.limits-limits.ensures)))) (ap (λ r. r.ends_group) (sym c.requires.instruction)) (sym c.requires.end) fits
