use Rattle.std.proofs.Common.{◌∙◌, ap}
use Rattle.std.proofs.lemmas.Result.{err_from_is_err_and}
use Rattle.mca_views.specs.Shown.{shown}
use Rattle.mca_views.specs.Timeline.{row_lines}
use Rattle.mca_views.proofs.Listed.{added_none}
use Rattle.mca_views.proofs.Rows.{rows_next, over_rows}
use Rattle.mca_views.proofs.timelines.put_rows.Goals as goal

pub loop-j-init : goal.loop-j-init
unfolding row_lines
loop-j-init g c = added_none c.args.page.now c.requires.closed

pub put_row-requires-clause-closed : goal.put_row-requires-clause-closed
put_row-requires-clause-closed g c = ap (λ p. p.open_line) c.loop-j.invariant

pub returns-in_err-put_row-clause-long : goal.returns-in_err-put_row-clause-long
returns-in_err-put_row-clause-long g c = let p = err_from_is_err_and c.from_residual.result c.from_residual.ensures.1 in
    rw (p.1, p.2) (over_rows c.args.page.now c.loop-j.page (shown g.M.Machine.meaning c.args.v.now) c.args.cycles c.loop-j.j c.args.rows _ c.loop-j-test.true c.loop-j.invariant c.in_err-put_row.ensures.long)

pub loop-j-preserved : goal.loop-j-preserved
loop-j-preserved g c = c.in_ok-put_row.ensures.ok ∙ rows_next c.args.page.now c.loop-j.page (shown g.M.Machine.meaning c.args.v.now) c.args.cycles c.loop-j.j c.loop-j.invariant
