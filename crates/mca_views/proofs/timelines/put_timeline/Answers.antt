use Rattle.std.proofs.Common.{◌≡◌, ◌++◌, ◌∙◌, ap}
use Rattle.mca_views.specs.Lines.{lines}
use Rattle.mca_views.specs.Page.{added}
use Rattle.mca_views.specs.Shown.{Shown, shown}
use Rattle.mca_views.specs.Timeline.{limited, cycles_shown, row_lines, timeline_head}
use Rattle.mca_views.proofs.Listed.{then_lines}
use Rattle.mca_views.proofs.timelines.put_timeline.Goals as goal

pub returns-clause-ok : goal.returns-clause-ok
returns-clause-ok g c =
    let s : Shown = shown g.M.Machine.meaning c.args.v.now in
    let cycles : c.limited-cycles.result ≡ cycles_shown s c.args.o.now = c.limited-cycles.ensures.is ∙ ap (limited c.args.o.now.timeline_max_cycles) c.total.ensures in
    then_lines c.put_rows.new.page c.put_head.new.page c.args.page.now (timeline_head c.limited-cycles.result) (row_lines s c.limited-cycles.result c.rows_shown-rows.result) c.in_ok-put_head.ensures.ok c.in_ok-put_rows.ensures.ok
    ∙ (λ i. added c.args.page.now (lines (timeline_head (cycles i) ++ row_lines s (cycles i) (c.rows_shown-rows.ensures.is i))))
