use Rattle.std.proofs.Common.{◌≡◌}
use Rattle.mca_views.specs.Lines.{lines}
use Rattle.mca_views.specs.Page.{added}
use Rattle.mca_views.specs.Shown.{shown}
use Rattle.mca_views.specs.Timeline.{row_lines}
use Rattle.mca_views.proofs.timelines.put_rows.Given as goal

abbrev pub invariant-loop-j : goal.invariant-loop-j
invariant-loop-j g l = l.page ≡ added l.fn.page (lines (row_lines (shown g.M.Machine.meaning l.v) l.cycles l.j))
