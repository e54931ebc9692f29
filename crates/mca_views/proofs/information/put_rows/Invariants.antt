use Rattle.std.proofs.Common.{◌≡◌}
use Rattle.mca_views.specs.Information.{information_line}
use Rattle.mca_views.specs.Lines.{lines, listed}
use Rattle.mca_views.specs.Page.{added}
use Rattle.mca_views.specs.Shown.{shown}
use Rattle.mca_views.proofs.information.put_rows.Given as goal

abbrev pub invariant-loop-k : goal.invariant-loop-k
invariant-loop-k g l = l.page ≡ added l.fn.page (lines (listed l.k (information_line (shown g.M.Machine.meaning l.v))))
