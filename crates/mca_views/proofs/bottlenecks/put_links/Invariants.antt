use Rattle.std.proofs.Common.{◌≡◌, take, map}
use Rattle.mca_views.specs.Bottleneck.{IsTag, link_line}
use Rattle.mca_views.specs.Lines.{lines}
use Rattle.mca_views.specs.Page.{added}
use Rattle.mca_views.specs.Shown.{shown}
use Rattle.mca_views.proofs.bottlenecks.put_links.Given as goal

abbrev pub invariant-loop-e : goal.invariant-loop-e
invariant-loop-e g l = record {
  tag : IsTag (shown g.M.Machine.meaning l.v) l.tag;
  page : l.page ≡ added l.fn.page (lines (take l.e-index (map (link_line (shown g.M.Machine.meaning l.v)) l.links)));
}
