use Rattle.std.proofs.Common.{◌≡◌}
use Rattle.mca_views.specs.Lines.{listed}
use Rattle.mca_views.specs.Page.{more}
use Rattle.mca_views.proofs.timelines.put_letters.Given as goal

abbrev pub invariant-loop-c : goal.invariant-loop-c
invariant-loop-c g l = l.page ≡ more l.fn.page (listed l.c (g.L.Letters.at l.letters))
