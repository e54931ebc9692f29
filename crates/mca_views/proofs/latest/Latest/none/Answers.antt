use Rattle.mca_views.proofs.LatestCycles.{none_before}
use Rattle.mca_views.proofs.latest.Latest.none.Goals as goal

pub returns : goal.returns
returns c = none_before
