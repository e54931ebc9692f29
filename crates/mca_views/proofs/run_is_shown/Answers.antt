use Rattle.mca_views.proofs.RanShown.{run_is_shown}
use Rattle.mca_views.proofs.run_is_shown.Goals as goal

pub returns : goal.returns
returns c = run_is_shown
