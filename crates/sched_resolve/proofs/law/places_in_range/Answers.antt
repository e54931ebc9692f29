use Rattle.sched_resolve.proofs.Told.{in_range}
use Rattle.sched_resolve.proofs.law.places_in_range.Goals as goal

pub returns : goal.returns
returns c = in_range
