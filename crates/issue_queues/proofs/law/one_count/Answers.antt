use Rattle.issue_queues.proofs.Flight.{entries-same}
use Rattle.issue_queues.proofs.law.one_count.Goals as goal

pub returns : goal.returns
returns c = entries-same
