use Rattle.issue_queues.proofs.Flight.{in-known, at-known, below-known, few-known}
use Rattle.issue_queues.proofs.law.known_rows.Goals as goal

pub returns-clause-is_in : goal.returns-clause-is_in
returns-clause-is_in c = in-known

pub returns-clause-at : goal.returns-clause-at
returns-clause-at c = at-known

pub returns-clause-below : goal.returns-clause-below
returns-clause-below c = below-known

pub returns-clause-few : goal.returns-clause-few
returns-clause-few c = few-known
