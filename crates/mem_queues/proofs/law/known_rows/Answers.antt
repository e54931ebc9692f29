use Rattle.mem_queues.proofs.Flight.{kind-known, waits-known, below-known, few-known}
use Rattle.mem_queues.proofs.law.known_rows.Goals as goal

pub returns-clause-kind : goal.returns-clause-kind
returns-clause-kind c = kind-known

pub returns-clause-waits : goal.returns-clause-waits
returns-clause-waits c = waits-known

pub returns-clause-below : goal.returns-clause-below
returns-clause-below c = below-known

pub returns-clause-few : goal.returns-clause-few
returns-clause-few c = few-known
