use Rattle.issue_queues.proofs.Flight.{rows-last, rows-retire, rows-wake, rows-issue, rows-same}
use Rattle.issue_queues.proofs.law.same_rows.Goals as goal

pub returns-clause-enters : goal.returns-clause-enters
returns-clause-enters c = rows-last

pub returns-clause-retires : goal.returns-clause-retires
returns-clause-retires c = rows-retire

pub returns-clause-wakes : goal.returns-clause-wakes
returns-clause-wakes c = rows-wake

pub returns-clause-issues : goal.returns-clause-issues
returns-clause-issues c = rows-issue

pub returns-clause-stays : goal.returns-clause-stays
returns-clause-stays c = rows-same
