use Rattle.cycle_rules.proofs.Exists.{schedule_exists}
use Rattle.cycle_rules.proofs.Unique.{schedule_unique}
use Rattle.cycle_rules.proofs.one_schedule.Goals as goal

pub returns-clause-some : goal.returns-clause-some
returns-clause-some c = λ r m bound. schedule_exists r m bound

pub returns-clause-one : goal.returns-clause-one
returns-clause-one c = λ r m bound. schedule_unique r m bound
