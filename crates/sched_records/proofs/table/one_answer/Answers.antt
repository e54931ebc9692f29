use Rattle.sched_records.proofs.OneAnswer.{one}
use Rattle.sched_records.proofs.table.one_answer.Goals as goal

pub returns-clause-records : goal.returns-clause-records
returns-clause-records c = λ text a b h g. let same = one h g in cc

pub returns-clause-fault : goal.returns-clause-fault
returns-clause-fault c = λ text f g h i. let same = one h i in cc

pub returns-clause-not_both : goal.returns-clause-not_both
returns-clause-not_both c = λ text a f h g. let same = one h g in cc
