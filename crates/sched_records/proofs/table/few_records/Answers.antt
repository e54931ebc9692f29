use Rattle.std.proofs.Common.{refl, arith}
use Rattle.sched_records.proofs.FewRecords.{few}
use Rattle.sched_records.proofs.table.few_records.Goals as goal

pub returns : goal.returns
returns c = λ text records h. few records h refl (omega arith)
