use Rattle.sched_records.proofs.NameOrder.{members_order}
use Rattle.sched_records.proofs.table.members_in_order.Goals as goal

pub returns : goal.returns
returns c = members_order
