use Rattle.machine_model.proofs.UseOrder.{is_use_order, one_use_order}
use Rattle.machine_model.proofs.laws.one_use_order.Goals as goal

pub returns-clause-some : goal.returns-clause-some
returns-clause-some c = is_use_order

pub returns-clause-one : goal.returns-clause-one
returns-clause-one c = one_use_order
