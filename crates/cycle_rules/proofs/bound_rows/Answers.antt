use Rattle.cycle_rules.proofs.BoundRows.{body_is_bound, input_is_bound}
use Rattle.cycle_rules.proofs.bound_rows.Goals as goal

pub returns-clause-body : goal.returns-clause-body
returns-clause-body c = body_is_bound

pub returns-clause-rows : goal.returns-clause-rows
returns-clause-rows c = λ numbers size m body iterations valid is. input_is_bound m body iterations (body_is_bound numbers size m body valid is)
