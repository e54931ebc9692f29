use Rattle.engine_state.proofs.Taken.{taken_start, taken_cycle}
use Rattle.engine_state.proofs.TakenRows.{taken_retires, taken_issues, taken_dispatches}
use Rattle.engine_state.proofs.taken_units.Goals as goal

pub returns-clause-start : goal.returns-clause-start
returns-clause-start c = taken_start

pub returns-clause-retire : goal.returns-clause-retire
returns-clause-retire c = taken_retires

pub returns-clause-issue : goal.returns-clause-issue
returns-clause-issue c = taken_issues

pub returns-clause-dispatch : goal.returns-clause-dispatch
returns-clause-dispatch c = taken_dispatches

pub returns-clause-cycle : goal.returns-clause-cycle
returns-clause-cycle c = taken_cycle
