use Rattle.engine_state.proofs.Writes.{state_retires, state_issues, state_dispatches}
use Rattle.engine_state.proofs.keys_with_an_event.Goals as goal

pub returns-clause-retire : goal.returns-clause-retire
returns-clause-retire c = state_retires

pub returns-clause-issue : goal.returns-clause-issue
returns-clause-issue c = state_issues

pub returns-clause-dispatch : goal.returns-clause-dispatch
returns-clause-dispatch c = state_dispatches
