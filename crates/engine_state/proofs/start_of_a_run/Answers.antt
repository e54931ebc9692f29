use Rattle.engine_state.proofs.End.{state_start}
use Rattle.engine_state.proofs.Flow.{flow_start}
use Rattle.engine_state.proofs.start_of_a_run.Goals as goal

pub returns-clause-state : goal.returns-clause-state
returns-clause-state c = state_start

pub returns-clause-flow : goal.returns-clause-flow
returns-clause-flow c = flow_start
