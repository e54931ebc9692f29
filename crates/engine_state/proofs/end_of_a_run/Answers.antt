use Rattle.engine_state.proofs.End.{state_run, state_low}
use Rattle.engine_state.proofs.Flow.{flow_retired}
use Rattle.engine_state.proofs.end_of_a_run.Goals as goal

pub returns-clause-run : goal.returns-clause-run
returns-clause-run c = state_run

pub returns-clause-low : goal.returns-clause-low
returns-clause-low c = state_low

pub returns-clause-count : goal.returns-clause-count
returns-clause-count c = flow_retired
