use Rattle.engine_state.proofs.State.{state_phase, state_cycle}
use Rattle.engine_state.proofs.ends_of_phases.Goals as goal

pub returns-clause-phase : goal.returns-clause-phase
returns-clause-phase c = state_phase

pub returns-clause-cycle : goal.returns-clause-cycle
returns-clause-cycle c = state_cycle
