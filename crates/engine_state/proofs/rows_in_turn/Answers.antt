use Rattle.engine_state.proofs.InTurn.{in_turn}
use Rattle.engine_state.proofs.rows_in_turn.Goals as goal

pub returns : goal.returns
returns c = in_turn
