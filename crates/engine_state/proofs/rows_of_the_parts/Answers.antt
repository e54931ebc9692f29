use Rattle.engine_state.proofs.Ties.{group_tie, reorder_tie, registers_tie}
use Rattle.engine_state.proofs.rows_of_the_parts.Goals as goal

pub returns-clause-group : goal.returns-clause-group
returns-clause-group c = group_tie

pub returns-clause-reorder : goal.returns-clause-reorder
returns-clause-reorder c = reorder_tie

pub returns-clause-registers : goal.returns-clause-registers
returns-clause-registers c = registers_tie
