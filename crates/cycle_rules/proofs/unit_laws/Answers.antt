use Rattle.cycle_rules.proofs.UnitRows.{row_ends, row_finds, row_stays}
use Rattle.cycle_rules.proofs.unit_laws.Goals as goal

pub returns-clause-end : goal.returns-clause-end
returns-clause-end c = row_ends

pub returns-clause-found : goal.returns-clause-found
returns-clause-found c = row_finds

pub returns-clause-stay : goal.returns-clause-stay
returns-clause-stay c = row_stays
