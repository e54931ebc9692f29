use Rattle.cycle_rules.proofs.UnitsEnd.{units_end, units_stay, few_changes, late_changes}
use Rattle.cycle_rules.proofs.UnitsFound.{units_found}
use Rattle.cycle_rules.proofs.taken_laws.Goals as goal

pub returns-clause-end : goal.returns-clause-end
returns-clause-end c = units_end

pub returns-clause-found : goal.returns-clause-found
returns-clause-found c = units_found

pub returns-clause-stay : goal.returns-clause-stay
returns-clause-stay c = units_stay

pub returns-clause-few : goal.returns-clause-few
returns-clause-few c = few_changes

pub returns-clause-late : goal.returns-clause-late
returns-clause-late c = late_changes
