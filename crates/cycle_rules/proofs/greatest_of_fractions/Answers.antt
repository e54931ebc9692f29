use Rattle.cycle_rules.proofs.Fractions.{is_one, first_not_above, none_above}
use Rattle.cycle_rules.proofs.greatest_of_fractions.Goals as goal

pub returns-clause-one : goal.returns-clause-one
returns-clause-one c = is_one

pub returns-clause-first : goal.returns-clause-first
returns-clause-first c = first_not_above

pub returns-clause-others : goal.returns-clause-others
returns-clause-others c = none_above
