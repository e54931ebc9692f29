use Rattle.std.proofs.Common.{refl}
use Rattle.std.specs.Fmt.{digits}
use Rattle.cycle_rules.specs.Below.{count_below, sum_below}
use Rattle.cycle_rules.specs.Holds.{held_at, held_by_all}
use Rattle.mca_views.specs.Lines.{listed}
use Rattle.mca_views.specs.Pressure.{columns, lines_of}
use Rattle.mca_views.proofs.pressures.worked_pressure.Goals as goal

pub returns-clause-one : goal.returns-clause-one
unfolding digits count_below sum_below held_at held_by_all listed columns lines_of
returns-clause-one c = refl

pub returns-clause-repeated : goal.returns-clause-repeated
unfolding digits count_below sum_below held_at held_by_all listed columns lines_of
returns-clause-repeated c = refl

pub returns-clause-three : goal.returns-clause-three
unfolding digits count_below sum_below held_at held_by_all listed columns lines_of
returns-clause-three c = refl

pub returns-clause-pair : goal.returns-clause-pair
unfolding digits count_below
returns-clause-pair c = refl
