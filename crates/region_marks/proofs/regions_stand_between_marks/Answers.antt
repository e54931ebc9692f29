use Rattle.region_marks.proofs.Between.{are_regions, right_sizes, lie_within}
use Rattle.region_marks.proofs.Walked.{walked}
use Rattle.region_marks.proofs.regions_stand_between_marks.Goals as goal

pub returns-clause-marks : goal.returns-clause-marks
returns-clause-marks c = are_regions

pub returns-clause-sizes : goal.returns-clause-sizes
returns-clause-sizes c = right_sizes

pub returns-clause-within : goal.returns-clause-within
returns-clause-within c = lie_within

pub returns-clause-all : goal.returns-clause-all
returns-clause-all c = walked
