use Rattle.std.proofs.Common.{refl}
use Rattle.cycle_rules.specs.Pick.{padded}
use Rattle.resource_units.proofs.units.only.Goals as goal

pub returns : goal.returns
unfolding padded
returns c = refl
