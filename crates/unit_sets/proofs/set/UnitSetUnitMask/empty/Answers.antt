use Rattle.unit_sets.proofs.Four.{in_words-zero}
use Rattle.unit_sets.proofs.set.UnitSetUnitMask.empty.Goals as goal

pub returns : goal.returns
returns c = in_words-zero
