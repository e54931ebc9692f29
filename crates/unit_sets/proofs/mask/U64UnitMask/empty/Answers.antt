use Rattle.unit_sets.proofs.Words.{in_word-zero}
use Rattle.unit_sets.proofs.mask.U64UnitMask.empty.Goals as goal

pub returns : goal.returns
returns c = in_word-zero
