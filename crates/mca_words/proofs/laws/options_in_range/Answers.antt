use Rattle.mca_words.proofs.InRange.{in_range}
use Rattle.mca_words.proofs.laws.options_in_range.Goals as goal

pub returns : goal.returns
returns c = in_range
