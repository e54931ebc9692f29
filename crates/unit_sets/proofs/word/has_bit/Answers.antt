use Rattle.unit_sets.proofs.Words.{in_word-tested}
use Rattle.unit_sets.proofs.word.has_bit.Goals as goal

pub returns : goal.returns
returns c = in_word-tested c.args.word c.args.u c.requires
