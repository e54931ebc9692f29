use Rattle.unit_sets.proofs.Words.{in_word-set}
use Rattle.unit_sets.proofs.word.with_bit.Goals as goal

pub returns : goal.returns
returns c = in_word-set c.args.word c.args.u c.requires
