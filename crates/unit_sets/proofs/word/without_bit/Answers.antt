use Rattle.unit_sets.proofs.Words.{in_word-cleared}
use Rattle.unit_sets.proofs.word.without_bit.Goals as goal

pub returns : goal.returns
returns c = in_word-cleared c.args.word c.args.u c.requires
