use Rattle.row_sets.proofs.Words.{in_word-union}
use Rattle.row_sets.proofs.bits.union.Goals as goal

pub returns : goal.returns
returns c = in_word-union c.args.a c.args.b
