use Rattle.std.proofs.Common.{arith}
use Rattle.unit_sets.proofs.Words.{in_word-difference}
use Rattle.unit_sets.proofs.word.difference.Goals as goal

pub returns : goal.returns
returns c = in_word-difference c.args.word c.args.other (omega arith)
