use Rattle.std.proofs.Common.{arith}
use Rattle.unit_sets.proofs.Words.{none_in_word, next_in_word}
use Rattle.unit_sets.proofs.word.next_in.Goals as goal

pub returns-then-rest-eq0 : goal.returns-then-rest-eq0
returns-then-rest-eq0 c = none_in_word c.args.word c.args.pos c.requires c.if-rest-eq0.true

pub returns-else-rest-eq0 : goal.returns-else-rest-eq0
returns-else-rest-eq0 c = next_in_word c.args.word c.args.pos (omega arith) c.requires (omega arith)
