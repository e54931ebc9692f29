use Rattle.std.proofs.Common.{◌*◌}
use Rattle.unit_sets.specs.Members.{in_words, NoneFrom}
use Rattle.unit_sets.proofs.set.next_in_words.Given as goal

abbrev pub invariant-loop-k : goal.invariant-loop-k
invariant-loop-k l = NoneFrom (64 * l.k) (in_words l.words) l.pos
