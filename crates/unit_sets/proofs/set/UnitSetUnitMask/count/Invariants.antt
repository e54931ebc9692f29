use Rattle.std.proofs.Common.{◌≡◌, ◌*◌}
use Rattle.unit_sets.specs.Below.{count_below}
use Rattle.unit_sets.specs.Members.{in_words}
use Rattle.unit_sets.proofs.set.UnitSetUnitMask.count.Given as goal

abbrev pub invariant-loop-word : goal.invariant-loop-word
invariant-loop-word l = l.count ≡ count_below (64 * l.word-index) (in_words l.word-items)
