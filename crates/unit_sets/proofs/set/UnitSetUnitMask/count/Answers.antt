use Rattle.std.proofs.Common.{arith, ◌*◌, ◌+◌}
use Rattle.unit_sets.specs.Members.{in_words}
use Rattle.unit_sets.proofs.Count.{count-zero, count-le}
use Rattle.unit_sets.proofs.Four.{count-word}
use Rattle.unit_sets.proofs.set.UnitSetUnitMask.count.Goals as goal

pub loop-word-init : goal.loop-word-init
loop-word-init c = count-zero (in_words c.args.self.now.words)

pub overflow_add-count : goal.overflow_add-count
overflow_add-count c =
    omega (arith, c.loop-word.invariant, c.count_in-count.ensures, count-word c.args.self.now.words c.loop-word.word-index c.loop-word-test.true, count-le (64 * (c.loop-word.word-index + 1)) (in_words c.args.self.now.words))

pub loop-word-preserved : goal.loop-word-preserved
loop-word-preserved c =
    omega (arith, c.loop-word.invariant, c.count_in-count.ensures, count-word c.args.self.now.words c.loop-word.word-index c.loop-word-test.true)
