use Rattle.std.proofs.Common.{arith, ◌∙◌}
use Rattle.sched_records.proofs.NumberSteps.{next_digit}
use Rattle.sched_records.proofs.number.digits_value.Goals as goal

pub loop-digit-preserved : goal.loop-digit-preserved
loop-digit-preserved c = record {
  bound = omega arith;
  same = next_digit c.args.digits.now c.loop-digit.digit-index c.args.base c.loop-digit.value c.min-value.result c.digit_value.result 9223372036854775809
      c.requires.low c.loop-digit-test.true c.digit_value.ensures c.min-value.ensures
      ∙ c.loop-digit.invariant.same;
}
