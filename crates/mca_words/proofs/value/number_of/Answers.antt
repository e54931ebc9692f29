use Rattle.std.proofs.Common.{arith, ◌∙◌}
use Rattle.mca_words.proofs.Numbers.{number_step}
use Rattle.mca_words.proofs.value.number_of.Goals as goal

pub loop-digit-preserved : goal.loop-digit-preserved
loop-digit-preserved c = record {
  bound = omega arith;
  read = number_step c.args.digits.now c.loop-digit.digit-index c.loop-digit.number c.min-number.result (omega arith) (omega arith) ∙ c.loop-digit.invariant.read;
}
