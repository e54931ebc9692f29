use Rattle.std.proofs.Common.{arith, below_more}
use Rattle.cycle_rules.specs.Given.{input_in}
use Rattle.cycle_rules.specs.Row.{times}
use Rattle.cycle_rules.specs.Still.{IsRowStill}
use Rattle.cycle_rules.proofs.next.nearer_of_rows.Goals as goal

pub loop-k-preserved : goal.loop-k-preserved
loop-k-preserved c = record {
  low = omega (arith, c.nearer_of_row-nearest.ensures.low, c.loop-k.invariant.low);
  later = λ h. c.nearer_of_row-nearest.ensures.later (c.loop-k.invariant.later h);
  still = λ m b k le lt. below_more (λ i. IsRowStill (input_in m c.args.given.now.body.now c.args.given.now.count) (times c.args.given.now.rows.now) c.args.c b i) c.loop-k.k
      (λ i low. c.loop-k.invariant.still m b i le (omega (arith, lt, c.nearer_of_row-nearest.ensures.low)) low) (c.nearer_of_row-nearest.ensures.still m b le lt) k;
}

pub returns-clause-still : goal.returns-clause-still
returns-clause-still c = λ m b k le lt run given. c.loop-k.invariant.still m b k le lt (omega (arith, c.known-k-end.ensures, c.loop-k-test.false))
