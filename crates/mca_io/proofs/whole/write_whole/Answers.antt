use Rattle.std.proofs.Common.{rules, arith}
use Rattle.mca_io.proofs.Pieces.{appends_more}
use Rattle.mca_io.proofs.whole.write_whole.Goals as goal

pub loop-at-preserved : goal.loop-at-preserved
loop-at-preserved g c = record {
  within = search rules;
  front = appends_more _ _ _ c.args.bytes.now c.loop-at.at c.in_ok-at.field-0 c.loop-at.invariant.front c.in_ok-at.ensures.bytes;
  later = omega (arith, c.in_ok-at.ensures.cause.later, c.loop-at.invariant.later);
}
