use Rattle.std.proofs.Common.{◌∙◌, sym, arith}
use Rattle.rv_asm.proofs.Commas.{count_step}
use Rattle.rv_asm.proofs.split.count_between.Goals as goal

pub loop-b-preserved : goal.loop-b-preserved
loop-b-preserved c = record {
  so_far = count_step c.loop-b.depth c.loop-b.count c.loop-b.b-index _ c.depth_after-depth.result c.args.text.now c.loop-b-test.true (sym c.separates_at.ensures ∙ c.if-separates_at.false) c.depth_after-depth.ensures.value c.loop-b.invariant.so_far;
  deep = omega (arith, c.depth_after-depth.ensures.high);
  few = omega arith;
}
