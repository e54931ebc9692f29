use Rattle.std.proofs.Common.{◌∙◌}
use Rattle.rv_asm.proofs.Cut.{close_step}
use Rattle.rv_asm.proofs.pieces.close_at.Goals as goal

pub loop-k-preserved : goal.loop-k-preserved
loop-k-preserved c = close_step c.loop-k.k c.args.text.now c.loop-k-test.true c.if-begins.ensures.test ∙ c.loop-k.invariant
