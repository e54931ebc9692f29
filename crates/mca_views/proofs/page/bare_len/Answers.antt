use Rattle.mca_views.proofs.Pages.{bare_at, split_less}
use Rattle.std.proofs.Common.{arith}
use Rattle.mca_views.proofs.page.bare_len.Goals as goal

pub returns-then-bytes-n-ne32-clause-bare : goal.returns-then-bytes-n-ne32-clause-bare
returns-then-bytes-n-ne32-clause-bare c = bare_at c.args.bytes.now c.loop-n.n c.loop-n-test.true c.loop-n.invariant.le c.if-bytes-n-ne32.true

pub loop-n-preserved : goal.loop-n-preserved
loop-n-preserved c = record {
  le = omega (arith, c.loop-n.invariant.le);
  split = split_less c.args.bytes.now c.loop-n.n c.loop-n-test.true c.loop-n.invariant.le c.if-bytes-n-ne32.false c.loop-n.invariant.split;
}
