use Rattle.std.proofs.Common.{◌∙◌}
use Rattle.std.proofs.lemmas.Result.{err_from_is_err_and}
use Rattle.mca_views.proofs.Listed.{listed_none, listed_next, over_listed}
use Rattle.mca_views.proofs.timelines.put_letters.Goals as goal

pub loop-c-init : goal.loop-c-init
loop-c-init g c = listed_none c.args.page.now (g.L.Letters.at c.args.letters.now)

pub returns-in_err-put_byte-clause-long : goal.returns-in_err-put_byte-clause-long
returns-in_err-put_byte-clause-long g c = let p = err_from_is_err_and c.from_residual.result c.from_residual.ensures.1 in
    rw (p.1, p.2) (over_listed c.args.page.now c.loop-c.page c.loop-c.c c.args.cycles (g.L.Letters.at c.args.letters.now) _ c.loop-c-test.true c.loop-c.invariant (rw (← c.letter.ensures) c.in_err-put_byte.ensures.long))

pub loop-c-preserved : goal.loop-c-preserved
loop-c-preserved g c = c.in_ok-put_byte.ensures.ok ∙ rw c.letter.ensures (listed_next c.args.page.now c.loop-c.page c.loop-c.c (g.L.Letters.at c.args.letters.now) c.loop-c.invariant)
