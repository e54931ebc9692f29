use Rattle.std.proofs.Common.{◌∙◌, ap, length, subst}
use Rattle.std.proofs.lemmas.Result.{err_from_is_err_and}
use Rattle.mca_views.specs.Fault.{Over}
use Rattle.mca_views.specs.Lines.{line}
use Rattle.mca_views.specs.Page.{added}
use Rattle.mca_views.specs.Shown.{shown}
use Rattle.mca_views.specs.WaitTimes.{wait_line}
use Rattle.mca_views.proofs.Listed.{no_line, next_line, over_next}
use Rattle.mca_views.proofs.wait_times.put_places.Goals as goal

pub loop-k-init : goal.loop-k-init
loop-k-init g c = no_line c.args.page.now _ c.requires.closed

pub put_line-requires : goal.put_line-requires
put_line-requires g c = ap (λ p. p.open_line) c.loop-k.invariant

pub returns-in_err-put_line-clause-long : goal.returns-in_err-put_line-clause-long
returns-in_err-put_line-clause-long g c = let p = err_from_is_err_and c.from_residual-in_err-put_line.result c.from_residual-in_err-put_line.ensures.1 in
    rw (p.1, p.2) (over_next c.loop-k.page c.args.page.now c.loop-k.k (length c.args.v.now.body.now) (wait_line (shown g.M.Machine.meaning c.args.v.now) c.args.o.now) _ c.loop-k-test.true c.loop-k.invariant
    (subst (λ t. Over c.loop-k.page.room (length (added c.loop-k.page (line t)).text) c.in_err-put_line.field-0.0) (c.deref.ensures.value ∙ c.in_ok-line.ensures) c.in_err-put_line.ensures.long))

pub loop-k-preserved : goal.loop-k-preserved
loop-k-preserved g c = c.in_ok-put_line.ensures.ok ∙ ap (λ t. added c.loop-k.page (line t)) (c.deref.ensures.value ∙ c.in_ok-line.ensures)
    ∙ next_line c.loop-k.page c.args.page.now c.loop-k.k (wait_line (shown g.M.Machine.meaning c.args.v.now) c.args.o.now) c.loop-k.invariant
