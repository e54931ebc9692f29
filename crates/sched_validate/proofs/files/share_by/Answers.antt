use Rattle.sched_validate.proofs.Shares.{share_here, share_there}
use Rattle.sched_validate.proofs.files.share_by.Goals as goal

pub returns-then-has : goal.returns-then-has
returns-then-has c = share_here c.args.file c.args.register c.args.classes.now c.args.costs.now c.loop-place.place c.cost_at.result _ c.has.result
    c.loop-place-test.true c.loop-place.invariant c.has.ensures c.if-has.true c.cost_at.ensures

pub loop-place-preserved : goal.loop-place-preserved
loop-place-preserved c = share_there c.args.file c.args.register c.args.classes.now c.args.costs.now c.loop-place.place _ c.has.result
    c.loop-place-test.true c.loop-place.invariant c.has.ensures c.if-has.false
