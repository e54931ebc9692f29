use Rattle.std.proofs.Common.{◌∙◌, ap}
use Rattle.cycle_rules.specs.Totals.{over, greatest_load}
use Rattle.mca_views.proofs.Loads.{entry_uses, block_is}
use Rattle.mca_views.proofs.totals.block_throughput.Goals as goal

pub greatest_load-requires-clause-counts : goal.greatest_load-requires-clause-counts
greatest_load-requires-clause-counts g c = λ k d lt. entry_uses _ _ (g.M.Machine.meaning c.args.machine.now) _ (g.met.M.Machine.valid c.args.machine.now) (c.requires.entry k d lt)

pub returns-clause-is : goal.returns-clause-is
returns-clause-is g c = c.greatest_load.ensures.is
    ∙ ap (λ f. greatest_load (g.M.Machine.meaning c.args.machine.now) f c.args.body.now)
    (c.ratio-first.ensures.is ∙ (λ i. over (c.body_uops.ensures.is i) (c.limits.ensures i).width))
    ∙ block_is (g.M.Machine.meaning c.args.machine.now) c.args.body.now
