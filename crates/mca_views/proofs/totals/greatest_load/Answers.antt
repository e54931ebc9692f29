use Rattle.std.proofs.Common.{◌∙◌}
use Rattle.cycle_rules.specs.Totals.{over}
use Rattle.mca_views.proofs.Loads.{greatest_none, greatest_more}
use Rattle.mca_views.proofs.totals.greatest_load.Goals as goal

pub loop-r-init : goal.loop-r-init
loop-r-init g c = record { most = greatest_none c.args.first _; den = c.requires.den; num_high = c.requires.num_high; den_high = c.requires.den_high }

pub loop-r-preserved : goal.loop-r-preserved
loop-r-preserved g c = record {
  most = c.greater-most.ensures.is ∙ greatest_more c.args.first c.loop-r.r _ _ _ c.loop-r.invariant.most (c.ratio.ensures.is ∙ (λ i. over (c.body_holds.ensures i) (c.units_of.ensures.is i)));
  den = c.greater-most.ensures.some;
  num_high = c.greater-most.ensures.num;
  den_high = c.greater-most.ensures.den;
}
