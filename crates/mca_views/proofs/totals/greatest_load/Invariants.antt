use Rattle.std.proofs.Common.{◌≡◌, ◌≤◌, ◌<◌, ◌^◌}
use Rattle.machine_model.specs.Uses.{units_of}
use Rattle.cycle_rules.specs.Totals.{greatest, over, body_holds}
use Rattle.mca_views.proofs.totals.greatest_load.Given as goal

abbrev pub invariant-loop-r : goal.invariant-loop-r
invariant-loop-r g l = record {
  most : l.most ≡ greatest l.fn.first l.r (λ r. over (body_holds r l.body) (units_of (g.M.Machine.meaning l.machine) r));
  den : 1 ≤ l.most.den;
  num_high : l.most.num < 2 ^ 64;
  den_high : l.most.den < 2 ^ 64;
}
