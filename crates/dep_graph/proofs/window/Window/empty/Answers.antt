use Rattle.std.proofs.Common.{arith, refl}
use Rattle.cycle_rules.specs.Below.{sum_below}
use Rattle.dep_graph.proofs.window.Window.empty.Goals as goal

pub returns : goal.returns
unfolding sum_below
returns c = λ g what bound. record {
  kept = λ some. record { low = omega arith; sum = refl; least = λ i is. absurd (omega (arith, is)) };
  low = omega arith;
}
