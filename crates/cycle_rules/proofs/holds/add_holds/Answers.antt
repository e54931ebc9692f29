use Rattle.std.proofs.Common.{◌∙◌, sym, arith, subst, ◌<◌, length}
use Rattle.cycle_rules.proofs.HoldSums.{held_more}
use Rattle.cycle_rules.proofs.holds.add_holds.Goals as goal

pub loop-k-preserved : goal.loop-k-preserved
loop-k-preserved c = record {
  same = c.add_hold.ensures.length ∙ c.loop-k.invariant.same;
  each = λ u lt. (
      let there : u < length c.loop-k.sums = subst (λ n. u < n) (sym c.loop-k.invariant.same) lt in
      let more = held_more c.args.uses.now c.args.units.now c.loop-k.k u c.loop-k-test.true c.requires.enough in
      omega (arith, c.add_hold.ensures.each u there, c.loop-k.invariant.each u lt, more));
  low = λ u lt. (
      let there : u < length c.loop-k.sums = subst (λ n. u < n) (sym c.loop-k.invariant.same) lt in
      omega (arith, c.add_hold.ensures.low u there, c.loop-k.invariant.low u lt));
}
