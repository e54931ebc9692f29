use Rattle.std.proofs.Common.{◌≡◌, ◌<◌, ◌*◌, ◌%◌, length, map, take, refl, ◌∙◌, ap, sym, subst, arith}
use Rattle.std.proofs.lemmas.List.{length-map}
use Rattle.cycle_rules.specs.Below.{sum_below}
use Rattle.cycle_rules.specs.Bind.{row_of}
use Rattle.cycle_rules.specs.Holds.{held, held_by_all, held_by}
use Rattle.cycle_rules.specs.Row.{times}
use Rattle.cycle_rules.proofs.HoldSums.{sum_next, held_here, place_within}
use Rattle.cycle_rules.proofs.holds.sum_holds.Goals as goal

pub loop-j-init : goal.loop-j-init
unfolding sum_below
loop-j-init c = record {
  same = c.clear.ensures.length;
  each = λ u lt. c.clear.ensures.each u lt;
  low = λ u lt. (let e = c.clear.ensures.each u lt in omega (arith, e));
}

pub loop-j-preserved : goal.loop-j-preserved
loop-j-preserved c =
    let body = c.args.body.now in let t = times c.args.rows.now in let j = c.loop-j.j in
    record {
      same = c.add_holds.ensures.length ∙ c.loop-j.invariant.same;
      each = λ u lt. (
          let there : u < length c.loop-j.sums = subst (λ n. u < n) (sym c.loop-j.invariant.same) lt in
          let within : j % length body < length body = place_within c.args.iterations (length body) j (subst (λ n. j < n) c.requires.rows.count c.loop-j-test.true) in
          let here = held_here body t j (j % length body) u c.index-body-j.result within refl c.index-body-j.is in
          let taken : held c.uses_of.result.now (t j).units u ≡ held (take c.index-body-j.result.use_count c.index-body-j.result.uses) (t j).units u = ap (λ us. held us (t j).units u) c.uses_of.ensures.uses in
          let before = c.loop-j.invariant.each u lt in
          let next = sum_next j (λ k. held_by (map row_of body) t k u) in
          omega (arith, c.add_holds.ensures.each u there, taken, here, before, next));
      low = λ u lt. (
          let there : u < length c.loop-j.sums = subst (λ n. u < n) (sym c.loop-j.invariant.same) lt in
          omega (arith, c.add_holds.ensures.low u there, c.loop-j.invariant.low u lt));
    }

pub returns-clause-each : goal.returns-clause-each
unfolding held_by_all
returns-clause-each c = λ u lt. (
    let e : c.loop-j.j ≡ c.args.iterations * length (map row_of c.args.body.now) = let f : c.loop-j.j ≡ length c.args.rows.now = omega arith in f ∙ c.requires.rows.count ∙ ap (λ n. c.args.iterations * n) (sym (length-map c.args.body.now row_of)) in
    c.loop-j.invariant.each u lt ∙ ap (λ n. sum_below n (λ j. held_by (map row_of c.args.body.now) (times c.args.rows.now) j u)) e)
