use Rattle.std.proofs.lemmas.Nat.{mod-mul-add}
use Rattle.std.proofs.Common.{◌≡◌, ◌<◌, ◌+◌, ◌*◌, ◌%◌, ℕ, length, map, take, ◌∙◌, ap, sym, subst, arith}
use Rattle.std.proofs.lemmas.List.{length-map}
use Rattle.cycle_rules.specs.Below.{sum_below}
use Rattle.cycle_rules.specs.Bind.{row_of}
use Rattle.cycle_rules.specs.Holds.{held, held_at, held_by}
use Rattle.cycle_rules.specs.Row.{times}
use Rattle.cycle_rules.proofs.HoldSums.{sum_next, held_here}
use Rattle.cycle_rules.proofs.holds.sum_holds_at.Goals as goal

pub loop-k-init : goal.loop-k-init
unfolding sum_below
loop-k-init c = record {
  same = c.clear.ensures.length;
  each = λ u lt. c.clear.ensures.each u lt;
  low = λ u lt. (let e = c.clear.ensures.each u lt in omega (arith, e));
}

pub loop-k-preserved : goal.loop-k-preserved
loop-k-preserved c =
    let body = c.args.body.now in let t = times c.args.rows.now in let place = c.args.place in
    let f : ℕ → ℕ → ℕ = λ u k. held_by (map row_of body) t (k * length (map row_of body) + place) u in
    record {
      same = c.add_holds.ensures.length ∙ c.loop-k.invariant.same;
      each = λ u lt. (
          let there : u < length c.loop-k.sums = subst (λ n. u < n) (sym c.loop-k.invariant.same) lt in
          let j : ℕ = c.loop-k.k * length body + place in
          let at : j % length body ≡ place = mod-mul-add c.loop-k.k (length body) place c.requires.place in
          let here = held_here body t j place u c.index-body-place.result c.requires.place at c.index-body-place.is in
          let mapped : held_by (map row_of body) t j u ≡ f u c.loop-k.k = ap (λ n. held_by (map row_of body) t (c.loop-k.k * n + place) u) (sym (length-map body row_of)) in
          let taken : held c.uses_of-uses.result.now (t j).units u ≡ held (take c.index-body-place.result.use_count c.index-body-place.result.uses) (t j).units u = ap (λ us. held us (t j).units u) c.uses_of-uses.ensures.uses in
          let before = c.loop-k.invariant.each u lt in
          let next = sum_next c.loop-k.k (f u) in
          omega (arith, c.add_holds.ensures.each u there, taken, here, mapped, before, next));
      low = λ u lt. (
          let there : u < length c.loop-k.sums = subst (λ n. u < n) (sym c.loop-k.invariant.same) lt in
          omega (arith, c.add_holds.ensures.low u there, c.loop-k.invariant.low u lt));
    }

pub returns-clause-each : goal.returns-clause-each
unfolding held_at
returns-clause-each c = λ u lt. (
    let e : c.loop-k.k ≡ c.args.iterations = omega arith in
    c.loop-k.invariant.each u lt ∙ ap (λ n. sum_below n (λ k. held_by (map row_of c.args.body.now) (times c.args.rows.now) (k * length (map row_of c.args.body.now) + c.args.place) u)) e)
