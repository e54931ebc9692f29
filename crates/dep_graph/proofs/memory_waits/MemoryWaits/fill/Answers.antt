use Rattle.std.proofs.Common.{◌≡◌, ◌+◌, ◌∷◌, [], ℕ, List, length, arith, refl, ◌∙◌, ap, length-append}
use Rattle.std.specs.Prelude.{slice_index_or}
use Rattle.dep_graph.proofs.Pushed.{pushed_default}
use Rattle.dep_graph.proofs.memory_waits.MemoryWaits.fill.Goals as goal

pub loop-self-init : goal.loop-self-init
loop-self-init c = record { few = c.requires; same = λ k. refl; waits = refl }

pub loop-self-preserved : goal.loop-self-preserved
loop-self-preserved c =
    let old : List ℕ = c.loop-self.self.places.items in
    let size : length c.push.new.self.items ≡ length old + 1 = ap (λ (xs : List ℕ). length xs) c.in_ok-push.ensures.items ∙ length-append old (0 ∷ []) in
    record {
      few = omega (arith, size, c.loop-self-test.true);
      same = λ k. ap (λ xs. slice_index_or xs k 0) c.in_ok-push.ensures.items ∙ pushed_default old 0 k ∙ c.loop-self.invariant.same k;
      waits = c.loop-self.invariant.waits;
    }

pub returns-clause-size : goal.returns-clause-size
returns-clause-size c = omega (arith, c.loop-self.invariant.few, c.loop-self-test.false)

pub returns-clause-same : goal.returns-clause-same
returns-clause-same c = c.loop-self.invariant.same
