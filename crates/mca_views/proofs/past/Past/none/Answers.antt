use Rattle.std.proofs.Common.{◌≡◌, ◌++◌, ◌∙◌, ◌-◌, ap, refl, true, false, take, length, replicate, get_or, ℕ}
use Rattle.std.specs.Prelude.{Option, None}
use Rattle.std.proofs.lemmas.List.{get_or-replicate}
use Rattle.mca_views.proofs.Operands.{none_wrote}
use Rattle.mca_views.proofs.past.Past.none.Goals as goal

pub returns : goal.returns
returns c = λ g t.
    let all : c.resize.new.self.items ≡ replicate {A = Option ℕ} 32 None = c.in_ok-resize.ensures.items ∙ (λ i. take 32 (c.new-writers.ensures.items i) ++ replicate (32 - c.new-writers.ensures.len i) None) in
    record {
      registers = ap length all ∙ (let n : length (replicate {A = Option ℕ} 32 None) ≡ 32 = refl in n);
      writers = λ r d lt. ap (λ l. get_or l r d) all ∙ get_or-replicate 32 r None d lt ∙ none_wrote g r;
      of_reserved = c.none.ensures g t true;
      of_others = c.none-2.ensures g t false;
    }
