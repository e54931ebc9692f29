-- the operands of an instruction, as the reader finds them one by one
use Rattle.std.proofs.Common.{◌≡◌, ℕ, ◌+◌, ◌<◌, ◌≤◌, ◌∙◌, sym, inl, inr, get_or, drop, add-one, drop-cons, List, [], ◌∷◌, length, false, refl, ap, arith}
use Rattle.rv_asm.specs.Operands.{with_front, separates_at, depth_after, between_commas}
use Rattle.rv_asm.proofs.Cut.{decided}

length_front : {X : Type 0} (front : List X) (ss : List (List X)) → 1 ≤ length ss → length (with_front front ss) ≡ length ss
length_front front [] le = absurd (omega (arith, le))
length_front front (s ∷ ss) le = refl

between_some : (depth : ℕ) (text : List ℕ) → 1 ≤ length (between_commas depth text)
between_some depth [] = omega arith
between_some depth (b ∷ bs) = elim (decided (separates_at depth b)) [
  | inl h ↦ rw h (omega arith)
  | inr h ↦ (let more : 1 ≤ length (between_commas (depth_after depth b) bs) = between_some (depth_after depth b) bs in rw h (omega (arith, length_front (b ∷ []) (between_commas (depth_after depth b) bs) more, more)))
]

-- a byte that is no comma outside parentheses adds no operand
pub count_more : (depth b : ℕ) (bs : List ℕ) → separates_at depth b ≡ false → length (between_commas depth (b ∷ bs)) ≡ length (between_commas (depth_after depth b) bs)
count_more depth b bs h = rw h (length_front (b ∷ []) (between_commas (depth_after depth b) bs) (between_some (depth_after depth b) bs))

nothing_front : {X : Type 0} (ss : List (List X)) → 1 ≤ length ss → with_front [] ss ≡ ss
nothing_front [] le = absurd (omega (arith, le))
nothing_front (s ∷ ss) le = refl

pub nothing_before : (text : List ℕ) → with_front [] (between_commas 0 text) ≡ between_commas 0 text
nothing_before text = nothing_front (between_commas 0 text) (between_some 0 text)

pub count_step : (depth count k total after_it : ℕ) (text : List ℕ) → k < length text → separates_at depth (get_or text k 0) ≡ false → after_it ≡ depth_after depth (get_or text k 0)
    → count + length (between_commas depth (drop k text)) ≡ total → count + length (between_commas after_it (drop (k + 1) text)) ≡ total
count_step depth count k total after_it text lt none e so_far =
    let here : drop k text ≡ get_or text k 0 ∷ drop (k + 1) text = rw (add-one, drop-cons text k 0) refl in
    let same : length (between_commas depth (drop k text)) ≡ length (between_commas after_it (drop (k + 1) text)) =
    ap (λ t. length (between_commas depth t)) here ∙ count_more depth (get_or text k 0) (drop (k + 1) text) none ∙ ap (λ d. length (between_commas d (drop (k + 1) text))) (sym e) in
    ap (λ n. count + n) (sym same) ∙ so_far
