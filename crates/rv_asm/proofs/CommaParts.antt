-- the texts between commas, joined by commas, are the text, and no comma outside parentheses is left in one
use Rattle.std.proofs.Common.{◌≡◌, ℕ, ◌<◌, inl, inr, List, [], ◌∷◌, ◌++◌, length, sym, ◌∙◌, ap, refl, subst, arith, true, false}
use Rattle.std.specs.List.{AllByRecursion}
use Rattle.std.proofs.lemmas.Bool.Decides.{nat_tests}
use Rattle.rv_asm.specs.Operands.{with_front, depth_after, separates_at, between_commas}
use Rattle.rv_asm.specs.Commas.{joined_by_commas, depth_behind, AreCommasInside}
use Rattle.rv_asm.proofs.Cut.{decided}

some_front : (b : ℕ) (ts : List (List ℕ)) → 0 < length (with_front (b ∷ []) ts)
some_front b [] = omega arith
some_front b (t ∷ ts) = omega arith

some_parts : (d : ℕ) (text : List ℕ) → 0 < length (between_commas d text)
some_parts d [] = omega arith
some_parts d (b ∷ bs) = elim (decided (separates_at d b)) as (λ _. 0 < length (between_commas d (b ∷ bs))) [
  | inl h ↦ (let here : between_commas d (b ∷ bs) ≡ [] ∷ between_commas 0 bs = rw h refl in omega (arith, ap length here))
  | inr h ↦ (let here : between_commas d (b ∷ bs) ≡ with_front (b ∷ []) (between_commas (depth_after d b) bs) = rw h refl in
      omega (arith, ap length here, some_front b (between_commas (depth_after d b) bs)))
]

join_comma : (ts : List (List ℕ)) → 0 < length ts → joined_by_commas ([] ∷ ts) ≡ 44 ∷ joined_by_commas ts
join_comma [] lt = absurd (omega (arith, lt))
join_comma (t ∷ ts) lt = refl

join_front : (b : ℕ) (ts : List (List ℕ)) → 0 < length ts → joined_by_commas (with_front (b ∷ []) ts) ≡ b ∷ joined_by_commas ts
join_front b [] lt = absurd (omega (arith, lt))
join_front b (t ∷ []) lt = refl
join_front b (t ∷ u ∷ us) lt = refl

comma_is : (d b : ℕ) → separates_at d b ≡ true → b ≡ 44
comma_is d b h = grind (arith, nat_tests, h)

pub joined_is : (d : ℕ) (text : List ℕ) → joined_by_commas (between_commas d text) ≡ text
joined_is d [] = refl
joined_is d (b ∷ bs) = elim (decided (separates_at d b)) as (λ _. joined_by_commas (between_commas d (b ∷ bs)) ≡ b ∷ bs) [
  | inl h ↦ (let here : between_commas d (b ∷ bs) ≡ [] ∷ between_commas 0 bs = rw h refl in
      ap joined_by_commas here ∙ join_comma (between_commas 0 bs) (some_parts 0 bs) ∙ (λ i. sym (comma_is d b h) i ∷ joined_is 0 bs i))
  | inr h ↦ (let here : between_commas d (b ∷ bs) ≡ with_front (b ∷ []) (between_commas (depth_after d b) bs) = rw h refl in
      ap joined_by_commas here ∙ join_front b (between_commas (depth_after d b) bs) (some_parts (depth_after d b) bs) ∙ ap (λ t. b ∷ t) (joined_is (depth_after d b) bs))
]

-- the first part goes on from a depth, and the others begin anew
abbrev AreParts : ℕ → List (List ℕ) → Type 0
AreParts d [] = Unit {0}
AreParts d (t ∷ ts) = AreCommasInside d t × AllByRecursion (AreCommasInside 0) ts

nothing_inside : (d : ℕ) → AreCommasInside d []
nothing_inside d [] back e = absurd cc
nothing_inside d (x ∷ xs) back e = absurd cc

deep : (d b : ℕ) → separates_at d b ≡ false → b ≡ 44 → 0 < d
deep d b h e = grind (arith, nat_tests, h, e)

more_inside : (d b : ℕ) (t : List ℕ) → separates_at d b ≡ false → AreCommasInside (depth_after d b) t → AreCommasInside d (b ∷ t)
more_inside d b t h inside [] back e = (let same : b ≡ 44 = cc in deep d b h same)
more_inside d b t h inside (x ∷ xs) back e =
    let same : b ≡ x = cc in
    let rest : t ≡ xs ++ 44 ∷ back = cc in
    subst (λ y. 0 < depth_behind (depth_after d y) xs) same (inside xs back rest)

front_parts : (d b : ℕ) (ts : List (List ℕ)) → separates_at d b ≡ false → AreParts (depth_after d b) ts → AreParts d (with_front (b ∷ []) ts)
front_parts d b [] h all = (more_inside d b [] h (nothing_inside (depth_after d b)), tt)
front_parts d b (t ∷ ts) h all = (more_inside d b t h all.0, all.1)

all_parts : (ts : List (List ℕ)) → AreParts 0 ts → AllByRecursion (AreCommasInside 0) ts
all_parts [] all = tt
all_parts (t ∷ ts) all = all

are_parts : (d : ℕ) (text : List ℕ) → AreParts d (between_commas d text)
are_parts d [] = (nothing_inside d, tt)
are_parts d (b ∷ bs) = elim (decided (separates_at d b)) as (λ _. AreParts d (between_commas d (b ∷ bs))) [
  | inl h ↦ (let here : between_commas d (b ∷ bs) ≡ [] ∷ between_commas 0 bs = rw h refl in
      subst (AreParts d) (sym here) (nothing_inside d, all_parts (between_commas 0 bs) (are_parts 0 bs)))
  | inr h ↦ (let here : between_commas d (b ∷ bs) ≡ with_front (b ∷ []) (between_commas (depth_after d b) bs) = rw h refl in
      subst (AreParts d) (sym here) (front_parts d b (between_commas (depth_after d b) bs) h (are_parts (depth_after d b) bs)))
]

pub commas_inside : (text : List ℕ) → AllByRecursion (AreCommasInside 0) (between_commas 0 text)
commas_inside text = all_parts (between_commas 0 text) (are_parts 0 text)
