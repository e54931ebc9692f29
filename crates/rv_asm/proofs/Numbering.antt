-- numbers of names in a set of vectors, and in the list that it stands for
use Rattle.std.proofs.Common.{◌≡◌, ℕ, ◌+◌, ◌∙◌, inl, inr, List, [], ◌∷◌, ◌++◌, true, false, refl, sym, ap, nat_eq}
use Rattle.std.specs.Prelude.{map, ◌||◌, if◌then◌else◌}
use Rattle.std.specs.List.{list_any, position_or_len}
use Rattle.std.specs.Cmp.Lexicographic.{pointwise}
use Rattle.std.proofs.lemmas.List.{map-append}
use Rattle.rv_asm.specs.Names.{is_same, with_name, number_of}
use Rattle.rv_asm.proofs.Cut.{decided}

module _ {K : Type 0} (items : K → List ℕ) where
  any_mapped : (name : List ℕ) (ks : List K) → list_any (λ k. pointwise nat_eq name (items k)) ks ≡ list_any (is_same name) (map items ks)
  any_mapped name [] = refl
  any_mapped name (k ∷ ks) = ap (λ b. pointwise nat_eq name (items k) || b) (any_mapped name ks)

  place_mapped : (name : List ℕ) (ks : List K) → position_or_len (λ k. pointwise nat_eq name (items k)) ks ≡ position_or_len (is_same name) (map items ks)
  place_mapped name [] = refl
  place_mapped name (k ∷ ks) = elim (decided (pointwise nat_eq name (items k))) [
    | inl h ↦ rw h refl
    | inr h ↦ rw h (ap (λ n. 1 + n) (place_mapped name ks))
  ]

  with_mapped : (v : K) (ks : List K) → map items (if list_any (λ k. pointwise nat_eq (items v) (items k)) ks then ks else ks ++ v ∷ []) ≡ with_name (map items ks) (items v)
  with_mapped v ks = elim (decided (list_any (λ k. pointwise nat_eq (items v) (items k)) ks)) [
    | inl h ↦ (let g : list_any (is_same (items v)) (map items ks) ≡ true = sym (any_mapped (items v) ks) ∙ h in rw (h, g) refl)
    | inr h ↦ (let g : list_any (is_same (items v)) (map items ks) ≡ false = sym (any_mapped (items v) ks) ∙ h in rw (h, g) (map-append items ks (v ∷ [])))
  ]

  pub number_is : (ks : List K) (v : K) (n : ℕ) (names : List (List ℕ)) (name : List ℕ) → n ≡ position_or_len (λ k. pointwise nat_eq (items v) (items k)) ks → map items ks ≡ names → items v ≡ name → n ≡ number_of names name
  number_is ks v n names name e all one = e ∙ place_mapped (items v) ks ∙ (λ i. number_of (all i) (one i))

  pub names_are : (ks after_it : List K) (v : K) (names : List (List ℕ)) (name : List ℕ) → after_it ≡ (if list_any (λ k. pointwise nat_eq (items v) (items k)) ks then ks else ks ++ v ∷ []) → map items ks ≡ names → items v ≡ name → map items after_it ≡ with_name names name
  names_are ks after_it v names name e all one = ap (map items) e ∙ with_mapped v ks ∙ (λ i. with_name (all i) (one i))
