-- Tests of lists of numbers.
use Rattle.std.proofs.Common.{◌≡◌, ℕ, List, [], ◌∷◌, ◌++◌, Bool, true, false, refl, sym, subst, ◌∙◌, arith, nat_eq, inl, inr}
use Rattle.std.specs.Prelude.{◌||◌, ◌⊎◌, ⊤}
use Rattle.std.specs.List.{list_any}
use Rattle.std.proofs.lemmas.Bool.Decides.{nat_tests}
use Rattle.std.proofs.lemmas.Bool.{or_cases, or_left, or_right, or_parts, or_from}
use Rattle.std.proofs.lemmas.List.Folds.{list_any-append}

pub bool_same : (a b : Bool) → (a ≡ true → b ≡ true) → (b ≡ true → a ≡ true) → a ≡ b
bool_same true b to back = sym (to refl)
bool_same false true to back = back refl
bool_same false false to back = refl

pub four_parts : (a b c d : Bool) → (a || b || c || d) ≡ false → (a ≡ false) × (b ≡ false) × (c ≡ false) × (d ≡ false)
four_parts true b c d h = absurd cc
four_parts false true c d h = absurd cc
four_parts false false true d h = absurd cc
four_parts false false false d h = (refl, refl, refl, h)

pub three_parts : (a b c : Bool) → (a || b || c) ≡ false → (a ≡ false) × (b ≡ false) × (c ≡ false)
three_parts true b c h = absurd cc
three_parts false true c h = absurd cc
three_parts false false c h = (refl, refl, h)

abbrev pub is_in : List ℕ → ℕ → Bool
is_in xs x = list_any (λ q. nat_eq q x) xs

some_later : (f : ℕ → Bool) (x : ℕ) (xs : List ℕ) → (y : ℕ) × (f y ≡ true) × (is_in xs y ≡ true) → (y : ℕ) × (f y ≡ true) × (is_in (x ∷ xs) y ≡ true)
some_later f x xs (y, e, m) = (y, e, or_right (nat_eq x y) (is_in xs y) m)

-- an element that passes
pub any_some : (f : ℕ → Bool) (xs : List ℕ) → list_any f xs ≡ true → (x : ℕ) × (f x ≡ true) × (is_in xs x ≡ true)
any_some f [] h = absurd cc
any_some f (x ∷ xs) h = elim (or_cases (f x) (list_any f xs) h) [
  | inl e ↦ (x, e, or_left (nat_eq x x) (is_in xs x) (grind (arith, nat_tests)))
  | inr e ↦ some_later f x xs (any_some f xs e)
]

pub any_at : (f : ℕ → Bool) (xs : List ℕ) (x : ℕ) → is_in xs x ≡ true → f x ≡ true → list_any f xs ≡ true
any_at f [] x h e = absurd cc
any_at f (y ∷ ys) x h e = go (or_cases (nat_eq y x) (is_in ys x) h) (λ m. any_at f ys x m e)
  where
    go : (nat_eq y x ≡ true) ⊎ (is_in ys x ≡ true) → (is_in ys x ≡ true → list_any f ys ≡ true) → list_any f (y ∷ ys) ≡ true
    go (inl same) rest = (let at : y ≡ x = grind (arith, nat_tests, same) in or_left (f y) (list_any f ys) (subst (λ z. f z ≡ true) (sym at) e))
    go (inr later) rest = or_right (f y) (list_any f ys) (rest later)

-- no element twice
abbrev pub IsDistinct : List ℕ → Type 0
IsDistinct [] = ⊤
IsDistinct (p ∷ ps) = (is_in ps p ≡ false) × IsDistinct ps

pub distinct_more : (ps : List ℕ) (x : ℕ) → IsDistinct ps → is_in ps x ≡ false → IsDistinct (ps ++ x ∷ [])
distinct_more [] x h out = (refl, tt)
distinct_more (p ∷ ps) x h out = (out_of_both, distinct_more ps x h.1 (or_parts (nat_eq p x) (is_in ps x) out).1)
  where
    other : nat_eq x p ≡ false
    other = (let no_one : nat_eq p x ≡ false = (or_parts (nat_eq p x) (is_in ps x) out).0 in grind (arith, nat_tests, no_one))

    out_of_both : is_in (ps ++ x ∷ []) p ≡ false
    out_of_both = list_any-append (λ q. nat_eq q p) ps (x ∷ []) ∙ or_from (is_in ps p) (nat_eq x p || false) h.0 (or_from (nat_eq x p) false other refl)
