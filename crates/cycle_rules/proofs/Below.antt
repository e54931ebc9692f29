-- Sums, counts and tests of the numbers below a number, as a loop makes them.
use Rattle.std.proofs.Common.{zero, suc, inl, inr, List, [], ◌∷◌, length, ◌≡◌, ℕ, ◌+◌, ◌<◌, arith, add-one, refl, ap, Bool, true, false, ◌&&◌}
use Rattle.std.specs.Prelude.{if◌then◌else◌}
use Rattle.std.specs.Prelude.{slice_index_or}
use Rattle.std.specs.List.{list_all}
use Rattle.std.proofs.lemmas.Bool.{cases_lt, and_parts}
use Rattle.cycle_rules.specs.Below.{sum_below, count_below, all_below}

pub sum_zero : (f : ℕ → ℕ) → sum_below 0 f ≡ 0
unfolding sum_below
sum_zero f = refl

pub sum_more : (n : ℕ) (f : ℕ → ℕ) (total x : ℕ) → total ≡ sum_below n f → x ≡ f n → total + x ≡ sum_below (n + 1) f
unfolding sum_below
sum_more n f total x e is = rw (add-one, e, is) refl

pub count_zero : (p : ℕ → Bool) → count_below 0 p ≡ 0
unfolding count_below
count_zero p = refl

pub count_more : (n : ℕ) (p : ℕ → Bool) (total x : ℕ) → total ≡ count_below n p → x ≡ (if p n then 1 else 0) → total + x ≡ count_below (n + 1) p
unfolding count_below
count_more n p total x e is = rw (add-one, e, is) refl

pub all_zero : (p : ℕ → Bool) → all_below 0 p ≡ true
unfolding all_below
all_zero p = refl

pub all_more : (n : ℕ) (p : ℕ → Bool) → all_below n p ≡ true → p n ≡ true → all_below (n + 1) p ≡ true
unfolding all_below
all_more n p e is = rw (add-one, e, is) refl

pub all_not : (n : ℕ) (p : ℕ → Bool) (k : ℕ) → k < n → p k ≡ false → false ≡ all_below n p
unfolding all_below
all_not zero p k lt h = absurd (omega arith)
all_not (suc n) p k lt h = elim (cases_lt k n) [
  | inl low ↦ rw (← all_not n p k low h) refl
  | inr last ↦ (let e : k ≡ n = omega arith in let is : p n ≡ false = rw e at h in rw is (ap (λ b. b) (none (all_below n p))))
]
  where
    none : (b : Bool) → false ≡ (b && false)
    none true = refl
    none false = refl

pub known_at : {A : Type 0} (p : A → Bool) (xs : List A) (k : ℕ) (d : A) → list_all p xs ≡ true → k < length xs → p (slice_index_or xs k d) ≡ true
known_at p [] k d h lt = absurd (omega arith)
known_at p (x ∷ xs) zero d h lt = (and_parts (p x) (list_all p xs) h).0
known_at p (x ∷ xs) (suc k) d h lt = known_at p xs k d (and_parts (p x) (list_all p xs) h).1 (omega arith)
