-- Counts below a number.
use Rattle.std.proofs.Common.{zero, suc, ◌≡◌, ℕ, ◌<◌, ◌≤◌, inl, inr, arith, refl, Bool, true, false}
use Rattle.std.proofs.lemmas.Bool.{cases_Bool, cases_lt}
use Rattle.cycle_rules.specs.Below.{count_below}

pub count_le : (n : ℕ) (p : ℕ → Bool) → count_below n p ≤ n
unfolding count_below
count_le zero p = omega arith
count_le (suc n) p = let rest : count_below n p ≤ n = count_le n p in grind (arith, rest)

-- where all pass, each does
pub count_all : (n : ℕ) (p : ℕ → Bool) → n ≤ count_below n p → (k : ℕ) → k < n → p k ≡ true
unfolding count_below
count_all zero p h k lt = absurd (omega arith)
count_all (suc n) p h k lt = elim (cases_Bool (p n)) [
  | inl here ↦ elim (cases_lt k n) [ inl low ↦ count_all n p (omega (arith, rw here at h)) k low | inr last ↦ (let e : k ≡ n = omega arith in rw e here) ]
  | inr gone ↦ absurd (omega (arith, rw gone at h, count_le n p))
]

pub count_full : (n : ℕ) (p : ℕ → Bool) → ((k : ℕ) → k < n → p k ≡ true) → n ≤ count_below n p
unfolding count_below
count_full zero p h = omega arith
count_full (suc n) p h = rw (h n (omega arith)) (omega (arith, count_full n p (λ k lt. h k (omega arith))))

pub count_same : (n : ℕ) (p q : ℕ → Bool) → ((k : ℕ) → k < n → p k ≡ q k) → count_below n p ≡ count_below n q
unfolding count_below
count_same zero p q h = refl
count_same (suc n) p q h = rw (count_same n p q (λ k lt. h k (omega arith)), h n (omega arith)) refl

pub count_none : (n : ℕ) (p : ℕ → Bool) → ((u : ℕ) → u < n → p u ≡ false) → count_below n p ≡ 0
unfolding count_below
count_none zero p h = refl
count_none (suc n) p h = let rest : count_below n p ≡ 0 = count_none n p (λ u lt. h u (omega arith)) in rw (h n (omega arith)) (omega (arith, rest))
