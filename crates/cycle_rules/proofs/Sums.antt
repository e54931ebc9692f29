-- Sums over the numbers below a number.
use Rattle.std.proofs.Common.{zero, suc, ◌≡◌, ℕ, ◌<◌, ◌≤◌, inl, inr, arith, sym, ◌∙◌, ap, subst, refl, false}
use Rattle.std.specs.Prelude.{nat_eq}
use Rattle.std.proofs.lemmas.Bool.{cases_Bool, cases_lt, eqb-false}
use Rattle.cycle_rules.specs.Below.{sum_below, all_below}
use Rattle.cycle_rules.proofs.Tests.{and_true}

pub sum_le : (n : ℕ) (f h : ℕ → ℕ) → ((k : ℕ) → k < n → f k ≤ h k) → sum_below n f ≤ sum_below n h
unfolding sum_below
sum_le zero f h e = omega arith
sum_le (suc n) f h e = omega (arith, sum_le n f h (λ k lt. e k (omega arith)), e n (omega arith))

pub sum_less : (n : ℕ) (f h : ℕ → ℕ) → ((k : ℕ) → k < n → f k ≤ h k) → all_below n (λ k. nat_eq (f k) (h k)) ≡ false → sum_below n f < sum_below n h
unfolding sum_below all_below
sum_less zero f h e some = cc
sum_less (suc n) f h e some = elim (cases_Bool (nat_eq (f n) (h n))) [
  | inr differ ↦ omega (arith, sum_le n f h (λ k lt. e k (omega arith)), e n (omega arith), eqb-false _ _ differ)
  | inl same ↦ omega (arith, sum_less n f h (λ k lt. e k (omega arith)) (sym (and_true _) ∙ rw same at some), e n (omega arith))
]

pub sum_same : (n : ℕ) (f h : ℕ → ℕ) → ((k : ℕ) → f k ≡ h k) → sum_below n f ≡ sum_below n h
sum_same n f h e = ap (sum_below n) (λ i k. e k i)

pub sum_above : (n : ℕ) (f : ℕ → ℕ) (k : ℕ) → k < n → 0 < f k → 0 < sum_below n f
unfolding sum_below
sum_above zero f k lt h = absurd (omega arith)
sum_above (suc n) f k lt h = elim (cases_lt k n) [ inl low ↦ omega (arith, sum_above n f k low h) | inr last ↦ (let e : k ≡ n = omega arith in omega (arith, subst (λ m. 0 < f m) e h)) ]

pub sum_none : (n : ℕ) (f : ℕ → ℕ) → ((k : ℕ) → k < n → f k ≡ 0) → sum_below n f ≡ 0
unfolding sum_below
sum_none zero f h = refl
sum_none (suc n) f h = omega (arith, sum_none n f (λ k lt. h k (omega arith)), h n (omega arith))
