-- Tests joined by and and or, and of all numbers below a number.
use Rattle.std.proofs.Common.{zero, suc, ◌≡◌, ℕ, ◌<◌, inl, inr, arith, refl, Bool, true, false, ◌&&◌, ◌||◌}
use Rattle.std.proofs.lemmas.Bool.{cases_lt, and_parts}
use Rattle.cycle_rules.specs.Below.{all_below}

pub and_false : (b : Bool) → (b && false) ≡ false
and_false true = refl
and_false false = refl

pub and_true : (b : Bool) → (b && true) ≡ b
and_true true = refl
and_true false = refl

pub or_true : (b : Bool) → (b || true) ≡ true
or_true true = refl
or_true false = refl

pub or_parts : (x y : Bool) → (x || y) ≡ false → (x ≡ false) × (y ≡ false)
or_parts false y e = (refl, e)
or_parts true y e = cc

pub or_none : (x y : Bool) → x ≡ false → y ≡ false → (x || y) ≡ false
or_none x y p q = rw (p, q) refl

pub all_hold : (n : ℕ) (p : ℕ → Bool) → ((k : ℕ) → k < n → p k ≡ true) → all_below n p ≡ true
unfolding all_below
all_hold zero p h = refl
all_hold (suc n) p h = rw (all_hold n p (λ k lt. h k (omega arith)), h n (omega arith)) refl

pub all_holds : (n : ℕ) (p : ℕ → Bool) → all_below n p ≡ true → (k : ℕ) → k < n → p k ≡ true
unfolding all_below
all_holds zero p h k lt = absurd (omega arith)
all_holds (suc n) p h k lt =
    let q : (all_below n p ≡ true) × (p n ≡ true) = and_parts _ _ h in
    elim (cases_lt k n) [ inl low ↦ all_holds n p q.0 k low | inr last ↦ (let e : k ≡ n = omega arith in rw e q.1) ]
