-- How many of the numbers below a number pass a test.
use Rattle.std.proofs.Common.{◌≡◌, ℕ, ◌+◌, ◌-◌, ◌<◌, ◌≤◌, zero, suc, Bool, true, false, refl, sym, subst, arith, inl, inr}
use Rattle.std.specs.Prelude.{◌&&◌, ◌||◌, nat_lt, nat_le, if◌then◌else◌}
use Rattle.std.proofs.lemmas.Bool.Decides.{nat_tests}
use Rattle.std.proofs.lemmas.Bool.{cases_lt}
use Rattle.unit_sets.specs.Below.{count_below}
use Rattle.unit_sets.proofs.Count.{count-add}

pub count_none : (n : ℕ) (p : ℕ → Bool) → ((v : ℕ) → v < n → p v ≡ false) → count_below n p ≡ 0
unfolding count_below
count_none zero p h = refl
count_none (suc n) p h = (let last : p n ≡ false = h n (omega arith) in let rest : count_below n p ≡ 0 = count_none n p (λ v lt. h v (omega arith)) in rw (last, rest) refl)

pub count_all : (n : ℕ) (p : ℕ → Bool) → ((v : ℕ) → v < n → p v ≡ true) → count_below n p ≡ n
unfolding count_below
count_all zero p h = refl
count_all (suc n) p h = (let last : p n ≡ true = h n (omega arith) in let rest : count_below n p ≡ n = count_all n p (λ v lt. h v (omega arith)) in rw (last, rest) (omega arith))

-- the numbers from a on, so many
pub count_interval : (n a size : ℕ) → a + size ≤ n → count_below n (λ u. nat_le a u && nat_lt u (a + size)) ≡ size
count_interval n a size fits =
    let whole : n ≡ a + (size + (n - (a + size))) = omega (arith, fits) in
    let split : _ = count-add a (size + (n - (a + size))) (λ u. nat_le a u && nat_lt u (a + size)) in
    let more : _ = count-add size (n - (a + size)) (λ v. nat_le a (a + v) && nat_lt (a + v) (a + size)) in
    let below : _ = count_none a (λ u. nat_le a u && nat_lt u (a + size)) (λ v lt. grind (arith, nat_tests, lt)) in
    let in_it : _ = count_all size (λ v. nat_le a (a + v) && nat_lt (a + v) (a + size)) (λ v lt. grind (arith, nat_tests, lt)) in
    let above : _ = count_none (n - (a + size)) (λ w. nat_le a (a + (size + w)) && nat_lt (a + (size + w)) (a + size)) (λ v lt. grind (arith, nat_tests)) in
    subst (λ m. count_below m (λ u. nat_le a u && nat_lt u (a + size)) ≡ size) (sym whole) (omega (arith, split, more, below, in_it, above))

or_count : (a b : Bool) → (a ≡ true → b ≡ true → ⊥) → (if a || b then 1 else 0) ≡ (if a then 1 else 0) + (if b then 1 else 0)
or_count true true never = absurd (never refl refl)
or_count true false never = refl
or_count false true never = refl
or_count false false never = refl

-- two tests that never pass both
pub count_or : (n : ℕ) (p q : ℕ → Bool) → ((v : ℕ) → p v ≡ true → q v ≡ true → ⊥) → count_below n (λ v. p v || q v) ≡ count_below n p + count_below n q
unfolding count_below
count_or zero p q never = refl
count_or (suc n) p q never = omega (arith, count_or n p q never, or_count (p n) (q n) (never n))

some_if : (n : ℕ) (p : ℕ → Bool) (b : Bool) → p n ≡ b → 0 < count_below n p + (if b then 1 else 0) → (0 < count_below n p → (u : ℕ) × (u < n) × (p u ≡ true)) → (u : ℕ) × (u < suc n) × (p u ≡ true)
some_if n p true e h rest = (n, omega arith, e)
some_if n p false e h rest = go (rest (omega (arith, h)))
  where
    go : (u : ℕ) × (u < n) × (p u ≡ true) → (u : ℕ) × (u < suc n) × (p u ≡ true)
    go (u, lt, e) = (u, omega (arith, lt), e)

-- where the count is not 0, some number passes
pub count_some : (n : ℕ) (p : ℕ → Bool) → 0 < count_below n p → (u : ℕ) × (u < n) × (p u ≡ true)
unfolding count_below
count_some zero p h = absurd (omega (arith, h))
count_some (suc n) p h = some_if n p (p n) refl h (count_some n p)

some_last : (n : ℕ) (c : ℕ) (b : Bool) → b ≡ true → 0 < c + (if b then 1 else 0)
some_last n c true e = omega arith
some_last n c false e = absurd cc

pub some_count : (n u : ℕ) (p : ℕ → Bool) → u < n → p u ≡ true → 0 < count_below n p
unfolding count_below
some_count zero u p lt e = absurd (omega (arith, lt))
some_count (suc n) u p lt e = elim (cases_lt u n) [
  | inl low ↦ omega (arith, some_count n u p low e)
  | inr last ↦ (let same : u ≡ n = omega arith in some_last n (count_below n p) (p n) (subst (λ v. p v ≡ true) same e))
]
