-- The greatest of fractions is one of them, and none is above it.
use Rattle.std.proofs.Common.{zero, suc, ◌≡◌, ℕ, ◌*◌, ◌<◌, ◌≤◌, inl, inr, arith, subst, sym, refl, Bool, true, false, mul-le-mul_right, le_of_mul-le-mul_right}
use Rattle.std.specs.Prelude.{if◌then◌else◌}
use Rattle.std.proofs.lemmas.Bool.{cases_lt}
use Rattle.std.proofs.lemmas.Bool.Decides.{nat_tests}
use Rattle.mca_fixed.specs.declared.decimals.Frac.{Frac}
use Rattle.cycle_rules.specs.Totals.{is_less, greater, greatest, AreFractions, IsOneOf}

-- a is no more than b
abbrev AtMost : Frac → Frac → Type 0
AtMost a b = a.num * b.den ≤ b.num * a.den

no_less : (a b : Frac) → AtMost b a → is_less a b ≡ false
no_less a b le = grind (arith, nat_tests, le)

less_or_not : (a b : Frac) (t : Bool) → is_less a b ≡ t → AtMost (if t then a else b) (if t then b else a)
less_or_not a b true e = grind (arith, nat_tests, e)
less_or_not a b false e = grind (arith, nat_tests, e)

-- by way of a third
through : (a b c : Frac) → 0 < b.den → AtMost a b → AtMost b c → AtMost a c
through a b c some low high =
    let first : a.num * b.den * c.den ≤ b.num * a.den * c.den = mul-le-mul_right c.den low in
    let second : b.num * c.den * a.den ≤ c.num * b.den * a.den = mul-le-mul_right a.den high in
    let one : a.num * c.den * b.den ≡ a.num * b.den * c.den = omega arith in
    let two : b.num * a.den * c.den ≡ b.num * c.den * a.den = omega arith in
    let three : c.num * b.den * a.den ≡ c.num * a.den * b.den = omega arith in
    let all : a.num * c.den * b.den ≤ c.num * a.den * b.den = omega (arith, first, second, one, two, three) in
    le_of_mul-le-mul_right all some

left_most : (a b : Frac) → AtMost a (greater a b)
left_most a b = go (is_less a b) refl
  where
    go : (t : Bool) → is_less a b ≡ t → AtMost a (if t then b else a)
    go true e = less_or_not a b true e
    go false e = omega arith

right_most : (a b : Frac) → AtMost b (greater a b)
right_most a b = go (is_less a b) refl
  where
    go : (t : Bool) → is_less a b ≡ t → AtMost b (if t then b else a)
    go true e = omega arith
    go false e = less_or_not a b false e

some_den : (a b : Frac) → 1 ≤ a.den → 1 ≤ b.den → 1 ≤ (greater a b).den
some_den a b one two = go (is_less a b)
  where
    go : (t : Bool) → 1 ≤ (if t then b else a).den
    go true = two
    go false = one

greatest_den : (first : Frac) (n : ℕ) (f : ℕ → Frac) → AreFractions first n f → 1 ≤ (greatest first n f).den
unfolding greatest
greatest_den first zero f are = are.start
greatest_den first (suc n) f are = some_den _ _ (greatest_den first n f (record { start = are.start; each = λ k lt. are.each k (omega (arith, lt)) })) (are.each n (omega arith))

first_low : (first : Frac) (n : ℕ) (f : ℕ → Frac) → AreFractions first n f → AtMost first (greatest first n f)
unfolding greatest
first_low first zero f are = omega arith
first_low first (suc n) f are =
    let less : AreFractions first n f = record { start = are.start; each = λ k lt. are.each k (omega (arith, lt)) } in
    through first (greatest first n f) _ (greatest_den first n f less) (first_low first n f less) (left_most (greatest first n f) (f n))

each_low : (first : Frac) (n : ℕ) (f : ℕ → Frac) → AreFractions first n f → (k : ℕ) → k < n → AtMost (f k) (greatest first n f)
unfolding greatest
each_low first zero f are k lt = absurd (omega (arith, lt))
each_low first (suc n) f are k lt =
    let less : AreFractions first n f = record { start = are.start; each = λ i low. are.each i (omega (arith, low)) } in
    elim (cases_lt k n) [
      | inl low ↦ through (f k) (greatest first n f) _ (greatest_den first n f less) (each_low first n f less k low) (left_most (greatest first n f) (f n))
      | inr last ↦ (let e : k ≡ n = omega (arith, last, lt) in subst (λ i. AtMost (f i) (greater (greatest first n f) (f n))) (sym e) (right_most (greatest first n f) (f n)))
    ]

pub first_not_above : (first : Frac) (n : ℕ) (f : ℕ → Frac) → AreFractions first n f → is_less (greatest first n f) first ≡ false
first_not_above first n f are = no_less (greatest first n f) first (first_low first n f are)

pub none_above : (first : Frac) (n : ℕ) (f : ℕ → Frac) → AreFractions first n f → (k : ℕ) → k < n → is_less (greatest first n f) (f k) ≡ false
none_above first n f are k lt = no_less (greatest first n f) (f k) (each_low first n f are k lt)

pub is_one : (first : Frac) (n : ℕ) (f : ℕ → Frac) → IsOneOf first n f (greatest first n f)
unfolding greatest
is_one first zero f = inl refl
is_one first (suc n) f = go (is_less (greatest first n f) (f n)) (is_one first n f)
  where
    go : (t : Bool) → IsOneOf first n f (greatest first n f) → IsOneOf first (suc n) f (if t then f n else greatest first n f)
    go true rest = inr (n, omega arith, refl)
    go false (inl e) = inl e
    go false (inr (k, lt, e)) = inr (k, omega (arith, lt), e)
