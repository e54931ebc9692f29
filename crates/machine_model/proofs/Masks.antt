-- The words that are the units of a machine's resources.
use Rattle.std.proofs.Common.{◌≡◌, ℕ, ◌-◌, ◌*◌, ◌%◌, ◌^◌, ◌<◌, ◌&&◌, subst, sym, ◌∙◌, ap, arith, nat_eq, nat_lt, inl, inr, false}
use Rattle.std.proofs.lemmas.Bool.Decides.{nat_tests}
use Rattle.std.proofs.lemmas.Bool.{cases_lt, cases_eq, ne_eqb, eq-eqb, lt-ltb, le-ltb}
use Rattle.std.proofs.Math.Nat.{mod-eq_of_lt}
use Rattle.std.proofs.Math.Pow.{pow-lt}
use Rattle.std.proofs.lemmas.Nat.Bits.{bit_at-pow_same, bit_at-pow_other, bit_at_ones, bit_at_ones_above}
use Rattle.std.specs.Int.{bit_at}
use Rattle.unit_sets.specs.Members.{in_word, in_word-bounded}

-- 1 << k is 2 ^ k
pub one_bit : (k : ℕ) → k < 64 → 1 * 2 ^ k % 2 ^ 64 ≡ 2 ^ k
one_bit k h =
    let fits : 2 ^ k < 2 ^ 64 = pow-lt h in
    let alone : 1 * 2 ^ k ≡ 2 ^ k = omega arith in
    ap (λ n. n % 2 ^ 64) alone ∙ mod-eq_of_lt fits

in_word-low : (w v : ℕ) → v < 64 → in_word w v ≡ nat_eq (bit_at w v) 1
unfolding in_word
in_word-low w v h = ap (λ b. b && nat_eq (bit_at w v) 1) (lt-ltb v 64 h)

-- the word of one unit
one_below : (k u : ℕ) → k < 64 → u < 64 → in_word (1 * 2 ^ k % 2 ^ 64) u ≡ nat_eq u k
one_below k u h lt = in_word-low _ u lt ∙ ap (λ w. nat_eq (bit_at w u) 1) (one_bit k h) ∙ (elim (cases_eq u k) [
  | inl e ↦ (let bit : bit_at (2 ^ k) u ≡ 1 = subst (λ v. bit_at (2 ^ k) v ≡ 1) (sym e) (bit_at-pow_same k) in ap (λ b. nat_eq b 1) bit ∙ sym (eq-eqb u k e))
  | inr ne ↦ ap (λ b. nat_eq b 1) (bit_at-pow_other k u ne) ∙ sym (ne_eqb u k ne)
])

-- the word of the first units
first_below : (k u : ℕ) → k < 64 → u < 64 → in_word (1 * 2 ^ k % 2 ^ 64 - 1) u ≡ nat_lt u k
first_below k u h lt = in_word-low _ u lt ∙ ap (λ w. nat_eq (bit_at (w - 1) u) 1) (one_bit k h) ∙ (elim (cases_lt u k) [
  | inl low ↦ ap (λ b. nat_eq b 1) (bit_at_ones k u low) ∙ sym (lt-ltb u k low)
  | inr high ↦ ap (λ b. nat_eq b 1) (bit_at_ones_above k u high) ∙ sym (le-ltb u k high)
])

-- and no number past the word is in
pub one_in_word : (k u : ℕ) → k < 64 → in_word (1 * 2 ^ k % 2 ^ 64) u ≡ nat_eq u k
one_in_word k u h = elim (cases_lt u 64) [
  | inl low ↦ one_below k u h low
  | inr high ↦ (let other : nat_eq u k ≡ false = grind (arith, nat_tests, high, h) in in_word-bounded (1 * 2 ^ k % 2 ^ 64) u high ∙ sym other)
]

pub first_in_word : (k u : ℕ) → k < 64 → in_word (1 * 2 ^ k % 2 ^ 64 - 1) u ≡ nat_lt u k
first_in_word k u h = elim (cases_lt u 64) [
  | inl low ↦ first_below k u h low
  | inr high ↦ (let other : nat_lt u k ≡ false = grind (arith, nat_tests, high, h) in in_word-bounded (1 * 2 ^ k % 2 ^ 64 - 1) u high ∙ sym other)
]
