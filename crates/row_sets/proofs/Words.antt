-- What the operations on a word do to the numbers that are in it.
use Rattle.std.proofs.Common.{◌≡◌, ℕ, ◌<◌, max, zero, suc, false, ◌||◌, ◌&&◌, inl, inr, refl, sym, ◌∙◌, ap, nat_eq, arith, bit_or}
use Rattle.std.proofs.lemmas.Bool.{cases_lt, or_from, lt-ltb}
use Rattle.std.proofs.lemmas.Nat.Bits.{bit_at-zero, bit_at_or, bit_at-lt}
use Rattle.std.specs.Int.{bit_at}
use Rattle.unit_sets.specs.Members.{in_word, in_word-bounded}

in_word-below : (w v : ℕ) → v < 64 → in_word w v ≡ nat_eq (bit_at w v) 1
unfolding in_word
in_word-below w v h = ap (λ b. b && nat_eq (bit_at w v) 1) (lt-ltb v 64 h)

pub in_word-zero : (v : ℕ) → in_word 0 v ≡ false
in_word-zero v = elim (cases_lt v 64) [
  | inl lt ↦ in_word-below 0 v lt ∙ ap (λ b. nat_eq b 1) (bit_at-zero v)
  | inr ge ↦ in_word-bounded 0 v ge
]

-- either bit
or_bits : (a b : ℕ) → a < 2 → b < 2 → nat_eq (max a b) 1 ≡ (nat_eq a 1 || nat_eq b 1)
or_bits zero zero p q = refl
or_bits zero (suc zero) p q = refl
or_bits (suc zero) zero p q = refl
or_bits (suc zero) (suc zero) p q = refl
or_bits a (suc (suc b)) p q = absurd (omega arith)
or_bits (suc (suc a)) b p q = absurd (omega arith)

pub in_word-union : (a b v : ℕ) → in_word (bit_or a b) v ≡ (in_word a v || in_word b v)
in_word-union a b v = elim (cases_lt v 64) [
  | inl lt ↦
      in_word-below _ v lt ∙ ap (λ x. nat_eq x 1) (bit_at_or a b v) ∙ or_bits (bit_at a v) (bit_at b v) (bit_at-lt a v) (bit_at-lt b v)
      ∙ sym (ap (λ x. x || in_word b v) (in_word-below a v lt) ∙ ap (λ x. nat_eq (bit_at a v) 1 || x) (in_word-below b v lt))
  | inr ge ↦ in_word-bounded _ v ge ∙ sym (or_from (in_word a v) (in_word b v) (in_word-bounded a v ge) (in_word-bounded b v ge))
]
