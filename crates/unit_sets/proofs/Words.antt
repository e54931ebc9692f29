-- What the operations on a word of 64 bits do to the numbers that are in it.
use Rattle.std.proofs.Common.{◌≡◌, ℕ, ◌-◌, ◌*◌, ◌/◌, ◌%◌, ◌^◌, ◌<◌, ◌≤◌, min, zero, suc, false, not, ◌&&◌, ◌||◌, inl, inr, refl, sym, ◌∙◌, ap, nat_eq, arith, lt-ltb, eq-eqb, bit_and, bit_or, w64}
use Rattle.std.proofs.lemmas.Bool.{cases_lt, cases_eq, ne_eqb, or_left, or_from, and_left, and_right, lt-ltb, eq-eqb}
use Rattle.std.proofs.lemmas.Nat.{and_le_l}
use Rattle.std.proofs.lemmas.Nat.Bits.{bit_at-zero, shr_and_one, bit_at_and, bit_at-lt, bit_at_not, bit_at-trailing_zeros, bit_at_set_same, bit_at_set_other, bit_at_clear_same, bit_at_clear_other, ones_shl, bit_at_mask_inside, bit_at_mask_below}
use Rattle.std.specs.Int.{bit_at, bit_not, trailing_zeros}
use Rattle.unit_sets.specs.Members.{in_word, in_word-bounded, IsNext, NoneFrom}

pub in_word-below : (w v : ℕ) → v < 64 → in_word w v ≡ nat_eq (bit_at w v) 1
unfolding in_word
in_word-below w v h = ap (λ b. b && nat_eq (bit_at w v) 1) (lt-ltb v 64 h)

pub in_word-zero : (v : ℕ) → in_word 0 v ≡ false
in_word-zero v = elim (cases_lt v 64) [
  | inl lt ↦ in_word-below 0 v lt ∙ ap (λ b. nat_eq b 1) (bit_at-zero v)
  | inr ge ↦ in_word-bounded 0 v ge
]

pub in_word-tested : (w u : ℕ) → u < 64 → nat_eq (bit_and (w / 2 ^ u) 1) 1 ≡ in_word w u
in_word-tested w u h = ap (λ b. nat_eq b 1) (shr_and_one w u) ∙ sym (in_word-below w u h)

pub in_word-set : (w u : ℕ) → u < 64 → (v : ℕ) → in_word (bit_or w (1 * 2 ^ u % 2 ^ 64)) v ≡ (nat_eq v u || in_word w v)
in_word-set w u h v = elim (cases_lt v 64) [
  | inl lt ↦ elim (cases_eq v u) [
    | inl e ↦ in_word-below _ v lt ∙ ap (λ b. nat_eq b 1) (ap (bit_at _) e ∙ bit_at_set_same w64 w u h) ∙ sym (or_left (nat_eq v u) (in_word w v) (eq-eqb v u e))
    | inr ne ↦ in_word-below _ v lt ∙ ap (λ b. nat_eq b 1) (bit_at_set_other w64 w u h v ne) ∙ sym (in_word-below w v lt) ∙ sym (ap (λ b. b || in_word w v) (ne_eqb v u ne))
  ]
  | inr ge ↦ in_word-bounded _ v ge ∙ sym (or_from (nat_eq v u) (in_word w v) (ne_eqb v u (λ e. omega arith)) (in_word-bounded w v ge))
]

pub in_word-cleared : (w u : ℕ) → u < 64 → (v : ℕ) → in_word (bit_and w (2 ^ 64 - 1 - 1 * 2 ^ u % 2 ^ 64)) v ≡ (not (nat_eq v u) && in_word w v)
in_word-cleared w u h v = elim (cases_lt v 64) [
  | inl lt ↦ elim (cases_eq v u) [
    | inl e ↦ in_word-below _ v lt ∙ ap (λ b. nat_eq b 1) (ap (bit_at _) e ∙ bit_at_clear_same w64 w u h) ∙ sym (ap (λ b. not b && in_word w v) (eq-eqb v u e))
    | inr ne ↦ in_word-below _ v lt ∙ ap (λ b. nat_eq b 1) (bit_at_clear_other w64 w u h v lt ne) ∙ sym (in_word-below w v lt) ∙ sym (ap (λ b. not b && in_word w v) (ne_eqb v u ne))
  ]
  | inr ge ↦ in_word-bounded _ v ge ∙ sym (and_right (not (nat_eq v u)) (in_word w v) (in_word-bounded w v ge))
]

-- one bit and no other
and_not_bits : (a b : ℕ) → a < 2 → b < 2 → nat_eq (min a (1 - b)) 1 ≡ (nat_eq a 1 && not (nat_eq b 1))
and_not_bits zero zero p q = refl
and_not_bits zero (suc zero) p q = refl
and_not_bits (suc zero) zero p q = refl
and_not_bits (suc zero) (suc zero) p q = refl
and_not_bits a (suc (suc b)) p q = absurd (omega arith)
and_not_bits (suc (suc a)) b p q = absurd (omega arith)

pub in_word-difference : (w o : ℕ) → o < 2 ^ 64 → (v : ℕ) → in_word (bit_and w (2 ^ 64 - 1 - o)) v ≡ (in_word w v && not (in_word o v))
in_word-difference w o fits v = elim (cases_lt v 64) [
  | inl lt ↦
      in_word-below _ v lt ∙ ap (λ b. nat_eq b 1) (bit_at_and w (bit_not w64 o) v ∙ ap (min (bit_at w v)) (bit_at_not w64 o v fits lt))
      ∙ and_not_bits (bit_at w v) (bit_at o v) (bit_at-lt w v) (bit_at-lt o v)
      ∙ sym (ap (λ b. b && not (in_word o v)) (in_word-below w v lt) ∙ ap (λ b. nat_eq (bit_at w v) 1 && not b) (in_word-below o v lt))
  | inr ge ↦ in_word-bounded _ v ge ∙ sym (and_left (in_word w v) (not (in_word o v)) (in_word-bounded w v ge))
]

-- the numbers of a word from a place on, as the code masks them
abbrev pub high_part : ℕ → ℕ → ℕ
high_part w pos = bit_and w ((2 ^ 64 - 1) * 2 ^ pos % 2 ^ 64)

high-above : (w pos v : ℕ) → pos < 64 → pos ≤ v → v < 64 → bit_at (high_part w pos) v ≡ bit_at w v
high-above w pos v h from lt =
    let mask : (2 ^ 64 - 1) * 2 ^ pos % 2 ^ 64 ≡ 2 ^ 64 - 2 ^ pos = ones_shl 64 pos (omega arith) in
    let bit = ap (λ m. bit_at (bit_and w m) v) mask ∙ bit_at_and w (2 ^ 64 - 2 ^ pos) v in
    bit ∙ omega (arith, bit_at_mask_inside pos 64 v from lt, bit_at-lt w v)

high-below : (w pos v : ℕ) → pos < 64 → v < pos → bit_at (high_part w pos) v ≡ 0
high-below w pos v h lt =
    let mask : (2 ^ 64 - 1) * 2 ^ pos % 2 ^ 64 ≡ 2 ^ 64 - 2 ^ pos = ones_shl 64 pos (omega arith) in
    let bit = ap (λ m. bit_at (bit_and w m) v) mask ∙ bit_at_and w (2 ^ 64 - 2 ^ pos) v in
    bit ∙ omega (arith, bit_at_mask_below pos 64 v lt)

-- a bit that is 0 in the high part
not_in : (w pos v : ℕ) → pos < 64 → pos ≤ v → v < 64 → bit_at (high_part w pos) v ≡ 0 → in_word w v ≡ false
not_in w pos v h from lt e = in_word-below w v lt ∙ ap (λ b. nat_eq b 1) (sym (high-above w pos v h from lt) ∙ e)

pub none_in_word : (w pos : ℕ) → pos < 64 → high_part w pos ≡ 0 → NoneFrom 64 (in_word w) pos
none_in_word w pos h e v from lt = not_in w pos v h from lt (ap (λ m. bit_at m v) e ∙ bit_at-zero v)

pub next_in_word : (w pos : ℕ) → w < 2 ^ 64 → pos < 64 → 0 < high_part w pos → IsNext 64 (in_word w) pos (trailing_zeros w64 (high_part w pos))
next_in_word w pos fits h some =
    let le : high_part w pos ≤ w = and_le_l w ((2 ^ 64 - 1) * 2 ^ pos % 2 ^ 64) in
    let least = bit_at-trailing_zeros w64 (high_part w pos) some (omega arith) in
    let from : pos ≤ trailing_zeros w64 (high_part w pos) =
    elim (cases_lt (trailing_zeros w64 (high_part w pos)) pos) [
      | inl lt ↦ absurd (omega (arith, high-below w pos (trailing_zeros w64 (high_part w pos)) h lt, least.1))
      | inr ge ↦ ge
    ] in
    record {
      from = from;
      within = least.0;
      member = in_word-below w _ least.0 ∙ ap (λ b. nat_eq b 1) (sym (high-above w pos _ h from least.0) ∙ least.1);
      none = λ v lo lt. not_in w pos v h lo (omega (arith, least.0)) (least.2 v lt);
    }
