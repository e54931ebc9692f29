-- a number and its low twelve bits
use Rattle.std.proofs.Common.{cond, leb, ◌≡◌, ℕ, zero, suc, ◌+◌, ◌-◌, ◌*◌, ◌%◌, ◌^◌, ◌<◌, ◌≤◌, ℤ, pos, negsuc, ◌+ℤ◌, ◌-ℤ◌, ◌*ℤ◌, ◌≤ℤ◌, Bool, true, false, sym, ap, refl, subst, ◌∙◌, arith}
use Rattle.std.specs.Prelude.{FitsSigned, unsigned_abs}
use Rattle.std.specs.Int.{int_wrap, cast_unsigned, int_div_euclid, int_rem_euclid, w32, w64}
use Rattle.std.proofs.lemmas.Int.{fits_signed_from_abs, ints, by_lt_z, unsigned_abs-mul, int_wrap_fits, int_wrap-add_left, int_wrap-add_right, int_wrap-mul_right}
use Rattle.std.proofs.lemmas.Bool.Decides.{nat_tests}
use Rattle.std.proofs.lemmas.Nat.{pow-add, pow_pos}
use Rattle.std.proofs.Math.Nat.{mul_assoc, le-mul_of_pos_right}
use Rattle.rv_expand.proofs.Powers.{divided, ends, trailing_of_multiple}
use Rattle.rv_expand.specs.Constant.{high_part, is_word, low_part, quotient_of, rest_of, shift_of, signed_12_bits}

-- a number is so many times 4096, and a rest from 0 to 4095
pub record Divides (d : ℕ) (v : ℤ) : Type 0 where
  pub rest : ℕ
  pub low : rest < d
  pub is_rest : int_rem_euclid v (pos d) ≡ pos rest
  pub sum : int_div_euclid v (pos d) *ℤ pos d +ℤ pos rest ≡ v

pub divides_4096 : (v : ℤ) → Divides 4096 v
divides_4096 (pos a) = record { rest = a % 4096; low = omega arith; is_rest = refl; sum = omega (arith, ints) }
divides_4096 (negsuc a) = record { rest = 4095 - a % 4096; low = omega arith; is_rest = refl; sum = omega (arith, ints) }

pub divides_2_20 : (v : ℤ) → Divides 1048576 v
divides_2_20 (pos a) = record { rest = a % 1048576; low = omega arith; is_rest = refl; sum = omega (arith, ints) }
divides_2_20 (negsuc a) = record { rest = 1048575 - a % 1048576; low = omega arith; is_rest = refl; sum = omega (arith, ints) }

-- what twelve bits say as a signed number: the same, but for a carry
record Carries (rest : ℕ) (l : ℤ) : Type 0 where
  carry : ℕ
  same : l +ℤ pos (carry * 4096) ≡ pos rest
  low : negsuc 2047 ≤ℤ l
  high : l ≤ℤ pos 2047

carries : (rest : ℕ) → rest < 4096 → Carries rest (signed_12_bits (pos rest))
carries rest below = go (leb 2048 rest) refl
  where
    go : (b : Bool) → leb 2048 rest ≡ b → Carries rest (cond b (pos rest -ℤ pos 4096) (pos rest))
    go true e = let h : 2048 ≤ rest = grind (arith, nat_tests) in record { carry = 1; same = omega (arith, ints); low = omega (arith, ints); high = omega (arith, ints) }
    go false e = let h : rest < 2048 = grind (arith, nat_tests) in record { carry = 0; same = omega (arith, ints); low = omega (arith, ints); high = omega (arith, ints) }

-- a number is so many times 4096, and its low part
pub record Splits (v : ℤ) : Type 0 where
  pub times : ℤ
  pub sum : times *ℤ pos 4096 +ℤ low_part v ≡ v
  pub low : negsuc 2047 ≤ℤ low_part v
  pub high : low_part v ≤ℤ pos 2047

pub splits : (v : ℤ) → Splits v
unfolding low_part
splits v =
    let d = divides_4096 v in
    let c = carries d.rest d.low in
    let same : low_part v ≡ signed_12_bits (pos d.rest) = ap signed_12_bits d.is_rest in
    record {
      times = int_div_euclid v (pos 4096) +ℤ pos c.carry;
      sum = rw same (omega (arith, ints, c.same, d.sum));
      low = rw same c.low;
      high = rw same c.high;
    }

pub is_word_from : (v : ℤ) → negsuc 2147483647 ≤ℤ v → v ≤ℤ pos 2147483647 → is_word v ≡ true
unfolding is_word
is_word_from v low high = grind (arith, ints)

pub word_bounds : (v : ℤ) → is_word v ≡ true → (negsuc 2147483647 ≤ℤ v) × (v ≤ℤ pos 2147483647)
unfolding is_word
word_bounds v h = grind (arith, ints)

-- what is left without the low part is so many times 4096, at 64 bits
pub record Rests (v : ℤ) : Type 0 where
  pub times : ℤ
  pub is_rest : rest_of v ≡ times *ℤ pos 4096
  pub fits : FitsSigned w64 (times *ℤ pos 4096)
  pub back : int_wrap w64 (rest_of v +ℤ low_part v) ≡ v
  pub sum : is_word v ≡ true → times *ℤ pos 4096 +ℤ low_part v ≡ v
  pub small : (b : ℕ) → unsigned_abs v ≤ 4096 * b → unsigned_abs times ≤ b
  pub some : is_word v ≡ false → 0 < unsigned_abs times

small_times : (v times l : ℤ) (b : ℕ) → times *ℤ pos 4096 +ℤ l ≡ v → negsuc 2047 ≤ℤ l → l ≤ℤ pos 2047 → unsigned_abs v ≤ 4096 * b → unsigned_abs times ≤ b
small_times (pos n) (pos t) l b e low high h = omega (arith, ints)
small_times (pos n) (negsuc t) l b e low high h = omega (arith, ints)
small_times (negsuc n) (pos t) l b e low high h = omega (arith, ints)
small_times (negsuc n) (negsuc t) l b e low high h = omega (arith, ints)

back_at_64 : (v l : ℤ) → FitsSigned w64 v → int_wrap w64 (int_wrap w64 (v -ℤ l) +ℤ l) ≡ v
back_at_64 v l fits =
    let same : v -ℤ l +ℤ l ≡ v = omega (arith, ints) in
    int_wrap-add_left w64 (v -ℤ l) l ∙ ap (int_wrap w64) same ∙ int_wrap_fits w64 v fits

some_times : (v times l : ℤ) → times *ℤ pos 4096 +ℤ l ≡ v → negsuc 2047 ≤ℤ l → l ≤ℤ pos 2047 → is_word v ≡ false → 0 < unsigned_abs times
some_times v (pos zero) l e low high w =
    let word : is_word v ≡ true = is_word_from v (omega (arith, ints)) (omega (arith, ints)) in
    cc
some_times v (pos (suc t)) l e low high w = omega arith
some_times v (negsuc t) l e low high w = omega arith

int_wrap-2_63 : int_wrap w64 (pos 9223372036854775808) ≡ negsuc 2251799813685247 *ℤ pos 4096
unfolding int_wrap
int_wrap-2_63 = refl

pub rests : (v : ℤ) → FitsSigned w64 v → Rests v
unfolding rest_of
rests v fits =
    let s = splits v in
    let without : v -ℤ low_part v ≡ s.times *ℤ pos 4096 = omega (arith, ints, s.sum) in
    let low = s.low in
    let high = s.high in
    by_lt_z s.times (pos 2251799813685248)
    (λ below.
    let in_range : FitsSigned w64 (s.times *ℤ pos 4096) = omega (arith, ints, s.sum) in
    record {
      times = s.times;
      is_rest = ap (int_wrap w64) without ∙ int_wrap_fits w64 (s.times *ℤ pos 4096) in_range;
      fits = in_range;
      back = back_at_64 v (low_part v) fits;
      sum = λ w. s.sum;
      small = λ b h. small_times v s.times (low_part v) b s.sum s.low s.high h;
      some = some_times v s.times (low_part v) s.sum s.low s.high;
    })
    (λ above.
    let most : s.times ≡ pos 2251799813685248 = omega (arith, ints, s.sum) in
    record {
      times = negsuc 2251799813685247;
      is_rest = ap (int_wrap w64) (without ∙ ap (λ t. t *ℤ pos 4096) most) ∙ int_wrap-2_63;
      fits = omega (arith, ints);
      back = back_at_64 v (low_part v) fits;
      sum = λ w. absurd (omega (arith, ints, s.sum, word_bounds v w));
      small = λ b h. let small : unsigned_abs (pos 2251799813685248) ≤ b = subst (λ t. unsigned_abs t ≤ b) most (small_times v s.times (low_part v) b s.sum s.low s.high h) in small;
      some = λ w. omega arith;
    })

-- the shift and the quotient give back what is left without the low part
pub record Quotient (v : ℤ) : Type 0 where
  pub shift : shift_of v < 64
  pub back : quotient_of v *ℤ pos (2 ^ shift_of v) ≡ rest_of v
  pub small : (b : ℕ) → unsigned_abs v ≤ 4096 * b → unsigned_abs (quotient_of v) ≤ b

multiple_at_64 : (t : ℤ) → FitsSigned w64 (t *ℤ pos 4096) → (m : ℕ) × (cast_unsigned w64 (t *ℤ pos 4096) ≡ m * 2 ^ 12)
multiple_at_64 (pos t) fits = (t, refl)
multiple_at_64 (negsuc t) fits = (2 ^ 52 - suc t, omega (arith, ints))

-- a product with a greater power of two has the lesser factor
lesser_factor : (a b s : ℕ) → 12 ≤ s → a * 2 ^ s ≡ b * 4096 → a ≤ b
lesser_factor a b s h e =
    let k : s ≡ s - 12 + 12 = omega arith in
    let power : 2 ^ s ≡ 2 ^ (s - 12) * 4096 = ap (λ x. 2 ^ x) k ∙ pow-add 2 (s - 12) 12 in
    let product : a * 2 ^ (s - 12) * 4096 ≡ b * 4096 = mul_assoc a (2 ^ (s - 12)) 4096 ∙ ap (λ x. a * x) (sym power) ∙ e in
    let same : a * 2 ^ (s - 12) ≡ b = omega arith in
    omega (arith, le-mul_of_pos_right a (pow_pos (s - 12)), same)

pub quotients : (v : ℤ) → FitsSigned w64 v → is_word v ≡ false → Quotient v
unfolding shift_of quotient_of
quotients v fits long =
    let r = rests v fits in
    let in_range : FitsSigned w64 (rest_of v) = rw r.is_rest r.fits in
    let size : unsigned_abs (rest_of v) ≡ unsigned_abs r.times * 4096 = ap unsigned_abs r.is_rest ∙ unsigned_abs-mul r.times (pos 4096) in
    let some : 0 < unsigned_abs (rest_of v) = omega (arith, size, r.some long) in
    let e = ends (rest_of v) in_range some in
    let d = divided (rest_of v) (2 ^ shift_of v) e.times (pow_pos (shift_of v)) e.is_times in
    let m = multiple_at_64 r.times r.fits in
    let twelve : 12 ≤ shift_of v = trailing_of_multiple 12 64 (cast_unsigned w64 (rest_of v)) m.0 (omega arith) (ap (cast_unsigned w64) r.is_rest ∙ m.1) in
    let less : e.times ≤ unsigned_abs r.times = lesser_factor e.times (unsigned_abs r.times) (shift_of v) twelve (sym e.is_times ∙ size) in
    record { shift = e.below; back = d.back; small = λ b h. omega (arith, d.size, less, r.small b h) }

-- the 20 bits above the low part of a number of 32 bits
pub record High (v : ℤ) : Type 0 where
  pub bits : ℕ
  pub is_high : high_part v ≡ pos bits
  pub below : bits < 1048576
  pub back : int_wrap w32 (pos bits *ℤ pos 4096 +ℤ low_part v) ≡ v
  pub none : bits ≡ 0 → low_part v ≡ v

div_4096 : (t : ℤ) → int_div_euclid (t *ℤ pos 4096) (pos 4096) ≡ t
div_4096 t = omega (arith, ints, (divided (t *ℤ pos 4096) 4096 (unsigned_abs t) (omega arith) (unsigned_abs-mul t (pos 4096))).back)

-- whole turns of 32 bits change nothing
whole_turns : (z t : ℤ) → int_wrap w32 (z +ℤ t *ℤ pos 4294967296) ≡ int_wrap w32 z
unfolding int_wrap
whole_turns z t =
    let none : t *ℤ pos 0 ≡ pos 0 = omega (arith, ints) in
    let turned : int_wrap w32 (t *ℤ pos 4294967296) ≡ pos 0 = sym (int_wrap-mul_right w32 t (pos 4294967296)) ∙ ap (int_wrap w32) none in
    let plain : z +ℤ pos 0 ≡ z = omega (arith, ints) in
    sym (int_wrap-add_right w32 z (t *ℤ pos 4294967296)) ∙ ap (λ y. int_wrap w32 (z +ℤ y)) turned ∙ ap (int_wrap w32) plain

pub highs : (v : ℤ) → is_word v ≡ true → High v
unfolding high_part
highs v w =
    let bounds = word_bounds v w in
    let low_bound = bounds.0 in
    let high_bound = bounds.1 in
    let fits : FitsSigned w64 v = omega (arith, ints) in
    let fits_word : FitsSigned w32 v = omega (arith, ints) in
    let s = splits v in
    let low = s.low in
    let high = s.high in
    let r = rests v fits in
    let sum = r.sum w in
    let d = divides_2_20 r.times in
    let turns = int_div_euclid r.times (pos 1048576) in
    let is_times : int_div_euclid (rest_of v) (pos 4096) ≡ r.times = ap (λ x. int_div_euclid x (pos 4096)) r.is_rest ∙ div_4096 r.times in
    let whole : (pos d.rest *ℤ pos 4096 +ℤ low_part v) +ℤ turns *ℤ pos 4294967296 ≡ v = omega (arith, ints, sum, d.sum) in
    record {
      bits = d.rest;
      is_high = ap (λ x. int_rem_euclid x (pos 1048576)) is_times ∙ d.is_rest;
      below = d.low;
      back = sym (whole_turns (pos d.rest *ℤ pos 4096 +ℤ low_part v) turns) ∙ ap (int_wrap w32) whole ∙ int_wrap_fits w32 v fits_word;
      none = λ e. omega (arith, ints, whole, e);
    }

-- the high part is 20 bits of any number
pub record HighBits (v : ℤ) : Type 0 where
  pub bits : ℕ
  pub is_high : high_part v ≡ pos bits
  pub below : bits < 1048576

pub high_bits : (v : ℤ) → HighBits v
unfolding high_part
high_bits v =
    let d = divides_2_20 (int_div_euclid (rest_of v) (pos 4096)) in
    record { bits = d.rest; is_high = d.is_rest; below = d.low }

abs_at_64 : (v : ℤ) → FitsSigned w64 v → unsigned_abs v ≤ 4096 * 2251799813685248
abs_at_64 (pos n) fits = omega (arith, ints)
abs_at_64 (negsuc n) fits = omega (arith, ints)

pub quotient_fits : (v : ℤ) → FitsSigned w64 v → is_word v ≡ false → FitsSigned w64 (quotient_of v)
quotient_fits v fits long = fits_signed_from_abs w64 (quotient_of v) (omega (arith, (quotients v fits long).small 2251799813685248 (abs_at_64 v fits)))
