-- the power of two that divides a number, by its trailing zeros
use Rattle.std.proofs.Common.{◌≡◌, ℕ, zero, suc, ◌+◌, ◌-◌, ◌*◌, ◌/◌, ◌%◌, ◌^◌, ◌<◌, ◌≤◌, ℤ, pos, negsuc, neg_ℤ, ◌*ℤ◌, sym, ap, refl, ◌∙◌, arith}
use Rattle.std.specs.Prelude.{FitsSigned, unsigned_abs}
use Rattle.std.specs.Int.{cast_unsigned, int_div_euclid, trailing_zeros, w64}
use Rattle.std.proofs.lemmas.Int.{ints}
use Rattle.std.proofs.lemmas.Nat.{div-mul-add, pow-add}
use Rattle.std.proofs.lemmas.Nat.Bits.{bit_at-trailing_zeros}
use Rattle.std.proofs.Math.Nat.{pow-suc, mul_assoc, add-mul, mul_comm, mul-sub}
use lib.Count.{count_trailing_zeros, under}

-- n is a multiple of the power of two of its trailing zeros, as far as they were counted
pub trailing : (k n : ℕ) → (m : ℕ) × (n ≡ m * 2 ^ count_trailing_zeros k n)
unfolding count_trailing_zeros
trailing zero n = (n, omega arith)
trailing (suc k) n = go (n % 2) refl (trailing k (n / 2))
  where
    go : (d : ℕ) → n % 2 ≡ d → (m : ℕ) × (n / 2 ≡ m * 2 ^ count_trailing_zeros k (n / 2)) → (m : ℕ) × (n ≡ m * 2 ^ under d (count_trailing_zeros k (n / 2)))
    go zero e (m, h) = (m, rw (pow-suc) (omega (arith, h, e)))
    go (suc d) e h = (n, omega arith)

-- a multiple of 2 ^ j has j trailing zeros or more
pub trailing_of_multiple : (j k n m : ℕ) → j ≤ k → n ≡ m * 2 ^ j → j ≤ count_trailing_zeros k n
unfolding count_trailing_zeros
trailing_of_multiple zero k n m h e = omega arith
trailing_of_multiple (suc j) zero n m h e = absurd (omega arith)
trailing_of_multiple (suc j) (suc k) n m h e =
    let double : n ≡ m * 2 ^ j * 2 = e ∙ ap (λ p. m * p) (pow-suc 2 j) ∙ sym (mul_assoc m (2 ^ j) 2) in
    let even : n % 2 ≡ zero = omega arith in
    let half : n / 2 ≡ m * 2 ^ j = omega arith in
    rw even (let low : j ≤ count_trailing_zeros k (n / 2) = trailing_of_multiple j k (n / 2) m (omega arith) half in omega arith)

-- a number of 64 bits that is not 0: where its zeros end, and what power of two divides it
pub record Ends (r : ℤ) (s : ℕ) : Type 0 where
  pub below : s < 64
  pub times : ℕ
  pub is_times : unsigned_abs r ≡ times * 2 ^ s

pub ends : (r : ℤ) → FitsSigned w64 r → 0 < unsigned_abs r → Ends r (trailing_zeros w64 (cast_unsigned w64 r))
ends (pos a) fits some =
    let low : a < 2 ^ 64 = omega (arith, ints) in
    record { below = (bit_at-trailing_zeros w64 a some low).0; times = (trailing 64 a).0; is_times = (trailing 64 a).1 }
ends (negsuc a) fits some =
    let n = 2 ^ 64 - suc a in
    let s = trailing_zeros w64 n in
    let high : 0 < n = omega (arith, ints) in
    let low : n < 2 ^ 64 = omega (arith, ints) in
    let below : s < 64 = (bit_at-trailing_zeros w64 n high low).0 in
    let m = (trailing 64 n).0 in
    let e : n ≡ m * 2 ^ s = (trailing 64 n).1 in
    let whole : 2 ^ 64 ≡ 2 ^ (64 - s) * 2 ^ s = ap (λ k. 2 ^ k) (let k : 64 ≡ 64 - s + s = omega arith in k) ∙ pow-add 2 (64 - s) s in
    record {
      below = below;
      times = 2 ^ (64 - s) - m;
      is_times = rw (mul_comm (2 ^ (64 - s) - m) (2 ^ s), mul-sub) (omega (arith, ints, whole, e));
    }

-- an exact division
pub record Divided (z : ℤ) (d j : ℕ) : Type 0 where
  pub back : int_div_euclid z (pos d) *ℤ pos d ≡ z
  pub size : unsigned_abs (int_div_euclid z (pos d)) ≡ j

pub divided : (z : ℤ) (d j : ℕ) → 0 < d → unsigned_abs z ≡ j * d → Divided z d j
divided (pos a) d j h e =
    let same : j * d + 0 ≡ j * d = omega arith in
    let q : a / d ≡ j = ap (λ x. x / d) (e ∙ sym same) ∙ div-mul-add j d 0 h in
    record { back = rw q (ap pos (sym e)); size = q }
divided (negsuc a) d zero h e = absurd (omega arith)
divided (negsuc a) d (suc i) h e =
    let same : a ≡ i * d + (d - 1) = omega (arith, add-mul i 1 d) in
    let q : a / d ≡ i = ap (λ x. x / d) same ∙ div-mul-add i d (d - 1) (omega arith) in
    record { back = rw q (ap (λ x. neg_ℤ (pos x)) (sym e)); size = ap suc q }
