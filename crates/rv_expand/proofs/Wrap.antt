-- what is left of a number in the bits of a width
use Rattle.std.proofs.Common.{◌≡◌, ℕ, ◌%◌, ◌^◌, ◌<◌, ℤ, pos, ◌*ℤ◌, sym, ap, refl, ◌∙◌, arith}
use Rattle.std.specs.Int.{int_wrap, int_shl, cast_signed, cast_unsigned, w64}
use Rattle.std.specs.Prelude.{FitsSigned}
use Rattle.std.proofs.lemmas.Int.{ints, to_z-of_z, wrapping_mul-bits, int_wrap-mul_right}
use Rattle.std.proofs.lemmas.Nat.{pow_below}

int_wrap-pos : (n : ℕ) → int_wrap w64 (pos n) ≡ cast_signed w64 (n % 2 ^ 64)
unfolding int_wrap
int_wrap-pos n = refl

-- a shift to the left multiplies by a power of two
pub int_shl_is : (x : ℤ) (k : ℕ) → FitsSigned w64 x → k < 64 → int_shl w64 x k ≡ int_wrap w64 (x *ℤ pos (2 ^ k))
int_shl_is x k fits below =
    let p : cast_unsigned w64 x < 2 ^ 64 = omega (arith, ints) in
    let q : 2 ^ k < 2 ^ 64 = pow_below k 64 below in
    let same : 2 ^ k % 2 ^ 64 ≡ 2 ^ k = omega arith in
    wrapping_mul-bits w64 (cast_unsigned w64 x) (2 ^ k) p q
    ∙ ap (λ y. int_wrap w64 (y *ℤ cast_signed w64 (2 ^ k))) (to_z-of_z w64 x fits)
    ∙ ap (λ y. int_wrap w64 (x *ℤ cast_signed w64 y)) (sym same)
    ∙ ap (λ y. int_wrap w64 (x *ℤ y)) (sym (int_wrap-pos (2 ^ k)))
    ∙ int_wrap-mul_right w64 x (pos (2 ^ k))
