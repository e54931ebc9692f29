-- the list for a constant, step by step
use Rattle.std.proofs.Common.{◌≡◌, ℕ, zero, suc, ◌-◌, ℤ, true, false, ◌++◌, refl, arith}
use Rattle.rv_expand.specs.Constant.{is_word, low_bits, quotient_of, shifted, word}

pub shifted_never : (n rd : ℕ) (v : ℤ) → n ≡ 0 → shifted n rd v ≡ word rd v
shifted_never zero rd v h = refl
shifted_never (suc n) rd v h = absurd (omega arith)

pub shifted_no_more : (n rd : ℕ) (v : ℤ) → is_word v ≡ true → shifted n rd v ≡ word rd v
shifted_no_more zero rd v h = refl
shifted_no_more (suc n) rd v h = rw h

pub shifted_more : (n rd : ℕ) (v : ℤ) → (n ≡ 0 → ⊥) → is_word v ≡ false → shifted n rd v ≡ shifted (n - 1) rd (quotient_of v) ++ low_bits rd v
shifted_more zero rd v h w = absurd (h refl)
shifted_more (suc n) rd v h w = let same : suc n - 1 ≡ n = omega arith in rw (w, same)
