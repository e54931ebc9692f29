-- How many of the numbers below a number pass.
use Rattle.std.proofs.Common.{◌≡◌, ℕ, ◌+◌, ◌*◌, ◌/◌, ◌%◌, ◌^◌, ◌<◌, ◌≤◌, zero, suc, Bool, refl, sym, ◌∙◌, ap, nat_eq, arith, count_ones, if◌then◌else◌}
use Rattle.std.proofs.lemmas.Nat.{mod-pow-add, ones_cat, ones-le, pow_pos}
use Rattle.std.proofs.lemmas.Nat.Bits.{bit_at-lt}
use Rattle.std.specs.Int.{bit_at}
use lib.Count.{ones_step}
use Rattle.unit_sets.specs.Below.{count_below}
use Rattle.unit_sets.specs.Members.{in_word}
use Rattle.unit_sets.proofs.Words.{in_word-below}

pub count-zero : (p : ℕ → Bool) → 0 ≡ count_below 0 p
unfolding count_below
count-zero p = refl

pub count-le : (n : ℕ) (p : ℕ → Bool) → count_below n p ≤ n
unfolding count_below
count-le zero p = omega arith
count-le (suc n) p = let rest : count_below n p ≤ n = count-le n p in grind (arith, rest)

pub count-same : (n : ℕ) (p q : ℕ → Bool) → ((v : ℕ) → v < n → p v ≡ q v) → count_below n p ≡ count_below n q
unfolding count_below
count-same zero p q h = refl
count-same (suc n) p q h =
    let rest : count_below n p ≡ count_below n q = count-same n p q (λ v lt. h v (omega arith)) in
    let last : p n ≡ q n = h n (omega arith) in
    cc

pub count-add : (m n : ℕ) (p : ℕ → Bool) → count_below (m + n) p ≡ count_below m p + count_below n (λ v. p (m + v))
unfolding count_below
count-add m zero p = let e : m + 0 ≡ m = omega arith in rw e (omega arith)
count-add m (suc n) p =
    let e : m + suc n ≡ suc (m + n) = omega arith in
    let rest : count_below (m + n) p ≡ count_below m p + count_below n (λ v. p (m + v)) = count-add m n p in
    rw e (omega arith)

ones_of_bit : (b : ℕ) → b < 2 → count_ones b ≡ b
ones_of_bit b h = omega (arith, ones_step b, ones-le 0 (b / 2) (omega arith))

bit_as_test : (b : ℕ) → b < 2 → b ≡ (if nat_eq b 1 then 1 else 0)
bit_as_test zero h = refl
bit_as_test (suc zero) h = refl
bit_as_test (suc (suc b)) h = absurd (omega arith)

-- the ones of the low k bits
ones_low : (n k : ℕ) → count_ones (n % 2 ^ k) ≡ count_below k (λ v. nat_eq (bit_at n v) 1)
unfolding count_below
ones_low n zero = omega (arith, ones-le 0 (n % 1) (omega arith))
ones_low n (suc k) =
    let e : suc k ≡ 1 + k = omega arith in
    let parts : n % 2 ^ suc k ≡ bit_at n k * 2 ^ k + n % 2 ^ k = ap (λ j. n % 2 ^ j) e ∙ mod-pow-add n 1 k in
    let low : n % 2 ^ k < 2 ^ k = omega (arith, pow_pos k) in
    ap count_ones parts ∙ ones_cat k (bit_at n k) (n % 2 ^ k) low ∙ omega (arith, ones_low n k, ones_of_bit (bit_at n k) (bit_at-lt n k), bit_as_test (bit_at n k) (bit_at-lt n k))

pub ones-count : (w : ℕ) → w < 2 ^ 64 → count_ones w ≡ count_below 64 (in_word w)
ones-count w h =
    let low : w ≡ w % 2 ^ 64 = omega arith in
    ap count_ones low ∙ ones_low w 64 ∙ count-same 64 (λ v. nat_eq (bit_at w v) 1) (in_word w) (λ v lt. sym (in_word-below w v lt))
