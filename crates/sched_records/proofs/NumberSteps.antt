-- Digits behind a number that is cut to a bound come to the same, cut to that bound.
use Rattle.std.proofs.Common.{◌≡◌, ℕ, ◌+◌, ◌*◌, ◌≤◌, min, List, [], ◌∷◌, refl, ap, sym, ◌∙◌, arith, nat_le, true, false, drop, length, get_or, drop-cons, add-one, ◌<◌}
use Rattle.std.proofs.Math.Nat.{mul-le-mul_left, mul-le-mul_right}
use Rattle.std.proofs.lemmas.Bool.Decides.{nat_tests}
use Rattle.sched_records.specs.Numbers.{digit_value, digits_value}

one_digit : (n base digit bound : ℕ) → 1 ≤ base → min (min n bound * base + digit) bound ≡ min (n * base + digit) bound
one_digit n base digit bound h = (elim (nat_le n bound) as (λ v. nat_le n bound ≡ v → min (min n bound * base + digit) bound ≡ min (n * base + digit) bound) [
  | true ↦ λ e. let low : n ≤ bound = grind (arith, nat_tests) in let same : min n bound ≡ n = omega arith in rw same refl
  | false ↦ λ e. let high : bound ≤ n = grind (arith, nat_tests) in
      let same : min n bound ≡ bound = omega arith in
      rw same (omega (arith, mul-le-mul_right base high, mul-le-mul_left bound h))
]) refl

pub cut_digits : (digits : List ℕ) (base n bound : ℕ) → 1 ≤ base →
    min (digits_value base (min n bound) digits) bound ≡ min (digits_value base n digits) bound
cut_digits [] base n bound h = omega arith
cut_digits (b ∷ bs) base n bound h =
    sym (cut_digits bs base (min n bound * base + digit_value b) bound h)
    ∙ (ap (λ m. min (digits_value base m bs) bound) (one_digit n base (digit_value b) bound h)
    ∙ cut_digits bs base (n * base + digit_value b) bound h)

-- one more digit, in a loop
pub next_digit : (digits : List ℕ) (i base n next digit bound : ℕ) → 1 ≤ base → i < length digits → digit ≡ digit_value (get_or digits i 0) → next ≡ min (n * base + digit) bound →
    min (digits_value base next (drop (i + 1) digits)) bound ≡ min (digits_value base n (drop i digits)) bound
next_digit digits i base n next digit bound h lt digit-is next-is =
    rw (next-is, digit-is, drop-cons digits i 0, ← add-one i) (cut_digits (drop (i + 1) digits) base (n * base + digit_value (get_or digits i 0)) bound h)
