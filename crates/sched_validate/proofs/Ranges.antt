-- Numbers of a table that are in range.
use Rattle.std.proofs.Common.{◌≡◌, ℕ, ◌<◌, ◌≤◌, zero, suc, Bool, true, false, refl, arith, pos, negsuc}
use Rattle.std.specs.Prelude.{ℤ, int_le, ◌&&◌, not}
use Rattle.std.specs.Ordering.{int_eq}
use Rattle.std.proofs.lemmas.Bool.Decides.{nat_tests}
use Rattle.sched_checks.specs.Checks.{is_outside}
use Rattle.sched_checks.specs.Resources.{count_of}

pub inside : (low high n : ℤ) → is_outside low high n ≡ false → (int_le low n ≡ true) × (int_le n high ≡ true)
inside low high n h = go (int_le low n) (int_le n high) h
  where
    go : (a b : Bool) → not (a && b) ≡ false → (a ≡ true) × (b ≡ true)
    go true true h = (refl, refl)
    go true false h = absurd cc
    go false b h = absurd cc

pub low_count : (low : ℕ) (n : ℤ) → int_le (pos low) n ≡ true → low ≤ count_of n
low_count low (pos n) h = grind (arith, nat_tests, h)
low_count low (negsuc n) h = let clash : false ≡ true = h in absurd cc

pub high_count : (high : ℕ) (n : ℤ) → int_le n (pos high) ≡ true → count_of n ≤ high
high_count high (pos n) h = grind (arith, nat_tests, h)
high_count high (negsuc n) h = omega arith

pub not_zero : (n : ℤ) → int_le (pos 0) n ≡ true → int_eq n (pos 0) ≡ false → 0 < count_of n
not_zero (pos zero) h e = let clash : true ≡ false = e in absurd cc
not_zero (pos (suc n)) h e = omega arith
not_zero (negsuc n) h e = let clash : false ≡ true = h in absurd cc

pub true_from_not : (b : Bool) → not b ≡ false → b ≡ true
true_from_not true h = refl
true_from_not false h = absurd cc
