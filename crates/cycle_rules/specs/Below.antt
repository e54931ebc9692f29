-- Sums, counts and searches over the numbers below a number, and the least number that passes a test.
unfoldable pub use Rattle.unit_sets.specs.Below.{count_below, first_from}
use Rattle.std.specs.Prelude.{zero, suc, ◌≡◌, ℕ, ◌+◌, ◌<◌, Bool, true, false, ◌&&◌, Option, Some, None, if◌then◌else◌}

unfoldable pub sum_below : ℕ → (ℕ → ℕ) → ℕ
sum_below zero f = 0
sum_below (suc n) f = sum_below n f + f n

unfoldable pub all_below : ℕ → (ℕ → Bool) → Bool
all_below zero p = true
all_below (suc n) p = all_below n p && p n

-- the greatest number below n that passes
unfoldable pub last_below : ℕ → (ℕ → Bool) → Option ℕ
last_below zero p = None
last_below (suc n) p = if p n then Some n else last_below n p

-- c is the least number that passes
pub record Least (p : ℕ → Bool) (c : ℕ) : Type 0 where
  pub holds : p c ≡ true
  pub below : (b : ℕ) → b < c → p b ≡ false
