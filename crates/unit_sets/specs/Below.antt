-- Counts and searches over the numbers below a number, by a test.
use Rattle.std.specs.Prelude.{zero, suc, ℕ, ◌+◌, ◌-◌, Bool, Option, Some, None, if◌then◌else◌}

-- how many of the numbers below n pass
unfoldable pub count_below : ℕ → (ℕ → Bool) → ℕ
count_below zero p = 0
count_below (suc n) p = count_below n p + (if p n then 1 else 0)

-- the least that passes of the n numbers from a on
unfoldable pub first_from : ℕ → ℕ → (ℕ → Bool) → Option ℕ
first_from a zero p = None
first_from a (suc n) p = if p a then Some a else first_from (a + 1) n p

abbrev pub or_else : Option ℕ → Option ℕ → Option ℕ
or_else (Some u) other = Some u
or_else None other = other

-- the first of the numbers below n with p, from a place on and cyclically
unfoldable pub cyclic_from : ℕ → ℕ → (ℕ → Bool) → Option ℕ
cyclic_from n a p = or_else (first_from a (n - a) p) (first_from 0 n p)
