-- A fraction in decimal, with a fixed number of decimals.
use Rattle.std.specs.Prelude.{zero, suc, ℕ, ◌+◌, ◌*◌, ◌/◌, ◌%◌, ◌^◌, List, [], ◌∷◌, ◌++◌, codes}
use Rattle.std.specs.Fmt.{decimal}

-- num / den in units of the last of so many decimals, rounded half up
abbrev pub rounded : ℕ → ℕ → ℕ → ℕ
rounded num den places = (2 * (num * 10 ^ places) + den) / (2 * den)

-- the last digits of n, so many
abbrev pub last_digits : ℕ → ℕ → List ℕ
last_digits zero n = []
last_digits (suc places) n = last_digits places (n / 10) ++ (48 + n % 10) ∷ []

-- a number of units of the last decimal, with its point
abbrev pub with_point : ℕ → ℕ → List ℕ
with_point places n = decimal (n / 10 ^ places) ++ codes "." ++ last_digits places n

-- num / den with so many decimals, rounded half up
abbrev pub fixed : ℕ → ℕ → ℕ → List ℕ
fixed num den places = with_point places (rounded num den places)
