-- numbers in assembly: an optional sign, and digits of base 16, 2, 8 or 10
use Rattle.std.specs.Prelude.{ℕ, ℤ, pos, neg_ℤ, ◌+◌, ◌-◌, ◌*◌, ◌^◌, min, List, [], ◌∷◌, drop, nat_le, nat_lt, Bool, ◌&&◌, ◌||◌, Option, Some, None, if◌then◌else◌}
use Rattle.std.specs.Option.{option_map}
use Rattle.rv_asm.specs.Statement.{is_digit, begins_with}
use Rattle.rv_asm.specs.Pieces.{begins}

-- the value of a digit, 16 where the byte is none
abbrev pub digit_of : ℕ → ℕ
digit_of b = if is_digit b then b - 48 else if nat_le 97 b && nat_le b 102 then b - 87 else if nat_le 65 b && nat_le b 70 then b - 55 else 16

-- the number that digits make behind a value; one beyond 64 bits counts as 2 ^ 64, which no form takes
abbrev pub value_from : ℕ → ℕ → List ℕ → Option ℕ
value_from base value [] = Some value
value_from base value (b ∷ bs) = if nat_lt (digit_of b) base then value_from base (min (base * value + digit_of b) (2 ^ 64)) bs else None

-- one digit or more
abbrev pub digits_at : ℕ → List ℕ → Option ℕ
digits_at base [] = None
digits_at base (b ∷ bs) = value_from base 0 (b ∷ bs)

abbrev pub is_hexadecimal : List ℕ → Bool
is_hexadecimal text = begins 48 120 text || begins 48 88 text

abbrev pub is_binary : List ℕ → Bool
is_binary text = begins 48 98 text || begins 48 66 text

abbrev pub size_at : List ℕ → Option ℕ
size_at text =
    if is_hexadecimal text then digits_at 16 (drop 2 text) else
    if is_binary text then digits_at 2 (drop 2 text) else
    if begins_with 48 text then digits_at 8 text else digits_at 10 text

abbrev pub number_at : List ℕ → Option ℤ
number_at text =
    if begins_with 45 text then option_map (λ n. neg_ℤ (pos n)) (size_at (drop 1 text)) else
    if begins_with 43 text then option_map pos (size_at (drop 1 text)) else option_map pos (size_at text)
