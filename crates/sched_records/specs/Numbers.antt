-- What the bytes of a number stand for.
use Rattle.std.specs.Prelude.{ℕ, pos, ◌-ℤ◌, ◌+◌, ◌-◌, ◌*◌, ◌^◌, List, drop, fold, nat_eq, nat_le, nat_lt, Bool, true, false, codes, if◌then◌else◌}
use Rattle.std.specs.List.{starts_with}
use Rattle.sched_records.specs.Pieces.{is_digit, sign_len}
use Rattle.sched_records.specs.declared.number.Literal.{Literal}

abbrev pub digit_value : ℕ → ℕ
digit_value b = if is_digit b then b - 48 else if nat_le 97 b then b - 87 else b - 55

-- digits behind a number n
abbrev pub digits_value : ℕ → ℕ → List ℕ → ℕ
digits_value base n digits = fold (λ m b. m * base + digit_value b) n digits

abbrev pub unsigned_value : List ℕ → ℕ
unsigned_value digits =
    if starts_with nat_eq digits (codes "0x") then digits_value 16 0 (drop 2 digits) else
    if starts_with nat_eq digits (codes "0b") then digits_value 2 0 (drop 2 digits) else
    digits_value 10 0 digits

-- the number of a sign and a size, the nearest one of 64 bits where it is wide, that is, beyond them
abbrev pub signed : Bool → ℕ → Literal
signed true size = if nat_le size (2 ^ 63) then record { value = pos 0 -ℤ pos size; wide = false } else record { value = pos 0 -ℤ pos (2 ^ 63); wide = true }
signed false size = if nat_lt size (2 ^ 63) then record { value = pos size; wide = false } else record { value = pos (2 ^ 63 - 1); wide = true }

abbrev pub literal_of : List ℕ → Literal
literal_of bytes = signed (starts_with nat_eq bytes (codes "-")) (unsigned_value (drop (sign_len bytes) bytes))
