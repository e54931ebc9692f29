-- lines that are too long, as a line count and a byte count find them
use Rattle.std.specs.Prelude.{ℕ, ◌+◌, List, [], ◌∷◌, length, nat_eq, nat_lt, Option, Some, None, if◌then◌else◌}
use Rattle.rv_asm.specs.declared.fault.Fault.{Fault}
use Rattle.rv_asm.specs.declared.fault.Cause.TheVariants as cause
use Rattle.rv_asm.specs.Operands.{with_front}

abbrev pub lines_of : List ℕ → List (List ℕ)
lines_of [] = [] ∷ []
lines_of (b ∷ bs) = if nat_eq b 10 then [] ∷ lines_of bs else with_front (b ∷ []) (lines_of bs)

-- a line has at most 4,096 bytes, a carriage return counted, the line feed not
abbrev pub long_in : ℕ → List (List ℕ) → List Fault
long_in n [] = []
long_in n (l ∷ ls) = if nat_lt 4096 (length l) then record { line = n; cause = cause.LongLine } ∷ long_in (n + 1) ls else long_in (n + 1) ls

abbrev pub long_at : ℕ → ℕ → Option Fault
long_at n count = if nat_lt 4096 count then Some (record { line = n; cause = cause.LongLine }) else None

-- the first of them, where so many bytes of line n stand before the text
abbrev pub long_from : ℕ → ℕ → List ℕ → Option Fault
long_from n count [] = long_at n count
long_from n count (b ∷ bs) = if nat_eq b 10 then (if nat_lt 4096 count then Some (record { line = n; cause = cause.LongLine }) else long_from (n + 1) 0 bs) else long_from n (count + 1) bs
