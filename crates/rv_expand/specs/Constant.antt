-- the instructions that load a constant of 64 bits
use Rattle.std.specs.Prelude.{ℕ, zero, suc, ℤ, pos, negsuc, int_le, ◌-ℤ◌, ◌^◌, Bool, ◌&&◌, List, [], ◌∷◌, ◌++◌, if◌then◌else◌}
use Rattle.std.specs.Ordering.{int_eq}
use Rattle.std.specs.Int.{int_wrap, int_rem_euclid, int_div_euclid, trailing_zeros, cast_unsigned, w64}
use Rattle.rv_isa.specs.declared.op.Op.{Op}
use Rattle.rv_isa.specs.declared.op.Op.TheVariants as op
use Rattle.rv_isa.specs.declared.instr.Instr.{Instr}
use Rattle.rv_expand.specs.Forms.{number}

-- twelve bits as a signed number
abbrev pub signed_12_bits : ℤ → ℤ
signed_12_bits n = if int_le (pos 2048) n then n -ℤ pos 4096 else n

-- the low twelve bits of a number, as a signed number
unfoldable pub low_part : ℤ → ℤ
low_part v = signed_12_bits (int_rem_euclid v (pos 4096))

-- what is left without the low part, at 64 bits
unfoldable pub rest_of : ℤ → ℤ
rest_of v = int_wrap w64 (v -ℤ low_part v)

-- the 20 bits above the low part
unfoldable pub high_part : ℤ → ℤ
high_part v = int_rem_euclid (int_div_euclid (rest_of v) (pos 4096)) (pos (2 ^ 20))

-- whether 32 bits hold the number
unfoldable pub is_word : ℤ → Bool
is_word v = int_le (negsuc 2147483647) v && int_le v (pos 2147483647)

-- how many zero bits end it, and the number without them
unfoldable pub shift_of : ℤ → ℕ
shift_of v = trailing_zeros w64 (cast_unsigned w64 (rest_of v))

unfoldable pub quotient_of : ℤ → ℤ
quotient_of v = int_div_euclid (rest_of v) (pos (2 ^ shift_of v))

-- adds the low part, where there is one
abbrev pub added : Op → ℕ → ℤ → List Instr
added o rd low = if int_eq low (pos 0) then [] else number o rd rd low ∷ []

-- a constant of 32 bits
abbrev pub word : ℕ → ℤ → List Instr
word rd v = if int_eq (high_part v) (pos 0) then number op.Addi rd 0 (low_part v) ∷ [] else number op.Lui rd 0 (high_part v) ∷ added op.Addiw rd (low_part v)

-- what brings back the bits that the quotient lacks
abbrev pub low_bits : ℕ → ℤ → List Instr
low_bits rd v = number op.Slli rd rd (pos (shift_of v)) ∷ added op.Addi rd (low_part v)

-- a constant that takes at most so many shifts
abbrev pub shifted : ℕ → ℕ → ℤ → List Instr
shifted zero rd v = word rd v
shifted (suc shifts) rd v = if is_word v then word rd v else shifted shifts rd (quotient_of v) ++ low_bits rd v

-- each shift takes away twelve bits or more: three shifts leave 28 of 64
abbrev pub constant : ℕ → ℤ → List Instr
constant rd v = shifted 3 rd v
