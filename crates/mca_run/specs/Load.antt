-- The program that a number gives: 512 instructions, each by the next number of a linear congruential generator.
use Rattle.std.specs.Prelude.{zero, suc, ℕ, ◌+◌, ◌*◌, ◌/◌, ◌%◌, ◌^◌, pos, nat_lt, List, [], ◌∷◌, if◌then◌else◌}
use Rattle.rv_isa.specs.declared.instr.Imm.TheVariants as imm
use Rattle.rv_isa.specs.declared.instr.Instr.{Instr}
use Rattle.rv_isa.specs.declared.op.Op.{Op}
use Rattle.rv_isa.specs.declared.op.Op.TheVariants as op

-- the number after this one
abbrev pub next_number : ℕ → ℕ
next_number x = (x * 1664525 + 1013904223) % 2 ^ 32

-- one of the registers x10 to x17
abbrev pub register : ℕ → ℕ
register n = 10 + n % 8

-- an instruction of three registers
abbrev pub of_three : Op → ℕ → ℕ → ℕ → Instr
of_three o rd rs1 rs2 = record { op = o; rd = rd; rs1 = rs1; rs2 = rs2; imm = imm.None }

-- the instruction that a number chooses among 16
abbrev pub chosen : ℕ → ℕ → ℕ → ℕ → Instr
chosen n rd rs1 rs2 = if nat_lt n 6 then of_three op.Add rd rs1 rs2
    else if nat_lt n 9 then record { op = op.Addi; rd = rd; rs1 = rs1; rs2 = 0; imm = imm.Value (pos 1) }
    else if nat_lt n 11 then of_three op.Mul rd rs1 rs2
    else if nat_lt n 12 then of_three op.Div rd rs1 rs2
    else if nat_lt n 14 then record { op = op.Ld; rd = rd; rs1 = rs1; rs2 = 0; imm = imm.Value (pos 0) }
    else if nat_lt n 15 then record { op = op.Sd; rd = 0; rs1 = rs1; rs2 = rs2; imm = imm.Value (pos 0) }
    else of_three op.Xor rd rs1 rs2

-- the instruction by the upper half of a number
abbrev pub instruction_by : ℕ → Instr
instruction_by h = chosen (h % 16) (register (h / 16)) (register (h / 128)) (register (h / 1024))

abbrev pub instruction_of : ℕ → Instr
instruction_of x = instruction_by (x / 65536)

-- so many instructions, by the numbers after this one
abbrev pub generated_from : ℕ → ℕ → List Instr
generated_from zero x = []
generated_from (suc n) x = instruction_of (next_number x) ∷ generated_from n (next_number x)

-- the program
unfoldable pub generated : ℕ → List Instr
generated seed = generated_from 512 seed
