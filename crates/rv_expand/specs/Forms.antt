-- instructions with the operands that they have
use Rattle.std.specs.Prelude.{ℕ, ℤ}
use Rattle.rv_isa.specs.declared.op.Op.{Op}
use Rattle.rv_isa.specs.declared.instr.Imm.{Imm}
use Rattle.rv_isa.specs.declared.instr.Imm.TheVariants as imm
use Rattle.rv_isa.specs.declared.instr.Instr.{Instr}

-- rd, rs1, rs2
abbrev pub three : Op → ℕ → ℕ → ℕ → Instr
three o rd rs1 rs2 = record { op = o; rd = rd; rs1 = rs1; rs2 = rs2; imm = imm.None }

-- rd, rs1, an immediate
abbrev pub two : Op → ℕ → ℕ → Imm → Instr
two o rd rs1 n = record { op = o; rd = rd; rs1 = rs1; rs2 = 0; imm = n }

-- rd, an immediate
abbrev pub one : Op → ℕ → Imm → Instr
one o rd n = record { op = o; rd = rd; rs1 = 0; rs2 = 0; imm = n }

-- rs1, rs2, a target
abbrev pub branch : Op → ℕ → ℕ → Imm → Instr
branch o rs1 rs2 n = record { op = o; rd = 0; rs1 = rs1; rs2 = rs2; imm = n }

-- rd, rs1, a number
abbrev pub number : Op → ℕ → ℕ → ℤ → Instr
number o rd rs1 n = two o rd rs1 (imm.Value n)
