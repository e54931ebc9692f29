-- an instruction: its operands, the registers that it reads and writes, and when it is lawful
use Rattle.std.specs.Prelude.{ℕ, ℤ, pos, int_le, int_rem, nat_lt, is_some, List, [], ◌∷◌, Bool, true, false, ◌&&◌, ◌||◌, not, Option, Some, None, if◌then◌else◌}
use Rattle.std.specs.Ordering.{int_eq}
use Rattle.rv_isa.specs.declared.op.Op.{Op}
use Rattle.rv_isa.specs.declared.facts.Form.{Form}
use Rattle.rv_isa.specs.declared.facts.Form.TheVariants.{RdImm, RdRs1Imm, RdRs1Rs2, RdOffset, Rs2Offset, Rs1Rs2Imm, Sets, Nothing}
use Rattle.rv_isa.specs.declared.facts.ImmRange.{ImmRange}
use Rattle.rv_isa.specs.declared.instr.Imm.{Imm}
use Rattle.rv_isa.specs.declared.instr.Imm.TheVariants as imm
use Rattle.rv_isa.specs.declared.instr.Instr.{Instr}
use Rattle.rv_isa.specs.Opcodes.{facts_of}

abbrev pub has_rd : Form → Bool
has_rd RdImm = true
has_rd RdRs1Imm = true
has_rd RdRs1Rs2 = true
has_rd RdOffset = true
has_rd _ = false

abbrev pub has_rs1 : Form → Bool
has_rs1 RdImm = false
has_rs1 Sets = false
has_rs1 Nothing = false
has_rs1 _ = true

abbrev pub has_rs2 : Form → Bool
has_rs2 RdRs1Rs2 = true
has_rs2 Rs2Offset = true
has_rs2 Rs1Rs2Imm = true
has_rs2 _ = false

-- whether a symbol may stand for the immediate
abbrev pub takes_symbol : Form → Bool
takes_symbol RdRs1Rs2 = false
takes_symbol Sets = false
takes_symbol Nothing = false
takes_symbol _ = true

-- the register that is written, and those that are read, rs1 first; x0 stands for none
abbrev pub writes_of : Instr → ℕ
writes_of i = if has_rd (facts_of i.op).form then i.rd else 0

abbrev pub reads_of : Instr → List ℕ
reads_of i = (if has_rs1 (facts_of i.op).form then i.rs1 else 0) ∷ (if has_rs2 (facts_of i.op).form then i.rs2 else 0) ∷ []

-- the number stands in the range, and is even where the range asks for it
abbrev pub is_within : ImmRange → ℤ → Bool
is_within b n = int_le b.low n && int_le n b.high && (not b.even || int_eq (int_rem n (pos 2)) (pos 0))

abbrev pub is_lawful_number : Option ImmRange → ℤ → Bool
is_lawful_number None n = false
is_lawful_number (Some b) n = is_within b n

abbrev pub is_lawful_imm : Op → Imm → Bool
is_lawful_imm o imm.None = not (is_some (facts_of o).range)
is_lawful_imm o (imm.Value n) = is_lawful_number (facts_of o).range n
is_lawful_imm o (imm.Symbol k) = takes_symbol (facts_of o).form

-- a register that there is is one of the 32, and one that there is not is x0
abbrev pub is_lawful_register : Bool → ℕ → Bool
is_lawful_register there r = nat_lt r (if there then 32 else 1)

abbrev pub is_lawful_with : Form → Instr → Bool
is_lawful_with f i = is_lawful_register (has_rd f) i.rd && is_lawful_register (has_rs1 f) i.rs1 && is_lawful_register (has_rs2 f) i.rs2

-- an instruction that can be written down: no operand that its opcode lacks, and none that it cannot take
abbrev pub is_lawful : Instr → Bool
is_lawful i = is_lawful_with (facts_of i.op).form i && is_lawful_imm i.op i.imm
