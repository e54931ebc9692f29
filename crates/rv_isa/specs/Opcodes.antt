-- the table of the opcodes: what each is called, which operands it has, and what it does
use Rattle.std.specs.Prelude.{ℕ, pos, neg_ℤ, List, [], ◌∷◌, codes, Bool, true, false, Option, Some, None, nat_eq, find, if◌then◌else◌}
use Rattle.std.specs.Cmp.Lexicographic.{pointwise}
use Rattle.std.specs.List.{position_or_len}
use Rattle.rv_isa.specs.declared.op.Op.{Op}
use Rattle.rv_isa.specs.declared.op.Op.TheVariants as op
use Rattle.rv_isa.specs.declared.facts.Form.{Form}
use Rattle.rv_isa.specs.declared.facts.Form.TheVariants as form
use Rattle.rv_isa.specs.declared.facts.Kind.{Kind}
use Rattle.rv_isa.specs.declared.facts.Kind.TheVariants as kind
use Rattle.rv_isa.specs.declared.facts.ImmRange.{ImmRange}
use Rattle.rv_isa.specs.declared.facts.ClassNames.{ClassNames}
use Rattle.rv_isa.specs.declared.table.Row.{Row}

-- a row of the table; the classes are the default ones, empty for a read that there is not
pub record Facts : Type 0 where
  pub mnemonic : List ℕ
  pub form : Form
  pub range : Option ImmRange
  pub kind : Kind
  pub write : List ℕ
  pub read1 : List ℕ
  pub read2 : List ℕ
  pub side_effects : Bool

abbrev pub row : List ℕ → Form → Option ImmRange → Kind → List ℕ → List ℕ → List ℕ → Bool → Facts
row m f b k w r s e = record { mnemonic = m; form = f; range = b; kind = k; write = w; read1 = r; read2 = s; side_effects = e }

-- the ranges of the immediates
abbrev pub upper : ImmRange
upper = record { low = pos 0; high = pos 1048575; even = false }

abbrev pub signed_12 : ImmRange
signed_12 = record { low = neg_ℤ (pos 2048); high = pos 2047; even = false }

abbrev pub shift_64 : ImmRange
shift_64 = record { low = pos 0; high = pos 63; even = false }

abbrev pub shift_32 : ImmRange
shift_32 = record { low = pos 0; high = pos 31; even = false }

abbrev pub jump : ImmRange
jump = record { low = neg_ℤ (pos 1048576); high = pos 1048574; even = true }

abbrev pub branch : ImmRange
branch = record { low = neg_ℤ (pos 4096); high = pos 4094; even = true }

abbrev pub sets : ImmRange
sets = record { low = pos 0; high = pos 255; even = false }

abbrev pub facts_of : Op → Facts
facts_of op.Lui = row (codes "lui") form.RdImm (Some upper) kind.Plain (codes "WriteIALU") [] [] false
facts_of op.Auipc = row (codes "auipc") form.RdImm (Some upper) kind.Plain (codes "WriteIALU") [] [] false
facts_of op.Addi = row (codes "addi") form.RdRs1Imm (Some signed_12) kind.Plain (codes "WriteIALU") (codes "ReadIALU") [] false
facts_of op.Slti = row (codes "slti") form.RdRs1Imm (Some signed_12) kind.Plain (codes "WriteIALU") (codes "ReadIALU") [] false
facts_of op.Sltiu = row (codes "sltiu") form.RdRs1Imm (Some signed_12) kind.Plain (codes "WriteIALU") (codes "ReadIALU") [] false
facts_of op.Xori = row (codes "xori") form.RdRs1Imm (Some signed_12) kind.Plain (codes "WriteIALU") (codes "ReadIALU") [] false
facts_of op.Ori = row (codes "ori") form.RdRs1Imm (Some signed_12) kind.Plain (codes "WriteIALU") (codes "ReadIALU") [] false
facts_of op.Andi = row (codes "andi") form.RdRs1Imm (Some signed_12) kind.Plain (codes "WriteIALU") (codes "ReadIALU") [] false
facts_of op.Slli = row (codes "slli") form.RdRs1Imm (Some shift_64) kind.Plain (codes "WriteShiftImm") (codes "ReadShiftImm") [] false
facts_of op.Srli = row (codes "srli") form.RdRs1Imm (Some shift_64) kind.Plain (codes "WriteShiftImm") (codes "ReadShiftImm") [] false
facts_of op.Srai = row (codes "srai") form.RdRs1Imm (Some shift_64) kind.Plain (codes "WriteShiftImm") (codes "ReadShiftImm") [] false
facts_of op.Add = row (codes "add") form.RdRs1Rs2 None kind.Plain (codes "WriteIALU") (codes "ReadIALU") (codes "ReadIALU") false
facts_of op.Sub = row (codes "sub") form.RdRs1Rs2 None kind.Plain (codes "WriteIALU") (codes "ReadIALU") (codes "ReadIALU") false
facts_of op.Slt = row (codes "slt") form.RdRs1Rs2 None kind.Plain (codes "WriteIALU") (codes "ReadIALU") (codes "ReadIALU") false
facts_of op.Sltu = row (codes "sltu") form.RdRs1Rs2 None kind.Plain (codes "WriteIALU") (codes "ReadIALU") (codes "ReadIALU") false
facts_of op.Xor = row (codes "xor") form.RdRs1Rs2 None kind.Plain (codes "WriteIALU") (codes "ReadIALU") (codes "ReadIALU") false
facts_of op.Or = row (codes "or") form.RdRs1Rs2 None kind.Plain (codes "WriteIALU") (codes "ReadIALU") (codes "ReadIALU") false
facts_of op.And = row (codes "and") form.RdRs1Rs2 None kind.Plain (codes "WriteIALU") (codes "ReadIALU") (codes "ReadIALU") false
facts_of op.Sll = row (codes "sll") form.RdRs1Rs2 None kind.Plain (codes "WriteShiftReg") (codes "ReadShiftReg") (codes "ReadShiftReg") false
facts_of op.Srl = row (codes "srl") form.RdRs1Rs2 None kind.Plain (codes "WriteShiftReg") (codes "ReadShiftReg") (codes "ReadShiftReg") false
facts_of op.Sra = row (codes "sra") form.RdRs1Rs2 None kind.Plain (codes "WriteShiftReg") (codes "ReadShiftReg") (codes "ReadShiftReg") false
facts_of op.Jal = row (codes "jal") form.RdImm (Some jump) kind.Plain (codes "WriteJal") [] [] false
facts_of op.Jalr = row (codes "jalr") form.RdOffset (Some signed_12) kind.Plain (codes "WriteJalr") (codes "ReadJalr") [] false
facts_of op.Beq = row (codes "beq") form.Rs1Rs2Imm (Some branch) kind.Plain (codes "WriteJmp") (codes "ReadJmp") (codes "ReadJmp") false
facts_of op.Bne = row (codes "bne") form.Rs1Rs2Imm (Some branch) kind.Plain (codes "WriteJmp") (codes "ReadJmp") (codes "ReadJmp") false
facts_of op.Blt = row (codes "blt") form.Rs1Rs2Imm (Some branch) kind.Plain (codes "WriteJmp") (codes "ReadJmp") (codes "ReadJmp") false
facts_of op.Bge = row (codes "bge") form.Rs1Rs2Imm (Some branch) kind.Plain (codes "WriteJmp") (codes "ReadJmp") (codes "ReadJmp") false
facts_of op.Bltu = row (codes "bltu") form.Rs1Rs2Imm (Some branch) kind.Plain (codes "WriteJmp") (codes "ReadJmp") (codes "ReadJmp") false
facts_of op.Bgeu = row (codes "bgeu") form.Rs1Rs2Imm (Some branch) kind.Plain (codes "WriteJmp") (codes "ReadJmp") (codes "ReadJmp") false
facts_of op.Lb = row (codes "lb") form.RdOffset (Some signed_12) kind.Load (codes "WriteLDB") (codes "ReadMemBase") [] false
facts_of op.Lbu = row (codes "lbu") form.RdOffset (Some signed_12) kind.Load (codes "WriteLDB") (codes "ReadMemBase") [] false
facts_of op.Lh = row (codes "lh") form.RdOffset (Some signed_12) kind.Load (codes "WriteLDH") (codes "ReadMemBase") [] false
facts_of op.Lhu = row (codes "lhu") form.RdOffset (Some signed_12) kind.Load (codes "WriteLDH") (codes "ReadMemBase") [] false
facts_of op.Lw = row (codes "lw") form.RdOffset (Some signed_12) kind.Load (codes "WriteLDW") (codes "ReadMemBase") [] false
facts_of op.Sb = row (codes "sb") form.Rs2Offset (Some signed_12) kind.Store (codes "WriteSTB") (codes "ReadMemBase") (codes "ReadStoreData") false
facts_of op.Sh = row (codes "sh") form.Rs2Offset (Some signed_12) kind.Store (codes "WriteSTH") (codes "ReadMemBase") (codes "ReadStoreData") false
facts_of op.Sw = row (codes "sw") form.Rs2Offset (Some signed_12) kind.Store (codes "WriteSTW") (codes "ReadMemBase") (codes "ReadStoreData") false
facts_of op.Fence = row (codes "fence") form.Sets (Some sets) kind.Barrier (codes "WriteJmp") [] [] true
facts_of op.FenceTso = row (codes "fence.tso") form.Nothing None kind.Barrier (codes "WriteJmp") [] [] true
facts_of op.Ecall = row (codes "ecall") form.Nothing None kind.Plain (codes "WriteJmp") [] [] true
facts_of op.Ebreak = row (codes "ebreak") form.Nothing None kind.Plain (codes "WriteJmp") [] [] true
facts_of op.Addiw = row (codes "addiw") form.RdRs1Imm (Some signed_12) kind.Plain (codes "WriteIALU32") (codes "ReadIALU32") [] false
facts_of op.Slliw = row (codes "slliw") form.RdRs1Imm (Some shift_32) kind.Plain (codes "WriteShiftImm32") (codes "ReadShiftImm32") [] false
facts_of op.Srliw = row (codes "srliw") form.RdRs1Imm (Some shift_32) kind.Plain (codes "WriteShiftImm32") (codes "ReadShiftImm32") [] false
facts_of op.Sraiw = row (codes "sraiw") form.RdRs1Imm (Some shift_32) kind.Plain (codes "WriteShiftImm32") (codes "ReadShiftImm32") [] false
facts_of op.Addw = row (codes "addw") form.RdRs1Rs2 None kind.Plain (codes "WriteIALU32") (codes "ReadIALU32") (codes "ReadIALU32") false
facts_of op.Subw = row (codes "subw") form.RdRs1Rs2 None kind.Plain (codes "WriteIALU32") (codes "ReadIALU32") (codes "ReadIALU32") false
facts_of op.Sllw = row (codes "sllw") form.RdRs1Rs2 None kind.Plain (codes "WriteShiftReg32") (codes "ReadShiftReg32") (codes "ReadShiftReg32") false
facts_of op.Srlw = row (codes "srlw") form.RdRs1Rs2 None kind.Plain (codes "WriteShiftReg32") (codes "ReadShiftReg32") (codes "ReadShiftReg32") false
facts_of op.Sraw = row (codes "sraw") form.RdRs1Rs2 None kind.Plain (codes "WriteShiftReg32") (codes "ReadShiftReg32") (codes "ReadShiftReg32") false
facts_of op.Lwu = row (codes "lwu") form.RdOffset (Some signed_12) kind.Load (codes "WriteLDW") (codes "ReadMemBase") [] false
facts_of op.Ld = row (codes "ld") form.RdOffset (Some signed_12) kind.Load (codes "WriteLDD") (codes "ReadMemBase") [] false
facts_of op.Sd = row (codes "sd") form.Rs2Offset (Some signed_12) kind.Store (codes "WriteSTD") (codes "ReadMemBase") (codes "ReadStoreData") false
facts_of op.Mul = row (codes "mul") form.RdRs1Rs2 None kind.Plain (codes "WriteIMul") (codes "ReadIMul") (codes "ReadIMul") false
facts_of op.Mulh = row (codes "mulh") form.RdRs1Rs2 None kind.Plain (codes "WriteIMul") (codes "ReadIMul") (codes "ReadIMul") false
facts_of op.Mulhsu = row (codes "mulhsu") form.RdRs1Rs2 None kind.Plain (codes "WriteIMul") (codes "ReadIMul") (codes "ReadIMul") false
facts_of op.Mulhu = row (codes "mulhu") form.RdRs1Rs2 None kind.Plain (codes "WriteIMul") (codes "ReadIMul") (codes "ReadIMul") false
facts_of op.Mulw = row (codes "mulw") form.RdRs1Rs2 None kind.Plain (codes "WriteIMul32") (codes "ReadIMul32") (codes "ReadIMul32") false
facts_of op.Div = row (codes "div") form.RdRs1Rs2 None kind.Plain (codes "WriteIDiv") (codes "ReadIDiv") (codes "ReadIDiv") false
facts_of op.Divu = row (codes "divu") form.RdRs1Rs2 None kind.Plain (codes "WriteIDiv") (codes "ReadIDiv") (codes "ReadIDiv") false
facts_of op.Rem = row (codes "rem") form.RdRs1Rs2 None kind.Plain (codes "WriteIDiv") (codes "ReadIDiv") (codes "ReadIDiv") false
facts_of op.Remu = row (codes "remu") form.RdRs1Rs2 None kind.Plain (codes "WriteIDiv") (codes "ReadIDiv") (codes "ReadIDiv") false
facts_of op.Divw = row (codes "divw") form.RdRs1Rs2 None kind.Plain (codes "WriteIDiv32") (codes "ReadIDiv32") (codes "ReadIDiv32") false
facts_of op.Divuw = row (codes "divuw") form.RdRs1Rs2 None kind.Plain (codes "WriteIDiv32") (codes "ReadIDiv32") (codes "ReadIDiv32") false
facts_of op.Remw = row (codes "remw") form.RdRs1Rs2 None kind.Plain (codes "WriteIDiv32") (codes "ReadIDiv32") (codes "ReadIDiv32") false
facts_of op.Remuw = row (codes "remuw") form.RdRs1Rs2 None kind.Plain (codes "WriteIDiv32") (codes "ReadIDiv32") (codes "ReadIDiv32") false

-- the opcodes, in the order of the manual's chapters
abbrev pub opcodes : List Op
opcodes =
    op.Lui ∷ op.Auipc ∷ op.Addi ∷ op.Slti ∷ op.Sltiu ∷ op.Xori ∷ op.Ori ∷ op.Andi ∷ op.Slli ∷ op.Srli ∷ op.Srai ∷
    op.Add ∷ op.Sub ∷ op.Slt ∷ op.Sltu ∷ op.Xor ∷ op.Or ∷ op.And ∷ op.Sll ∷ op.Srl ∷ op.Sra ∷ op.Jal ∷ op.Jalr ∷
    op.Beq ∷ op.Bne ∷ op.Blt ∷ op.Bge ∷ op.Bltu ∷ op.Bgeu ∷ op.Lb ∷ op.Lbu ∷ op.Lh ∷ op.Lhu ∷ op.Lw ∷ op.Sb ∷ op.Sh ∷
    op.Sw ∷ op.Fence ∷ op.FenceTso ∷ op.Ecall ∷ op.Ebreak ∷ op.Addiw ∷ op.Slliw ∷ op.Srliw ∷ op.Sraiw ∷ op.Addw ∷
    op.Subw ∷ op.Sllw ∷ op.Srlw ∷ op.Sraw ∷ op.Lwu ∷ op.Ld ∷ op.Sd ∷ op.Mul ∷ op.Mulh ∷ op.Mulhsu ∷ op.Mulhu ∷
    op.Mulw ∷ op.Div ∷ op.Divu ∷ op.Rem ∷ op.Remu ∷ op.Divw ∷ op.Divuw ∷ op.Remw ∷ op.Remuw ∷ []

-- the number of an opcode: its place in that list
abbrev pub same_op : Op → Op → Bool
same_op a b = pointwise nat_eq (facts_of a).mnemonic (facts_of b).mnemonic

abbrev pub op_number : Op → ℕ
op_number o = position_or_len (same_op o) opcodes

-- what a row of the code's table says
abbrev pub facts_in : Row → Facts
facts_in r = row r.mnemonic.now r.form r.range r.kind r.write.now r.read1.now r.read2.now r.side_effects

-- the opcode with that mnemonic
abbrev pub op_named : List ℕ → Option Op
op_named text = find (λ o. pointwise nat_eq text (facts_of o).mnemonic) opcodes

-- the opcode of the first row of a table of the code that has that mnemonic
abbrev pub op_in : List Row → List ℕ → Option Op
op_in [] text = None
op_in (r ∷ rows) text = if pointwise nat_eq text r.mnemonic.now then Some r.op else op_in rows text

-- what a kind does to memory
abbrev pub loads : Kind → Bool
loads kind.Load = true
loads _ = false

abbrev pub stores : Kind → Bool
stores kind.Store = true
stores _ = false

abbrev pub bars : Kind → Bool
bars kind.Barrier = true
bars _ = false

-- the names of an opcode's default classes: of the write, and of the reads of rs1 and rs2
pub record Classes : Type 0 where
  pub write : List ℕ
  pub read1 : List ℕ
  pub read2 : List ℕ

abbrev pub classes_of : Op → Classes
classes_of o = record { write = (facts_of o).write; read1 = (facts_of o).read1; read2 = (facts_of o).read2 }

abbrev pub classes_in : ClassNames → Classes
classes_in c = record { write = c.write.now; read1 = c.read1.now; read2 = c.read2.now }
