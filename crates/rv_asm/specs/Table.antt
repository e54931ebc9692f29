-- the table of all forms: the opcodes, and the aliases and pseudo-instructions that stand for them
use Rattle.std.specs.Prelude.{ℕ, List, [], ◌∷◌, codes}
use Rattle.rv_isa.specs.declared.op.Op.TheVariants as op
use Rattle.rv_expand.specs.declared.pseudo.PseudoKind.TheVariants as pseudo
use Rattle.rv_asm.specs.declared.form.Makes.{Makes}
use Rattle.rv_asm.specs.declared.form.Makes.TheVariants.{One, Several}
use Rattle.rv_asm.specs.declared.operand.Shape.{Shape}
use Rattle.rv_asm.specs.declared.operand.Shape.TheVariants.{Branch, Jump, Offset, Pred, Rd, Rs1, Rs2, Shift32, Shift64, Signed12, Succ, Symbol, ThreadAdd, Upper, Wide}
use Rattle.rv_asm.specs.Forms.{Row}

abbrev pub row : List ℕ → List Shape → Makes → Row
row mnemonic shapes makes = record { mnemonic = mnemonic; shapes = shapes; makes = makes }

-- where a mnemonic has several forms, no operands fit two of them
abbrev pub forms : List Row
forms =
    row (codes "lui") (Rd ∷ Upper ∷ []) (One op.Lui) ∷
    row (codes "auipc") (Rd ∷ Upper ∷ []) (One op.Auipc) ∷
    row (codes "addi") (Rd ∷ Rs1 ∷ Signed12 ∷ []) (One op.Addi) ∷
    row (codes "slti") (Rd ∷ Rs1 ∷ Signed12 ∷ []) (One op.Slti) ∷
    row (codes "sltiu") (Rd ∷ Rs1 ∷ Signed12 ∷ []) (One op.Sltiu) ∷
    row (codes "xori") (Rd ∷ Rs1 ∷ Signed12 ∷ []) (One op.Xori) ∷
    row (codes "ori") (Rd ∷ Rs1 ∷ Signed12 ∷ []) (One op.Ori) ∷
    row (codes "andi") (Rd ∷ Rs1 ∷ Signed12 ∷ []) (One op.Andi) ∷
    row (codes "addiw") (Rd ∷ Rs1 ∷ Signed12 ∷ []) (One op.Addiw) ∷
    row (codes "slli") (Rd ∷ Rs1 ∷ Shift64 ∷ []) (One op.Slli) ∷
    row (codes "srli") (Rd ∷ Rs1 ∷ Shift64 ∷ []) (One op.Srli) ∷
    row (codes "srai") (Rd ∷ Rs1 ∷ Shift64 ∷ []) (One op.Srai) ∷
    row (codes "slliw") (Rd ∷ Rs1 ∷ Shift32 ∷ []) (One op.Slliw) ∷
    row (codes "srliw") (Rd ∷ Rs1 ∷ Shift32 ∷ []) (One op.Srliw) ∷
    row (codes "sraiw") (Rd ∷ Rs1 ∷ Shift32 ∷ []) (One op.Sraiw) ∷
    row (codes "add") (Rd ∷ Rs1 ∷ Rs2 ∷ []) (One op.Add) ∷
    row (codes "sub") (Rd ∷ Rs1 ∷ Rs2 ∷ []) (One op.Sub) ∷
    row (codes "slt") (Rd ∷ Rs1 ∷ Rs2 ∷ []) (One op.Slt) ∷
    row (codes "sltu") (Rd ∷ Rs1 ∷ Rs2 ∷ []) (One op.Sltu) ∷
    row (codes "xor") (Rd ∷ Rs1 ∷ Rs2 ∷ []) (One op.Xor) ∷
    row (codes "or") (Rd ∷ Rs1 ∷ Rs2 ∷ []) (One op.Or) ∷
    row (codes "and") (Rd ∷ Rs1 ∷ Rs2 ∷ []) (One op.And) ∷
    row (codes "sll") (Rd ∷ Rs1 ∷ Rs2 ∷ []) (One op.Sll) ∷
    row (codes "srl") (Rd ∷ Rs1 ∷ Rs2 ∷ []) (One op.Srl) ∷
    row (codes "sra") (Rd ∷ Rs1 ∷ Rs2 ∷ []) (One op.Sra) ∷
    row (codes "addw") (Rd ∷ Rs1 ∷ Rs2 ∷ []) (One op.Addw) ∷
    row (codes "subw") (Rd ∷ Rs1 ∷ Rs2 ∷ []) (One op.Subw) ∷
    row (codes "sllw") (Rd ∷ Rs1 ∷ Rs2 ∷ []) (One op.Sllw) ∷
    row (codes "srlw") (Rd ∷ Rs1 ∷ Rs2 ∷ []) (One op.Srlw) ∷
    row (codes "sraw") (Rd ∷ Rs1 ∷ Rs2 ∷ []) (One op.Sraw) ∷
    row (codes "mul") (Rd ∷ Rs1 ∷ Rs2 ∷ []) (One op.Mul) ∷
    row (codes "mulh") (Rd ∷ Rs1 ∷ Rs2 ∷ []) (One op.Mulh) ∷
    row (codes "mulhsu") (Rd ∷ Rs1 ∷ Rs2 ∷ []) (One op.Mulhsu) ∷
    row (codes "mulhu") (Rd ∷ Rs1 ∷ Rs2 ∷ []) (One op.Mulhu) ∷
    row (codes "mulw") (Rd ∷ Rs1 ∷ Rs2 ∷ []) (One op.Mulw) ∷
    row (codes "div") (Rd ∷ Rs1 ∷ Rs2 ∷ []) (One op.Div) ∷
    row (codes "divu") (Rd ∷ Rs1 ∷ Rs2 ∷ []) (One op.Divu) ∷
    row (codes "rem") (Rd ∷ Rs1 ∷ Rs2 ∷ []) (One op.Rem) ∷
    row (codes "remu") (Rd ∷ Rs1 ∷ Rs2 ∷ []) (One op.Remu) ∷
    row (codes "divw") (Rd ∷ Rs1 ∷ Rs2 ∷ []) (One op.Divw) ∷
    row (codes "divuw") (Rd ∷ Rs1 ∷ Rs2 ∷ []) (One op.Divuw) ∷
    row (codes "remw") (Rd ∷ Rs1 ∷ Rs2 ∷ []) (One op.Remw) ∷
    row (codes "remuw") (Rd ∷ Rs1 ∷ Rs2 ∷ []) (One op.Remuw) ∷
    row (codes "jal") (Rd ∷ Jump ∷ []) (One op.Jal) ∷
    row (codes "jalr") (Rd ∷ Offset ∷ []) (One op.Jalr) ∷
    row (codes "beq") (Rs1 ∷ Rs2 ∷ Branch ∷ []) (One op.Beq) ∷
    row (codes "bne") (Rs1 ∷ Rs2 ∷ Branch ∷ []) (One op.Bne) ∷
    row (codes "blt") (Rs1 ∷ Rs2 ∷ Branch ∷ []) (One op.Blt) ∷
    row (codes "bge") (Rs1 ∷ Rs2 ∷ Branch ∷ []) (One op.Bge) ∷
    row (codes "bltu") (Rs1 ∷ Rs2 ∷ Branch ∷ []) (One op.Bltu) ∷
    row (codes "bgeu") (Rs1 ∷ Rs2 ∷ Branch ∷ []) (One op.Bgeu) ∷
    row (codes "lb") (Rd ∷ Offset ∷ []) (One op.Lb) ∷
    row (codes "lbu") (Rd ∷ Offset ∷ []) (One op.Lbu) ∷
    row (codes "lh") (Rd ∷ Offset ∷ []) (One op.Lh) ∷
    row (codes "lhu") (Rd ∷ Offset ∷ []) (One op.Lhu) ∷
    row (codes "lw") (Rd ∷ Offset ∷ []) (One op.Lw) ∷
    row (codes "lwu") (Rd ∷ Offset ∷ []) (One op.Lwu) ∷
    row (codes "ld") (Rd ∷ Offset ∷ []) (One op.Ld) ∷
    row (codes "sb") (Rs2 ∷ Offset ∷ []) (One op.Sb) ∷
    row (codes "sh") (Rs2 ∷ Offset ∷ []) (One op.Sh) ∷
    row (codes "sw") (Rs2 ∷ Offset ∷ []) (One op.Sw) ∷
    row (codes "sd") (Rs2 ∷ Offset ∷ []) (One op.Sd) ∷
    row (codes "fence") (Pred ∷ Succ ∷ []) (One op.Fence) ∷
    row (codes "fence.tso") [] (One op.FenceTso) ∷
    row (codes "ecall") [] (One op.Ecall) ∷
    row (codes "ebreak") [] (One op.Ebreak) ∷
    row (codes "nop") [] (Several pseudo.Nop) ∷
    row (codes "li") (Rd ∷ Wide ∷ []) (Several pseudo.Li) ∷
    row (codes "mv") (Rd ∷ Rs1 ∷ []) (Several pseudo.Mv) ∷
    row (codes "not") (Rd ∷ Rs1 ∷ []) (Several pseudo.Not) ∷
    row (codes "neg") (Rd ∷ Rs1 ∷ []) (Several pseudo.Neg) ∷
    row (codes "negw") (Rd ∷ Rs1 ∷ []) (Several pseudo.Negw) ∷
    row (codes "sext.w") (Rd ∷ Rs1 ∷ []) (Several pseudo.SextW) ∷
    row (codes "zext.b") (Rd ∷ Rs1 ∷ []) (Several pseudo.ZextB) ∷
    row (codes "seqz") (Rd ∷ Rs1 ∷ []) (Several pseudo.Seqz) ∷
    row (codes "snez") (Rd ∷ Rs1 ∷ []) (Several pseudo.Snez) ∷
    row (codes "sltz") (Rd ∷ Rs1 ∷ []) (Several pseudo.Sltz) ∷
    row (codes "sgtz") (Rd ∷ Rs1 ∷ []) (Several pseudo.Sgtz) ∷
    row (codes "sgt") (Rd ∷ Rs1 ∷ Rs2 ∷ []) (Several pseudo.Sgt) ∷
    row (codes "sgtu") (Rd ∷ Rs1 ∷ Rs2 ∷ []) (Several pseudo.Sgtu) ∷
    row (codes "beqz") (Rs1 ∷ Branch ∷ []) (Several pseudo.Beqz) ∷
    row (codes "bnez") (Rs1 ∷ Branch ∷ []) (Several pseudo.Bnez) ∷
    row (codes "blez") (Rs1 ∷ Branch ∷ []) (Several pseudo.Blez) ∷
    row (codes "bgez") (Rs1 ∷ Branch ∷ []) (Several pseudo.Bgez) ∷
    row (codes "bltz") (Rs1 ∷ Branch ∷ []) (Several pseudo.Bltz) ∷
    row (codes "bgtz") (Rs1 ∷ Branch ∷ []) (Several pseudo.Bgtz) ∷
    row (codes "bgt") (Rs1 ∷ Rs2 ∷ Branch ∷ []) (Several pseudo.Bgt) ∷
    row (codes "ble") (Rs1 ∷ Rs2 ∷ Branch ∷ []) (Several pseudo.Ble) ∷
    row (codes "bgtu") (Rs1 ∷ Rs2 ∷ Branch ∷ []) (Several pseudo.Bgtu) ∷
    row (codes "bleu") (Rs1 ∷ Rs2 ∷ Branch ∷ []) (Several pseudo.Bleu) ∷
    row (codes "j") (Jump ∷ []) (Several pseudo.J) ∷
    row (codes "jal") (Jump ∷ []) (Several pseudo.Jal) ∷
    row (codes "jr") (Rs1 ∷ []) (Several pseudo.Jr) ∷
    row (codes "jr") (Offset ∷ []) (Several pseudo.JrOff) ∷
    row (codes "jalr") (Rs1 ∷ []) (Several pseudo.Jalr) ∷
    row (codes "jalr") (Rd ∷ Rs1 ∷ []) (Several pseudo.JalrTo) ∷
    row (codes "jalr") (Rd ∷ Rs1 ∷ Signed12 ∷ []) (Several pseudo.JalrOff) ∷
    row (codes "ret") [] (Several pseudo.Ret) ∷
    row (codes "call") (Symbol ∷ []) (Several pseudo.Call) ∷
    row (codes "tail") (Symbol ∷ []) (Several pseudo.Tail) ∷
    row (codes "la") (Rd ∷ Symbol ∷ []) (Several pseudo.La) ∷
    row (codes "lla") (Rd ∷ Symbol ∷ []) (Several pseudo.Lla) ∷
    row (codes "fence") [] (Several pseudo.Fence) ∷
    row (codes "add") (Rd ∷ Rs1 ∷ Signed12 ∷ []) (Several pseudo.AddImm) ∷
    row (codes "and") (Rd ∷ Rs1 ∷ Signed12 ∷ []) (Several pseudo.AndImm) ∷
    row (codes "or") (Rd ∷ Rs1 ∷ Signed12 ∷ []) (Several pseudo.OrImm) ∷
    row (codes "xor") (Rd ∷ Rs1 ∷ Signed12 ∷ []) (Several pseudo.XorImm) ∷
    row (codes "slt") (Rd ∷ Rs1 ∷ Signed12 ∷ []) (Several pseudo.SltImm) ∷
    row (codes "sltu") (Rd ∷ Rs1 ∷ Signed12 ∷ []) (Several pseudo.SltuImm) ∷
    row (codes "sll") (Rd ∷ Rs1 ∷ Shift64 ∷ []) (Several pseudo.SllImm) ∷
    row (codes "srl") (Rd ∷ Rs1 ∷ Shift64 ∷ []) (Several pseudo.SrlImm) ∷
    row (codes "sra") (Rd ∷ Rs1 ∷ Shift64 ∷ []) (Several pseudo.SraImm) ∷
    row (codes "addw") (Rd ∷ Rs1 ∷ Signed12 ∷ []) (Several pseudo.AddwImm) ∷
    row (codes "sllw") (Rd ∷ Rs1 ∷ Shift32 ∷ []) (Several pseudo.SllwImm) ∷
    row (codes "srlw") (Rd ∷ Rs1 ∷ Shift32 ∷ []) (Several pseudo.SrlwImm) ∷
    row (codes "sraw") (Rd ∷ Rs1 ∷ Shift32 ∷ []) (Several pseudo.SrawImm) ∷
    row (codes "add") (Rd ∷ Rs1 ∷ Rs2 ∷ ThreadAdd ∷ []) (Several pseudo.AddTprel) ∷
    []
