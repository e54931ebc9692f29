-- the instructions that stand for a pseudo-instruction
use Rattle.std.specs.Prelude.{ℕ, pos, negsuc, List, [], ◌∷◌}
use Rattle.rv_isa.specs.declared.op.Op.TheVariants as op
use Rattle.rv_isa.specs.declared.instr.Imm.{Imm}
use Rattle.rv_isa.specs.declared.instr.Imm.TheVariants as imm
use Rattle.rv_isa.specs.declared.instr.Instr.{Instr}
use Rattle.rv_expand.specs.declared.pseudo.Pseudo.{Pseudo}
use Rattle.rv_expand.specs.declared.pseudo.PseudoKind.{PseudoKind}
use Rattle.rv_expand.specs.declared.pseudo.PseudoKind.TheVariants as kind
use Rattle.rv_expand.specs.Constant.{constant}
use Rattle.rv_expand.specs.Forms.{one, two, three, branch, number}

abbrev pub loaded : ℕ → Imm → List Instr
loaded rd (imm.Value v) = constant rd v
loaded rd _ = []

-- by the form, its rd, rs and rt, and its immediate; ra is x1, t1 is x6
abbrev pub expanded : PseudoKind → ℕ → ℕ → ℕ → Imm → List Instr
expanded kind.Nop rd rs rt n = number op.Addi 0 0 (pos 0) ∷ []
expanded kind.Li rd rs rt n = loaded rd n
expanded kind.Mv rd rs rt n = number op.Addi rd rs (pos 0) ∷ []
expanded kind.Not rd rs rt n = number op.Xori rd rs (negsuc 0) ∷ []
expanded kind.Neg rd rs rt n = three op.Sub rd 0 rs ∷ []
expanded kind.Negw rd rs rt n = three op.Subw rd 0 rs ∷ []
expanded kind.SextW rd rs rt n = number op.Addiw rd rs (pos 0) ∷ []
expanded kind.ZextB rd rs rt n = number op.Andi rd rs (pos 255) ∷ []
expanded kind.Seqz rd rs rt n = number op.Sltiu rd rs (pos 1) ∷ []
expanded kind.Snez rd rs rt n = three op.Sltu rd 0 rs ∷ []
expanded kind.Sltz rd rs rt n = three op.Slt rd rs 0 ∷ []
expanded kind.Sgtz rd rs rt n = three op.Slt rd 0 rs ∷ []
expanded kind.Sgt rd rs rt n = three op.Slt rd rt rs ∷ []
expanded kind.Sgtu rd rs rt n = three op.Sltu rd rt rs ∷ []
expanded kind.Beqz rd rs rt n = branch op.Beq rs 0 n ∷ []
expanded kind.Bnez rd rs rt n = branch op.Bne rs 0 n ∷ []
expanded kind.Blez rd rs rt n = branch op.Bge 0 rs n ∷ []
expanded kind.Bgez rd rs rt n = branch op.Bge rs 0 n ∷ []
expanded kind.Bltz rd rs rt n = branch op.Blt rs 0 n ∷ []
expanded kind.Bgtz rd rs rt n = branch op.Blt 0 rs n ∷ []
expanded kind.Bgt rd rs rt n = branch op.Blt rt rs n ∷ []
expanded kind.Ble rd rs rt n = branch op.Bge rt rs n ∷ []
expanded kind.Bgtu rd rs rt n = branch op.Bltu rt rs n ∷ []
expanded kind.Bleu rd rs rt n = branch op.Bgeu rt rs n ∷ []
expanded kind.J rd rs rt n = one op.Jal 0 n ∷ []
expanded kind.Jal rd rs rt n = one op.Jal 1 n ∷ []
expanded kind.Jr rd rs rt n = number op.Jalr 0 rs (pos 0) ∷ []
expanded kind.JrOff rd rs rt n = two op.Jalr 0 rs n ∷ []
expanded kind.Jalr rd rs rt n = number op.Jalr 1 rs (pos 0) ∷ []
expanded kind.JalrTo rd rs rt n = number op.Jalr rd rs (pos 0) ∷ []
expanded kind.JalrOff rd rs rt n = two op.Jalr rd rs n ∷ []
expanded kind.Ret rd rs rt n = number op.Jalr 0 1 (pos 0) ∷ []
expanded kind.Call rd rs rt n = one op.Auipc 1 n ∷ two op.Jalr 1 1 n ∷ []
expanded kind.Tail rd rs rt n = one op.Auipc 6 n ∷ two op.Jalr 0 6 n ∷ []
expanded kind.La rd rs rt n = one op.Auipc rd n ∷ two op.Addi rd rd n ∷ []
expanded kind.Lla rd rs rt n = one op.Auipc rd n ∷ two op.Addi rd rd n ∷ []
expanded kind.Fence rd rs rt n = number op.Fence 0 0 (pos 255) ∷ []
expanded kind.AddImm rd rs rt n = two op.Addi rd rs n ∷ []
expanded kind.AndImm rd rs rt n = two op.Andi rd rs n ∷ []
expanded kind.OrImm rd rs rt n = two op.Ori rd rs n ∷ []
expanded kind.XorImm rd rs rt n = two op.Xori rd rs n ∷ []
expanded kind.SltImm rd rs rt n = two op.Slti rd rs n ∷ []
expanded kind.SltuImm rd rs rt n = two op.Sltiu rd rs n ∷ []
expanded kind.SllImm rd rs rt n = two op.Slli rd rs n ∷ []
expanded kind.SrlImm rd rs rt n = two op.Srli rd rs n ∷ []
expanded kind.SraImm rd rs rt n = two op.Srai rd rs n ∷ []
expanded kind.AddwImm rd rs rt n = two op.Addiw rd rs n ∷ []
expanded kind.SllwImm rd rs rt n = two op.Slliw rd rs n ∷ []
expanded kind.SrlwImm rd rs rt n = two op.Srliw rd rs n ∷ []
expanded kind.SrawImm rd rs rt n = two op.Sraiw rd rs n ∷ []
expanded kind.AddTprel rd rs rt n = three op.Add rd rs rt ∷ []

abbrev pub expansion : Pseudo → List Instr
expansion p = expanded p.kind p.rd p.rs1 p.rs2 p.imm
