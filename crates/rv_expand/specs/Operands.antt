-- the operands that a pseudo-instruction takes
use Rattle.std.specs.Prelude.{nat_eq, Bool, true, false, ◌&&◌, ◌||◌}
use Rattle.rv_isa.specs.declared.op.Op.TheVariants as op
use Rattle.rv_isa.specs.declared.instr.Imm.{Imm}
use Rattle.rv_isa.specs.declared.instr.Imm.TheVariants as imm
use Rattle.rv_isa.specs.Instruction.{is_lawful_imm}
use Rattle.rv_expand.specs.declared.pseudo.Operand.{Operand}
use Rattle.rv_expand.specs.declared.pseudo.Operand.TheVariants.{Nothing, AnyNumber, Of, Symbol}
use Rattle.rv_expand.specs.declared.pseudo.Operands.{Operands}
use Rattle.rv_expand.specs.declared.pseudo.Pseudo.{Pseudo}
use Rattle.rv_expand.specs.declared.pseudo.PseudoKind.{PseudoKind}
use Rattle.rv_expand.specs.declared.pseudo.PseudoKind.TheVariants as kind

-- what a form asks of the immediate
abbrev pub is_that : Operand → Imm → Bool
is_that Nothing imm.None = true
is_that AnyNumber (imm.Value v) = true
is_that (Of o) n = is_lawful_imm o n
is_that Symbol (imm.Symbol k) = true
is_that _ _ = false

abbrev pub takes : Bool → Bool → Bool → Operand → Operands
takes d s t i = record { rd = d; rs = s; rt = t; imm = i }

-- the operands of each form: rd, rs, rt and the immediate
abbrev pub operands_of : PseudoKind → Operands
operands_of kind.Nop = takes false false false Nothing
operands_of kind.Li = takes true false false AnyNumber
operands_of kind.Sgt = takes true true true Nothing
operands_of kind.Sgtu = takes true true true Nothing
operands_of kind.Beqz = takes false true false (Of op.Beq)
operands_of kind.Bnez = takes false true false (Of op.Bne)
operands_of kind.Blez = takes false true false (Of op.Bge)
operands_of kind.Bgez = takes false true false (Of op.Bge)
operands_of kind.Bltz = takes false true false (Of op.Blt)
operands_of kind.Bgtz = takes false true false (Of op.Blt)
operands_of kind.Bgt = takes false true true (Of op.Blt)
operands_of kind.Ble = takes false true true (Of op.Bge)
operands_of kind.Bgtu = takes false true true (Of op.Bltu)
operands_of kind.Bleu = takes false true true (Of op.Bgeu)
operands_of kind.J = takes false false false (Of op.Jal)
operands_of kind.Jal = takes false false false (Of op.Jal)
operands_of kind.Jr = takes false true false Nothing
operands_of kind.JrOff = takes false true false (Of op.Jalr)
operands_of kind.Jalr = takes false true false Nothing
operands_of kind.JalrOff = takes true true false (Of op.Jalr)
operands_of kind.Ret = takes false false false Nothing
operands_of kind.Call = takes false false false Symbol
operands_of kind.Tail = takes false false false Symbol
operands_of kind.La = takes true false false Symbol
operands_of kind.Lla = takes true false false Symbol
operands_of kind.Fence = takes false false false Nothing
operands_of kind.AddImm = takes true true false (Of op.Addi)
operands_of kind.AndImm = takes true true false (Of op.Andi)
operands_of kind.OrImm = takes true true false (Of op.Ori)
operands_of kind.XorImm = takes true true false (Of op.Xori)
operands_of kind.SltImm = takes true true false (Of op.Slti)
operands_of kind.SltuImm = takes true true false (Of op.Sltiu)
operands_of kind.SllImm = takes true true false (Of op.Slli)
operands_of kind.SrlImm = takes true true false (Of op.Srli)
operands_of kind.SraImm = takes true true false (Of op.Srai)
operands_of kind.AddwImm = takes true true false (Of op.Addiw)
operands_of kind.SllwImm = takes true true false (Of op.Slliw)
operands_of kind.SrlwImm = takes true true false (Of op.Srliw)
operands_of kind.SrawImm = takes true true false (Of op.Sraiw)
operands_of kind.AddTprel = takes true true true Symbol
operands_of _ = takes true true false Nothing

-- a register that the form lacks is x0
abbrev pub fits_operands : Operands → Pseudo → Bool
fits_operands o p = (o.rd || nat_eq p.rd 0) && (o.rs || nat_eq p.rs1 0) && (o.rt || nat_eq p.rs2 0) && is_that o.imm p.imm

-- it has the operands that its form takes, in range, and no others
abbrev pub fits : Pseudo → Bool
fits p = fits_operands (operands_of p.kind) p
