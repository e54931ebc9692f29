-- the instructions that stand for a pseudo-instruction are lawful
use Rattle.std.proofs.Common.{◌≡◌, ◌≢◌, ℕ, ◌<◌, true, refl, arith}
use Rattle.std.specs.List.{list_all}
use Rattle.std.proofs.lemmas.Bool.Decides.{nat_tests}
use Rattle.rv_isa.specs.declared.instr.Imm.{Imm}
use Rattle.rv_isa.specs.declared.instr.Imm.TheVariants as imm
use Rattle.rv_isa.specs.Instruction.{is_lawful}
use Rattle.rv_expand.specs.declared.pseudo.PseudoKind.{PseudoKind}
use Rattle.rv_expand.specs.declared.pseudo.PseudoKind.TheVariants as kind
use Rattle.rv_expand.specs.Expansion.{expanded}
use Rattle.rv_expand.specs.Operands.{fits}

pub expanded_lawful : (k : PseudoKind) (rd rs rt : ℕ) (n : Imm) → rd < 32 → rs < 32 → rt < 32 → k ≢ kind.Li
    → fits (record { kind = k; rd = rd; rs1 = rs; rs2 = rt; imm = n }) ≡ true → list_all is_lawful (expanded k rd rs rt n) ≡ true
expanded_lawful kind.Li rd rs rt n d s t r h = absurd (r refl)
expanded_lawful kind.Call rd rs rt (imm.Symbol k) d s t r h = refl
expanded_lawful kind.Call rd rs rt imm.None d s t r h = grind (arith, nat_tests)
expanded_lawful kind.Call rd rs rt (imm.Value v) d s t r h = grind (arith, nat_tests)
expanded_lawful kind.Tail rd rs rt (imm.Symbol k) d s t r h = refl
expanded_lawful kind.Tail rd rs rt imm.None d s t r h = grind (arith, nat_tests)
expanded_lawful kind.Tail rd rs rt (imm.Value v) d s t r h = grind (arith, nat_tests)
expanded_lawful kind.La rd rs rt (imm.Symbol k) d s t r h = grind (arith, nat_tests)
expanded_lawful kind.La rd rs rt imm.None d s t r h = grind (arith, nat_tests)
expanded_lawful kind.La rd rs rt (imm.Value v) d s t r h = grind (arith, nat_tests)
expanded_lawful kind.Lla rd rs rt (imm.Symbol k) d s t r h = grind (arith, nat_tests)
expanded_lawful kind.Lla rd rs rt imm.None d s t r h = grind (arith, nat_tests)
expanded_lawful kind.Lla rd rs rt (imm.Value v) d s t r h = grind (arith, nat_tests)
expanded_lawful _ rd rs rt n d s t r h = grind (arith, nat_tests)
