-- a lawful instruction can be spelled
use Rattle.std.proofs.Common.{◌≡◌, ◌≢◌, pos, negsuc, Bool, true, false, ◌&&◌, not, refl, subst, arith}
use Rattle.std.specs.Prelude.{is_some, Option, Some, None}
use Rattle.std.proofs.lemmas.Bool.Decides.{nat_tests}
use Rattle.rv_isa.specs.declared.op.Op.{Op}
use Rattle.rv_isa.specs.declared.op.Op.TheVariants as op
use Rattle.rv_isa.specs.declared.facts.ImmRange.{ImmRange}
use Rattle.rv_isa.specs.declared.instr.Imm.{Imm}
use Rattle.rv_isa.specs.declared.instr.Imm.TheVariants as imm
use Rattle.rv_isa.specs.declared.instr.Instr.{Instr}
use Rattle.rv_isa.specs.Instruction.{is_lawful, is_lawful_imm, is_lawful_with}
use Rattle.rv_isa.specs.Opcodes.{facts_of}
use Rattle.rv_isa.specs.Spelling.{IsSets}

both : (a b : Bool) → a && b ≡ true → (a ≡ true) × (b ≡ true)
both true b h = (refl, h)
both false b h = cc

given : (b : Option ImmRange) → not (is_some b) ≡ true → is_some b ≡ true → ⊥
given None h k = cc
given (Some b) h k = cc

-- it has an immediate where its opcode has one
pub lawful_given : (i : Instr) → is_lawful i ≡ true → is_some (facts_of i.op).range ≡ true → i.imm ≢ imm.None
lawful_given i h some e =
    let at : is_lawful_imm i.op i.imm ≡ true = (both (is_lawful_with (facts_of i.op).form i) (is_lawful_imm i.op i.imm) h).1 in
    given (facts_of i.op).range (subst (λ n. is_lawful_imm i.op n ≡ true) e at) some

sets : (o : Op) (n : Imm) → is_lawful_imm o n ≡ true → IsSets (facts_of o).form n
sets op.Fence imm.None h = cc
sets op.Fence (imm.Symbol k) h = cc
sets op.Fence (imm.Value (pos n)) h = grind (arith, nat_tests)
sets op.Fence (imm.Value (negsuc n)) h = cc
sets _ n h = tt

-- a fence has its two sets
pub lawful_sets : (i : Instr) → is_lawful i ≡ true → IsSets (facts_of i.op).form i.imm
lawful_sets i h = sets i.op i.imm (both (is_lawful_with (facts_of i.op).form i) (is_lawful_imm i.op i.imm) h).1
