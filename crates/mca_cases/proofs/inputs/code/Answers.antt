use Rattle.std.proofs.Common.{◌≡◌, true, [], ◌∷◌, ◌++◌, sym, ◌∙◌, subst}
use Rattle.std.specs.List.{All}
use Rattle.std.proofs.lemmas.List.Elements.{All-append, All-nil, All-cons}
use Rattle.rv_isa.specs.Instruction.{is_lawful}
use Rattle.rv_isa.specs.declared.instr.Instr.{Instr}
use Rattle.mca_cases.proofs.inputs.code.Goals as goal

pub loop-k-preserved : goal.loop-k-preserved
loop-k-preserved c =
    let lawful : is_lawful c.in-Code.instr ≡ true = sym c.is_lawful.ensures ∙ c.if-is_lawful.true in
    subst (All (λ (i : Instr). is_lawful i ≡ true)) (sym c.in_ok-push-in-Code.ensures.items)
    (All-append (λ (i : Instr). is_lawful i ≡ true) c.loop-k.code.items (c.in-Code.instr ∷ []) c.loop-k.invariant
    (All-cons (λ (i : Instr). is_lawful i ≡ true) c.in-Code.instr [] lawful (All-nil (λ (i : Instr). is_lawful i ≡ true))))
