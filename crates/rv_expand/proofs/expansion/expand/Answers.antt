use Rattle.std.proofs.Common.{◌<◌, ◌∙◌, ap, arith}
use Rattle.std.specs.List.{list_all}
use Rattle.std.proofs.lemmas.Result.{IfOk-weaker}
use Rattle.rv_isa.specs.Instruction.{is_lawful}
use Rattle.rv_expand.proofs.Expansions.{expanded_lawful}
use Rattle.rv_expand.proofs.expansion.expand.Goals as goal

pub returns-clause-lawful : goal.returns-clause-lawful
returns-clause-lawful c =
    let p = c.args.pseudo.now in
    let d : p.rd < 32 = omega arith in
    let s : p.rs1 < 32 = omega arith in
    let t : p.rs2 < 32 = omega arith in
    IfOk-weaker c.renamed.result _ _ (λ list e. ap (list_all is_lawful) e ∙ expanded_lawful p.kind p.rd p.rs1 p.rs2 p.imm d s t c.in_default.not-Li c.requires)
    c.renamed.ensures
