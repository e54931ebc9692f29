use Rattle.std.proofs.Common.{◌≡◌, length, true, ◌∙◌, ap, sym, subst}
use Rattle.std.specs.List.{All}
use Rattle.std.proofs.lemmas.Result.{IfOk-weaker}
use Rattle.rv_isa.specs.Instruction.{is_lawful}
use Rattle.mca_run.specs.Load.{generated, generated_from}
use Rattle.mca_run.proofs.Generated.{program_is, has_length, all_lawful}
use Rattle.mca_run.proofs.generator.generate.Goals as goal

pub returns-clause-program : goal.returns-clause-program
returns-clause-program c = IfOk-weaker c.generate_from.result (λ code. code.items ≡ generated_from 512 c.args.seed) (λ code. code.items ≡ generated c.args.seed)
    (λ code is. is ∙ program_is c.args.seed) c.generate_from.ensures

pub returns-clause-count : goal.returns-clause-count
returns-clause-count c = IfOk-weaker c.generate_from.result (λ code. code.items ≡ generated_from 512 c.args.seed) (λ code. length code.items ≡ 512)
    (λ code is. ap length (is ∙ program_is c.args.seed) ∙ has_length c.args.seed) c.generate_from.ensures

pub returns-clause-lawful : goal.returns-clause-lawful
returns-clause-lawful c = IfOk-weaker c.generate_from.result (λ code. code.items ≡ generated_from 512 c.args.seed) (λ code. All (λ i. is_lawful i ≡ true) code.items)
    (λ code is. subst (All (λ i. is_lawful i ≡ true)) (sym (is ∙ program_is c.args.seed)) (all_lawful c.args.seed)) c.generate_from.ensures
