use Rattle.std.proofs.Common.{◌<◌, ◌∙◌, ap, arith}
use Rattle.std.specs.List.{list_all}
use Rattle.std.specs.Int.{w64}
use Rattle.std.proofs.lemmas.Int.{to_z-of_z}
use Rattle.std.proofs.lemmas.Result.{IfOk-weaker}
use Rattle.rv_isa.specs.Instruction.{is_lawful}
use Rattle.rv_expand.specs.Value.{value_of}
use Rattle.rv_expand.specs.Constant.{constant}
use Rattle.rv_expand.proofs.Lawful.{length-shifted, shifted_lawful}
use Rattle.rv_expand.proofs.Values.{value_of-constant}
use Rattle.rv_expand.proofs.constant.li.Goals as goal

pub returns-clause-value : goal.returns-clause-value
returns-clause-value c =
    let plain = to_z-of_z w64 c.args.value c.ranges.value in
    let below : c.args.rd < 32 = omega arith in
    IfOk-weaker c.shifted.result _ _
    (λ list e some. ap value_of (e ∙ ap (constant c.args.rd) plain) ∙ value_of-constant c.args.rd c.args.value (omega arith) below c.ranges.value)
    c.shifted.ensures

pub returns-clause-short : goal.returns-clause-short
returns-clause-short c = IfOk-weaker c.shifted.result _ _ (λ list e. rw e (length-shifted 3 c.args.rd _)) c.shifted.ensures

pub returns-clause-lawful : goal.returns-clause-lawful
returns-clause-lawful c =
    let plain = to_z-of_z w64 c.args.value c.ranges.value in
    let below : c.args.rd < 32 = omega arith in
    IfOk-weaker c.shifted.result _ _ (λ list e. ap (list_all is_lawful) (e ∙ ap (constant c.args.rd) plain) ∙ shifted_lawful 3 c.args.rd c.args.value below c.ranges.value) c.shifted.ensures
