use Rattle.std.proofs.Common.{◌≡◌, ◌∙◌, ap, ◌%◌, arith, rules}
use Rattle.std.specs.Int.{int_shl, w64}
use Rattle.std.proofs.lemmas.Int.{to_z-of_z}
use Rattle.rv_expand.proofs.Wrap.{int_shl_is}
use Rattle.rv_expand.proofs.value.shifted.Goals as goal

pub returns : goal.returns
returns c =
    let below : c.args.shift % 64 ≡ c.args.shift = omega arith in
    to_z-of_z w64 _ (search rules)
    ∙ c.wrapping_shl.ensures
    ∙ ap (λ x. int_shl w64 x (c.args.shift % 64)) (to_z-of_z w64 _ c.ranges.number)
    ∙ ap (int_shl w64 c.args.number) below
    ∙ int_shl_is c.args.number c.args.shift c.ranges.number c.requires
