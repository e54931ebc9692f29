use Rattle.std.proofs.Common.{◌∙◌, ap, ◌-ℤ◌, rules}
use Rattle.std.specs.Int.{int_wrap, w64}
use Rattle.std.proofs.lemmas.Int.{to_z-of_z, wrapping_sub_is}
use Rattle.rv_expand.specs.Constant.{low_part, rest_of}
use Rattle.rv_expand.proofs.constant.rest_of.Goals as goal

pub returns : goal.returns
unfolding rest_of
returns c =
    wrapping_sub_is w64 c.args.value c.low_part.result c.ranges.value (search rules)
    ∙ ap (λ x. int_wrap w64 (c.args.value -ℤ x)) (c.low_part.ensures ∙ ap low_part (to_z-of_z w64 c.args.value c.ranges.value))
