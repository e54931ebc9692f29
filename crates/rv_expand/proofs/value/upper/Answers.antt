use Rattle.std.proofs.Common.{◌∙◌, ap, pos, ◌*ℤ◌, rules}
use Rattle.std.specs.Int.{int_wrap, w32, w64}
use Rattle.std.proofs.lemmas.Int.{to_z-of_z, wrapping_mul_is, int_wrap-mul_left}
use Rattle.rv_expand.proofs.value.upper.Goals as goal

pub returns : goal.returns
returns c =
    to_z-of_z w64 _ (search rules)
    ∙ c.from.ensures
    ∙ wrapping_mul_is w32 c.low_word.result (pos 4096) (search rules) (search rules)
    ∙ ap (λ x. int_wrap w32 (x *ℤ pos 4096)) c.low_word.ensures
    ∙ ap (λ x. int_wrap w32 (int_wrap w32 x *ℤ pos 4096)) (to_z-of_z w64 _ c.ranges.number)
    ∙ int_wrap-mul_left w32 c.args.number (pos 4096)
