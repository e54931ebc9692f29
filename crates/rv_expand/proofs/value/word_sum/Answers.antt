use Rattle.std.proofs.Common.{◌∙◌, ap, ◌+ℤ◌, rules}
use Rattle.std.specs.Int.{int_wrap, w32, w64}
use Rattle.std.proofs.lemmas.Int.{to_z-of_z, wrapping_add_is, int_wrap-add_left, int_wrap-add_right}
use Rattle.rv_expand.proofs.value.word_sum.Goals as goal

pub returns : goal.returns
returns c =
    to_z-of_z w64 _ (search rules)
    ∙ c.from.ensures
    ∙ wrapping_add_is w32 c.low_word.result c.low_word-2.result (search rules) (search rules)
    ∙ ap (λ x. int_wrap w32 (x +ℤ c.low_word-2.result)) (c.low_word.ensures ∙ ap (int_wrap w32) (to_z-of_z w64 _ c.ranges.a))
    ∙ ap (λ x. int_wrap w32 (int_wrap w32 c.args.a +ℤ x)) (c.low_word-2.ensures ∙ ap (int_wrap w32) (to_z-of_z w64 _ c.ranges.b))
    ∙ int_wrap-add_left w32 c.args.a (int_wrap w32 c.args.b)
    ∙ int_wrap-add_right w32 c.args.a c.args.b
