use Rattle.std.proofs.Common.{◌∙◌, ap, pos, rules}
use Rattle.std.specs.Prelude.{unsigned_abs}
use Rattle.std.specs.Int.{int_wrap, w32, w64, cast_signed, int_rem_euclid}
use Rattle.std.proofs.lemmas.Int.{to_z-of_z}
use Rattle.rv_expand.proofs.value.low_word.Goals as goal

pub returns : goal.returns
unfolding int_wrap
returns c =
    to_z-of_z w32 _ (search rules)
    ∙ c.cast_signed.ensures
    ∙ ap (λ x. cast_signed w32 (unsigned_abs x)) (to_z-of_z w64 c.rem_euclid.result (search rules))
    ∙ ap (λ x. cast_signed w32 (unsigned_abs x)) c.rem_euclid.ensures.value
    ∙ ap (λ x. cast_signed w32 (unsigned_abs (int_rem_euclid x (pos 4294967296)))) (to_z-of_z w64 _ c.ranges.number)
