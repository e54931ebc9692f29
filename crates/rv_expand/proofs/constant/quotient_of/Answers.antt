use Rattle.std.specs.Int.{w64}
use Rattle.std.proofs.lemmas.Int.{to_z-of_z}
use Rattle.rv_expand.proofs.Parts.{quotients}
use Rattle.rv_expand.proofs.constant.quotient_of.Goals as goal

pub overflow_shr-result : goal.overflow_shr-result
overflow_shr-result c =
    let plain = to_z-of_z w64 c.args.value c.ranges.value in
    rw (c.shift_of.ensures, plain) (quotients c.args.value c.ranges.value c.requires).shift
