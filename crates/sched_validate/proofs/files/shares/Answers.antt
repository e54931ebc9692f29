use Rattle.std.proofs.Common.{◌∙◌, refl, arith}
use Rattle.std.proofs.lemmas.List.FromFn.{map-range_with_len_more}
use Rattle.sched_validate.proofs.files.shares.Goals as goal

pub loop-register-preserved : goal.loop-register-preserved
loop-register-preserved c = c.in_ok-push.ensures.items ∙ rw (c.loop-register.invariant, c.share.ensures, map-range_with_len_more _ 0 c.loop-register.register c.loop-register.register (omega arith)) refl
