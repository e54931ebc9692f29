use Rattle.std.proofs.Common.{◌∙◌, sym, pos, rules}
use Rattle.sched_checks.specs.Checks.{is_outside}
use Rattle.sched_checks.proofs.AnyOf.{one_passes, none_passes}
use Rattle.sched_checks.proofs.ranges.some_bad_hold.Goals as goal

pub returns-then-is_bad_hold : goal.returns-then-is_bad_hold
returns-then-is_bad_hold c = one_passes (is_outside (pos 0) (pos 1000000)) c.args.cycles.now c.loop-place.place c.get.result
    (search rules) c.get.ensures (sym c.is_bad_hold.ensures ∙ c.if-is_bad_hold.true) c.loop-place.invariant

pub loop-place-preserved : goal.loop-place-preserved
loop-place-preserved c = none_passes (is_outside (pos 0) (pos 1000000)) c.args.cycles.now c.loop-place.place c.get.result
    (search rules) c.get.ensures (sym c.is_bad_hold.ensures ∙ c.if-is_bad_hold.false) c.loop-place.invariant
