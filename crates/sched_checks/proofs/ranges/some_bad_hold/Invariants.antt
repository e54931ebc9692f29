use Rattle.std.proofs.Common.{◌≡◌, drop, pos}
use Rattle.std.specs.List.{list_any}
use Rattle.sched_checks.specs.Checks.{is_outside}
use Rattle.sched_checks.proofs.ranges.some_bad_hold.Given as goal

abbrev pub invariant-loop-place : goal.invariant-loop-place
invariant-loop-place l = list_any (is_outside (pos 0) (pos 1000000)) (drop l.place l.cycles) ≡ list_any (is_outside (pos 0) (pos 1000000)) l.cycles
