use Rattle.std.proofs.Common.{◌≡◌, ◌++◌, drop}
use Rattle.sched_checks.specs.Resources.{uses_by}
use Rattle.sched_validate.proofs.writes.uses.Given as goal

abbrev pub invariant-loop-place : goal.invariant-loop-place
invariant-loop-place l = l.uses.items ++ uses_by (drop l.place l.write.uses) (drop l.place l.write.cycles) ≡ uses_by l.write.uses l.write.cycles
