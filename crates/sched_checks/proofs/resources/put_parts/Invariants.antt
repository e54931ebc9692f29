use Rattle.std.proofs.Common.{◌≡◌, drop, map}
use Rattle.sched_checks.specs.Resources.{with_parts}
use Rattle.sched_checks.proofs.resources.put_parts.Given as goal

abbrev pub invariant-loop-member : goal.invariant-loop-member
invariant-loop-member l = let rs = map (λ r. r.now) l.list in with_parts rs l.parts.keys (drop l.member-index l.members) ≡ with_parts rs l.initial.parts.keys l.members
