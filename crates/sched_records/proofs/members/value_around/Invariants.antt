use Rattle.std.proofs.Common.{◌≡◌, drop, map}
use Rattle.sched_records.specs.Members.{resolved}
use Rattle.sched_records.proofs.members.value_around.Given as goal

abbrev pub invariant-loop-scope : goal.invariant-loop-scope
invariant-loop-scope l = resolved l.field (map (λ s. s.given) (drop l.scope-index l.scopes)) ≡ resolved l.field (map (λ s. s.given) l.scopes)
