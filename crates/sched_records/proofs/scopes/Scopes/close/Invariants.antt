use Rattle.std.proofs.Common.{◌≡◌, length}
use Rattle.sched_records.specs.Scopes.{closed}
use Rattle.sched_records.proofs.scopes.Scopes.close.Given as goal

abbrev pub invariant-loop-self : goal.invariant-loop-self
invariant-loop-self l = closed l.self ≡ closed l.fn.self

abbrev pub decreases-loop-self : goal.decreases-loop-self
decreases-loop-self l = length l.self
