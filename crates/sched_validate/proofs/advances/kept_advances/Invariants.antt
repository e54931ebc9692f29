use Rattle.std.proofs.Common.{map, take}
use Rattle.sched_validate.specs.Advances.{StandsFor}
use Rattle.sched_validate.proofs.advances.kept_advances.Given as goal

abbrev pub invariant-loop-advance : goal.invariant-loop-advance
invariant-loop-advance l = StandsFor l.kept (map (λ a. a.now) (take l.advance-index l.all))
