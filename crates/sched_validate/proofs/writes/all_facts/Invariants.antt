use Rattle.std.proofs.Common.{◌≡◌, map, take}
use Rattle.sched_validate.specs.Classes.{facts_of}
use Rattle.sched_validate.proofs.writes.all_facts.Given as goal

abbrev pub invariant-loop-write : goal.invariant-loop-write
invariant-loop-write l = l.all.items ≡ map (λ w. facts_of w.now) (take l.write-index l.writes)
