use Rattle.std.proofs.Common.{◌≡◌, map, take}
use Rattle.sched_validate.specs.Classes.{class_for}
use Rattle.sched_validate.proofs.classes.all_classes.Given as goal

abbrev pub invariant-loop-op : goal.invariant-loop-op
invariant-loop-op l = l.classes.items ≡ map (class_for (map (λ w. w.now) l.writes) (map (λ r. r.now) l.rewrites) l.defaults) (take l.op-index l.ops)
