use Rattle.std.proofs.Common.{◌≡◌, ◌||◌, take}
use Rattle.std.specs.List.{list_any}
use Rattle.sched_checks.specs.Checks.{same_op}
use Rattle.rv_isa.specs.declared.op.Op.{Op}
use Rattle.sched_checks.proofs.before.put_ops.Given as goal

abbrev pub invariant-loop-op : goal.invariant-loop-op
invariant-loop-op l = (o : Op) → list_any (same_op o) l.ops.items ≡ (list_any (same_op o) l.initial.ops.items || list_any (same_op o) (take l.op-index l.more))
