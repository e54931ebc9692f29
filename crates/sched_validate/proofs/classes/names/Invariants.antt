use Rattle.std.proofs.Common.{◌≡◌, drop}
use Rattle.std.specs.List.{list_any}
use Rattle.sched_checks.specs.Checks.{same_op}
use Rattle.sched_validate.proofs.classes.names.Given as goal

-- none so far is the opcode
abbrev pub invariant-loop-other : goal.invariant-loop-other
invariant-loop-other l = list_any (same_op l.op) (drop l.other-index l.other-items) ≡ list_any (same_op l.op) l.rewrite.ops
