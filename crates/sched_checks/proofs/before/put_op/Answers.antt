use Rattle.std.proofs.Common.{◌∙◌, ap}
use Rattle.std.specs.List.{list_any}
use Rattle.sched_checks.specs.Checks.{same_op}
use Rattle.sched_checks.proofs.NamedOps.{named_already, named_last}
use Rattle.sched_checks.proofs.before.put_op.Goals as goal

pub returns-then-is_among : goal.returns-then-is_among
returns-then-is_among c = λ o. named_already o c.args.op c.args.ops.now.items (c.if-is_among.ensures ∙ ap (λ ops. list_any (same_op c.args.op) ops) c.as_slice.ensures.value)

pub returns : goal.returns
returns c = λ o. rw c.in_ok-push.ensures.items (named_last o c.args.op c.args.ops.now.items)
