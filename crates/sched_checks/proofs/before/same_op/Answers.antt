use Rattle.sched_checks.proofs.NamedOps.{same_number}
use Rattle.sched_checks.proofs.before.same_op.Goals as goal

pub returns : goal.returns
returns c = rw (c.number-first.ensures.number, c.number-second.ensures.number) (same_number c.args.one c.args.other)
