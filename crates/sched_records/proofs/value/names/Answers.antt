use Rattle.std.proofs.Common.{arith}
use Rattle.sched_records.specs.Values.{names}
use Rattle.sched_records.proofs.ListSteps.{names_go_on}
use Rattle.sched_records.proofs.value.names.Goals as goal

pub names-preserved : goal.names-preserved
names-preserved c = record {
  shorter = omega (arith, c.in_ok-listed.ensures.shorter);
  same = rw c.in_ok-push.ensures.items
      (names_go_on c.in_ok-listed.listed c.names.read.items c.names.tokens c.listed_name.new.tokens (names c.args.tokens.now)
      c.in_ok-listed.ensures.read c.if-listed.false c.names.invariant.same);
}
