use Rattle.std.proofs.Common.{◌≡◌, drop}
use Rattle.sched_records.specs.Members.{value_in}
use Rattle.sched_records.proofs.members.value_in.Given as goal

abbrev pub invariant-loop-one : goal.invariant-loop-one
invariant-loop-one l = value_in l.field (drop l.one-index l.given) ≡ value_in l.field l.given
