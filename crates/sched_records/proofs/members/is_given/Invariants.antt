use Rattle.std.proofs.Common.{◌≡◌, drop}
use Rattle.std.specs.List.{list_any}
use Rattle.sched_records.specs.Members.{is_given_by}
use Rattle.sched_records.proofs.members.is_given.Given as goal

abbrev pub invariant-loop-one : goal.invariant-loop-one
invariant-loop-one l = list_any (is_given_by l.field) (drop l.one-index l.given) ≡ list_any (is_given_by l.field) l.given
