use Rattle.std.proofs.Common.{◌≡◌, drop}
use Rattle.sched_resolve.specs.Reading.{value_among}
use Rattle.sched_resolve.proofs.reading.value_among.Given as goal

-- none of the members so far has that name
abbrev pub invariant-loop-member : goal.invariant-loop-member
invariant-loop-member l = value_among l.name (drop l.member-index l.members) ≡ value_among l.name l.members
