use Rattle.std.proofs.Common.{◌≡◌, ℕ, take}
use Rattle.std.specs.List.{list_any}
use Rattle.unit_sets.specs.Members.{in_words}
use Rattle.sched_validate.specs.Spans.{in_member}
use Rattle.sched_validate.proofs.layout.group.Given as goal

-- the units of the members so far
abbrev pub invariant-loop-member : goal.invariant-loop-member
invariant-loop-member l = (v : ℕ) → in_words l.units.words v ≡ list_any (in_member l.spans v) (take l.member-index l.members)
