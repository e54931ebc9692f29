use Rattle.std.proofs.Common.{◌≡◌, ◌++◌, drop, map}
use Rattle.std.specs.List.{filter_map}
use Rattle.sched_validate.specs.Classes.{write_in}
use Rattle.sched_validate.proofs.lists.writes.Given as goal

abbrev pub invariant-loop-entry : goal.invariant-loop-entry
invariant-loop-entry l = map (λ r. r.now) l.found.items ++ filter_map write_in (drop l.entry-index l.entries) ≡ filter_map write_in l.entries
