use Rattle.std.proofs.Common.{◌≡◌, drop}
use Rattle.std.specs.List.{filter_map}
use Rattle.sched_validate.specs.Lists.{store_queue_in}
use Rattle.sched_validate.proofs.lists.store_queue.Given as goal

-- none so far
abbrev pub invariant-loop-entry : goal.invariant-loop-entry
invariant-loop-entry l = filter_map store_queue_in (drop l.entry-index l.entries) ≡ filter_map store_queue_in l.entries
