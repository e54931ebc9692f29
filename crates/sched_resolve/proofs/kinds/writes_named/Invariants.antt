use Rattle.std.proofs.Common.{◌≡◌, ◌++◌, drop, map}
use Rattle.sched_resolve.specs.Reading.{word_of}
use Rattle.sched_resolve.specs.Entries.{all_writes_of}
use Rattle.sched_resolve.proofs.kinds.writes_named.Given as goal

abbrev pub invariant-loop-atom : goal.invariant-loop-atom
invariant-loop-atom l = l.found.items ++ all_writes_of l.names (map word_of (drop l.atom-index l.atoms)) ≡ all_writes_of l.names (map word_of l.atoms)
