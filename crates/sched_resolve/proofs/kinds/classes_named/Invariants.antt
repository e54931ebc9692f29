use Rattle.std.proofs.Common.{◌≡◌, ◌++◌, drop, map}
use Rattle.sched_resolve.specs.Reading.{word_of}
use Rattle.sched_resolve.specs.Entries.{registers_of}
use Rattle.sched_resolve.proofs.kinds.classes_named.Given as goal

abbrev pub invariant-loop-atom : goal.invariant-loop-atom
invariant-loop-atom l = l.found.items ++ map registers_of (map word_of (drop l.atom-index l.atoms)) ≡ map registers_of (map word_of l.atoms)
