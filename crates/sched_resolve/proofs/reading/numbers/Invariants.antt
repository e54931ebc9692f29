use Rattle.std.proofs.Common.{◌≡◌, ◌++◌, drop, map}
use Rattle.sched_resolve.specs.Reading.{number_of}
use Rattle.sched_resolve.proofs.reading.numbers.Given as goal

abbrev pub invariant-loop-atom : goal.invariant-loop-atom
invariant-loop-atom l = l.found.items ++ map number_of (drop l.atom-index l.atoms) ≡ map number_of l.atoms
