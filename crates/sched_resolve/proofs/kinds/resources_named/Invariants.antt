use Rattle.std.proofs.Common.{◌≡◌, ◌++◌, drop, map}
use Rattle.sched_resolve.specs.Reading.{word_of}
use Rattle.sched_resolve.specs.Names.{place_of}
use Rattle.sched_resolve.specs.declared.name_space.NameSpace.TheVariants as space
use Rattle.sched_resolve.proofs.kinds.resources_named.Given as goal

abbrev pub invariant-loop-atom : goal.invariant-loop-atom
invariant-loop-atom l = l.found.items ++ map (place_of space.Resource l.names) (map word_of (drop l.atom-index l.atoms)) ≡ map (place_of space.Resource l.names) (map word_of l.atoms)
