use Rattle.std.proofs.Common.{◌≡◌, drop, map, is_some}
use Rattle.std.specs.List.{list_any}
use Rattle.sched_resolve.specs.Reading.{word_of}
use Rattle.sched_resolve.specs.Names.{write_named}
use Rattle.sched_resolve.proofs.kinds.some_write.Given as goal

-- none of the names so far stands for a write
abbrev pub invariant-loop-atom : goal.invariant-loop-atom
invariant-loop-atom l = list_any (λ n. is_some (write_named l.names n)) (map word_of (drop l.atom-index l.atoms)) ≡ list_any (λ n. is_some (write_named l.names n)) (map word_of l.atoms)
