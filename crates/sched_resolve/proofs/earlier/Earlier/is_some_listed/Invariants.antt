use Rattle.std.proofs.Common.{◌≡◌, drop, map}
use Rattle.std.specs.List.{list_any}
use Rattle.sched_resolve.specs.Reading.{word_of}
use Rattle.sched_resolve.specs.Noted.{lists}
use Rattle.sched_resolve.proofs.earlier.Earlier.is_some_listed.Given as goal

-- none of the names so far is listed
abbrev pub invariant-loop-atom : goal.invariant-loop-atom
invariant-loop-atom l = list_any (λ n. list_any (lists l.self.table l.read n) l.self.earlier) (map word_of (drop l.atom-index l.atoms))
    ≡ list_any (λ n. list_any (lists l.self.table l.read n) l.self.earlier) (map word_of l.atoms)
