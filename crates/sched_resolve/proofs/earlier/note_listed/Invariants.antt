use Rattle.std.proofs.Common.{◌≡◌, ℕ, List, map, take, nat_eq}
use Rattle.std.specs.Prelude.{◌||◌, ◌&&◌}
use Rattle.std.specs.Cmp.Lexicographic.{pointwise}
use Rattle.std.specs.List.{list_any}
use Rattle.sched_resolve.specs.Reading.{word_of}
use Rattle.sched_resolve.proofs.earlier.note_listed.Given as goal

-- the names so far are in the set with the number of the read
abbrev pub invariant-loop-atom : goal.invariant-loop-atom
invariant-loop-atom l = (p : ℕ) (n : List ℕ) → list_any (λ k. nat_eq p k.0 && pointwise nat_eq n k.1.now) l.listed.keys
    ≡ (list_any (λ k. nat_eq p k.0 && pointwise nat_eq n k.1.now) l.initial.listed.keys || (nat_eq p l.read && list_any (pointwise nat_eq n) (map word_of (take l.atom-index l.atoms))))
