use Rattle.std.proofs.Common.{◌≡◌, ℕ, ◌≤◌, List, length, nat_eq, take}
use Rattle.std.specs.Cmp.Lexicographic.{pointwise}
use Rattle.std.specs.List.{position}
use Rattle.sched_resolve.specs.Names.{names_in}
use Rattle.sched_resolve.specs.Places.{first_place}
use Rattle.sched_resolve.proofs.name_space.places_of.Given as goal

-- the places are those of the names so far
abbrev pub invariant-loop-one : goal.invariant-loop-one
invariant-loop-one l = record {
  counted : l.count ≡ length (names_in l.space (take l.one-index l.records));
  few : l.count ≤ l.one-index;
  placed : (n : List ℕ) → first_place l.places n ≡ position (pointwise nat_eq n) (names_in l.space (take l.one-index l.records));
}
