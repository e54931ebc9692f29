-- The places that a map has for names.
use Rattle.std.specs.Prelude.{◌≡◌, ℕ, List, nat_eq, position}
use Rattle.std.specs.Cmp.Lexicographic.{pointwise}
use Rattle.std.specs.declared.option.Option.{Option}
use Rattle.indexmap.specs.IndexMap.{get_by}
use Rattle.sched_records.specs.declared.records.Record.{Record}
use Rattle.sched_resolve.specs.declared.name_space.NameSpace.{NameSpace}
use Rattle.sched_resolve.specs.declared.name_space.Places.{Places}
use Rattle.sched_resolve.specs.Names.{names_in}

-- the place that a map has for a name, the empty one too
abbrev pub first_place : Places → List ℕ → Option ℕ
first_place p name = get_by (λ k. pointwise nat_eq name k.now) p.map

-- a map has the places of the names of a name space
abbrev pub HasPlaces : NameSpace → List Record → Places → Type 0
HasPlaces s rs p = (n : List ℕ) → first_place p n ≡ position (pointwise nat_eq n) (names_in s rs)
