-- The resources of a table, what they are made of, and the uses that a write makes of them.
pub use Rattle.sched_resolve.specs.InRange.{resource_in, resources_of}
pub use Rattle.sched_resolve.specs.EntryTests.{count_of, own_units, is_group}
use Rattle.std.specs.Prelude.{ℕ, ℤ, List, [], ◌∷◌, ◌++◌, sum_by, slice_get, nat_eq, nat_lt, Bool, false, not, ◌&&◌, Some, None, if◌then◌else◌}
use Rattle.std.specs.List.{list_any}
use Rattle.std.specs.declared.option.Option.{Option}
use Rattle.machine_model.specs.declared.facts.Use.{Use}
use Rattle.sched_resolve.specs.declared.entry.Makeup.{Makeup}
use Rattle.sched_resolve.specs.declared.entry.Makeup.TheVariants as makeup
use Rattle.sched_resolve.specs.declared.entry.Resource.{Resource}

abbrev pub units_at : Option Resource → ℕ
units_at None = 0
units_at (Some r) = own_units r.makeup

abbrev pub group_at : Option Resource → Bool
group_at None = false
group_at (Some r) = is_group r.makeup

abbrev pub plain_at : Option Resource → Bool
plain_at None = false
plain_at (Some r) = not (is_group r.makeup)

-- the ProcResource records that a group is made of, by their numbers, each once
abbrev pub with_part : List Resource → List ℕ → Option ℕ → List ℕ
with_part rs parts None = parts
with_part rs parts (Some p) = if plain_at (slice_get rs p) && not (list_any (λ q. nat_eq q p) parts) then parts ++ p ∷ [] else parts

abbrev pub with_parts : List Resource → List ℕ → List (Option ℕ) → List ℕ
with_parts rs parts [] = parts
with_parts rs parts (m ∷ ms) = with_parts rs (with_part rs parts m) ms

abbrev pub parts_in : List Resource → ℕ → Makeup → List ℕ
parts_in rs k (makeup.Units n) = k ∷ []
parts_in rs k (makeup.Group members) = with_parts rs [] members

abbrev pub parts_at : List Resource → ℕ → Option Resource → List ℕ
parts_at rs k None = []
parts_at rs k (Some r) = parts_in rs k r.makeup

-- the ProcResource records that a resource is made of: itself, or those of its members
abbrev pub parts : List Resource → ℕ → List ℕ
parts rs k = parts_at rs k (slice_get rs k)

-- the units of a resource
abbrev pub total : List Resource → ℕ → ℕ
total rs k = sum_by (λ p. units_at (slice_get rs p)) (parts rs k)

-- a ProcResource that has units is a part of both
abbrev pub share : List Resource → ℕ → ℕ → Bool
share rs j k = list_any (λ p. nat_lt 0 (units_at (slice_get rs p)) && list_any (λ q. nat_eq q p) (parts rs k)) (parts rs j)

-- the uses of a write: each with the cycles that are released after, or 1 where none are given
abbrev pub place_or_first : Option ℕ → ℕ
place_or_first None = 0
place_or_first (Some p) = p

abbrev pub uses_by : List (Option ℕ) → List ℤ → List Use
uses_by [] cycles = []
uses_by (u ∷ us) [] = record { resource = place_or_first u; hold = 1 } ∷ uses_by us []
uses_by (u ∷ us) (c ∷ cs) = record { resource = place_or_first u; hold = count_of c } ∷ uses_by us cs
