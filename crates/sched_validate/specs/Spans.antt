-- The units of the resources, as they are laid out: each resource's own stand behind those of the ones before.
use Rattle.std.specs.Prelude.{◌≡◌, ℕ, ◌+◌, ◌<◌, List, [], ◌∷◌, length, Contains, slice_get, slice_index_or, nat_lt, nat_le, Bool, false, ◌&&◌, Some, None}
use Rattle.std.specs.declared.option.Option.{Option}
use Rattle.sched_checks.specs.Resources.{own_units}
use Rattle.sched_resolve.specs.declared.entry.Resource.{Resource}
use Rattle.sched_validate.specs.Places.{members_of}
use Rattle.sched_validate.specs.declared.layout.Span.{Span}
use Rattle.unit_sets.specs.declared.set.UnitSet.{UnitSet}

-- what stands where there is no set of units
abbrev pub no_set : UnitSet
no_set = record { words = 0 ∷ 0 ∷ 0 ∷ 0 ∷ [] }

-- what stands where there is no resource
abbrev pub no_span : Span
no_span = record { first = 0; count = 0 }

abbrev pub span_at : List Span → ℕ → Span
span_at spans p = slice_index_or spans p no_span

-- a unit is one of these
abbrev pub is_within : Span → ℕ → Bool
is_within s v = nat_le s.first v && nat_lt v (s.first + s.count)

-- the own units of resources, the first of which begins at a number
abbrev pub spans_from : List Resource → ℕ → List Span
spans_from [] first = []
spans_from (r ∷ rs) first = record { first = first; count = own_units r.makeup } ∷ spans_from rs (first + own_units r.makeup)

abbrev pub spans_of : List Resource → List Span
spans_of rs = spans_from rs 0

-- a unit is one of those that a member of a group has of its own
abbrev pub in_member : List Span → ℕ → Option ℕ → Bool
in_member spans v None = false
in_member spans v (Some p) = is_within (span_at spans p) v

-- the members of the groups are resources of the list
abbrev pub MembersArePlaces : List Resource → Type 0
MembersArePlaces rs = (k p : ℕ) (r : Resource) → slice_get rs k ≡ Some r → Contains (members_of r.makeup) (Some p) → p < length rs
