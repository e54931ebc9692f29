-- The units of the resources: numbered from 0 over the ProcResource records, in order.
use Rattle.std.specs.Prelude.{ℕ, ◌+◌, ◌-◌, List, [], ◌∷◌, take, sum_by, slice_get, nat_lt, nat_le, Bool, ◌&&◌, Some, None, if◌then◌else◌}
use Rattle.std.specs.List.{list_any}
use Rattle.std.specs.declared.option.Option.{Option}
use Rattle.machine_model.specs.declared.answers.UnitOwner.{UnitOwner}
use Rattle.sched_checks.specs.Resources.{own_units, units_at, parts}
use Rattle.sched_resolve.specs.declared.entry.Resource.{Resource}

-- the first unit of a resource's own
abbrev pub first_unit : List Resource → ℕ → ℕ
first_unit rs p = sum_by (λ r. own_units r.makeup) (take p rs)

-- a unit is one of a resource's own
abbrev pub owns : List Resource → ℕ → ℕ → Bool
owns rs u p = nat_le (first_unit rs p) u && nat_lt u (first_unit rs p + units_at (slice_get rs p))

-- a resource has a unit, where one of the ProcResource records that it is made of owns it
abbrev pub has_unit : List Resource → ℕ → ℕ → Bool
has_unit rs r u = list_any (owns rs u) (parts rs r)

-- the resource that owns a unit, and the unit's place in it: the resources from number k on, whose units begin at first
abbrev pub owner_from : List Resource → ℕ → ℕ → ℕ → Option UnitOwner
owner_from [] k first u = None
owner_from (r ∷ rs) k first u = if nat_lt u (first + own_units r.makeup) then Some (record { resource = k; place = u - first })
    else owner_from rs (k + 1) (first + own_units r.makeup) u

abbrev pub owner_of : List Resource → ℕ → Option UnitOwner
owner_of rs u = owner_from rs 0 0 u
