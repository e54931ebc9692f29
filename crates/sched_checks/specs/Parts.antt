-- The parts of the resources of a table, in the order of the resources.
use Rattle.std.specs.Prelude.{ℕ, ◌+◌, List, [], ◌∷◌, sum_by, slice_get, Some, None}
use Rattle.std.specs.declared.option.Option.{Option}
use Rattle.sched_resolve.specs.declared.entry.Resource.{Resource}
use Rattle.sched_checks.specs.Resources.{units_at, parts_in}

-- of the resources from a number on
abbrev pub parts_from : List Resource → ℕ → List Resource → List (List ℕ)
parts_from rs k [] = []
parts_from rs k (r ∷ rest) = parts_in rs k r.makeup ∷ parts_from rs (k + 1) rest

abbrev pub numbers_at : Option (List ℕ) → List ℕ
numbers_at None = []
numbers_at (Some ps) = ps

-- the units of some ProcResource records together
abbrev pub units_of : List Resource → List ℕ → ℕ
units_of rs ps = sum_by (λ p. units_at (slice_get rs p)) ps

abbrev pub count_at : Option ℕ → ℕ
count_at None = 0
count_at (Some n) = n
