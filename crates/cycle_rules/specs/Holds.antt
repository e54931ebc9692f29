-- The holds of units: for how many cycles the rows of a run hold a unit, all together.
use Rattle.std.specs.Prelude.{◌≡◌, ◌≤◌, ◌^◌, ℕ, ◌+◌, ◌*◌, ◌%◌, List, [], ◌∷◌, length, slice_index_or, nat_eq, if◌then◌else◌}
use Rattle.machine_model.specs.declared.facts.Use.{Use}
use Rattle.cycle_rules.specs.Below.{sum_below}
use Rattle.cycle_rules.specs.Row.{Row, Table, no_row}
use Rattle.cycle_rules.specs.declared.bound.Bound.{Bound}
use Rattle.cycle_rules.specs.declared.times.Times.{Times}

-- the cycles for which the uses of a row hold a unit, where each took the unit beside it
abbrev pub held : List Use → List ℕ → ℕ → ℕ
held [] units u = 0
held (w ∷ ws) [] u = 0
held (w ∷ ws) (x ∷ xs) u = (if nat_eq x u then w.hold else 0) + held ws xs u

-- the same of row j of a body that is repeated iteration by iteration
abbrev pub held_by : List Row → Table → ℕ → ℕ → ℕ
held_by body t j u = held (slice_index_or body (j % length body) no_row).uses (t j).units u

-- over the rows of one instruction: those at its place of each iteration
unfoldable pub held_at : List Row → Table → ℕ → ℕ → ℕ → ℕ
held_at body t iterations place u = sum_below iterations (λ k. held_by body t (k * length body + place) u)

-- over all rows
unfoldable pub held_by_all : List Row → Table → ℕ → ℕ → ℕ
held_by_all body t iterations u = sum_below (iterations * length body) (λ j. held_by body t j u)

-- Of whom the sums are asked: the uses of an instruction that count have places
abbrev pub HasPlaces : Bound → Type 0
HasPlaces b = b.use_count ≤ 8

-- the rows are those of a body, repeated; they are few enough that no sum is too large
pub record AreRows (body : List Bound) (rows : List Times) (iterations : ℕ) : Type 0 where
  pub count : length rows ≡ iterations * length body
  pub few : length rows ≤ 2 ^ 20
