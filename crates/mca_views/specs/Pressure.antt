-- The pressure on units: the cycles for which the instructions hold each of them, in one iteration on average.
use Rattle.std.specs.Prelude.{ℕ, List, [], ◌∷◌, ◌++◌, codes, map, length, Option, Some, None, is_some, nat_eq, nat_lt, if◌then◌else◌}
use Rattle.std.specs.Fmt.{decimal}
use Rattle.std.specs.List.{filter, flat_map, range_with_len}
use Rattle.mca_fixed.specs.Decimals.{fixed}
use Rattle.machine_model.specs.Meaning.{MachineMeaning}
use Rattle.machine_model.specs.Uses.{units_of}
use Rattle.machine_model.specs.declared.answers.UnitOwner.{UnitOwner}
use Rattle.cycle_rules.specs.Bind.{row_of}
use Rattle.cycle_rules.specs.Holds.{held_at, held_by_all}
use Rattle.cycle_rules.specs.Row.{times}
use Rattle.mca_views.specs.Lines.{cell, listed}
use Rattle.mca_views.specs.Shown.{Shown, spelled}

-- the units that are shown: those that a resource has which is no group
unfoldable pub columns : MachineMeaning → List ℕ
columns m = filter (λ u. is_some (m.owner u)) (range_with_len 0 m.unit_count)

abbrev pub unit_number : ℕ → List ℕ
unit_number u = codes "[" ++ decimal u ++ codes "]"

-- a unit is called by its resource, and where that has more than one by its place in it too
abbrev pub name_of : MachineMeaning → Option UnitOwner → List ℕ
name_of m None = []
name_of m (Some o) = m.resource_name o.resource ++ (if nat_lt 1 (units_of m o.resource) then codes "." ++ decimal o.place else [])

abbrev pub unit_line : MachineMeaning → ℕ → List ℕ
unit_line m u = unit_number u ++ codes " - " ++ name_of m (m.owner u)

-- a cell for each unit
abbrev pub cells : (ℕ → List ℕ) → List ℕ → List ℕ
cells text units = flat_map (λ u. cell (text u) 7) units

-- a sum of holds, divided by the iterations; `-` for none
abbrev pub pressure_text : ℕ → ℕ → List ℕ
pressure_text iterations sum = if nat_eq sum 0 then codes "-" else fixed sum iterations 2

-- the cells of sums, by unit
abbrev pub pressure_cells : ℕ → (ℕ → ℕ) → List ℕ → List ℕ
pressure_cells iterations sum units = cells (λ u. pressure_text iterations (sum u)) units

-- of all rows, and of those of one instruction
abbrev pub total_cells : List ℕ → Shown → List ℕ
total_cells units s = pressure_cells s.iterations (held_by_all (map row_of s.body) (times s.table) s.iterations) units

abbrev pub pressure_line : List ℕ → Shown → ℕ → List ℕ
pressure_line units s k = pressure_cells s.iterations (held_at (map row_of s.body) (times s.table) s.iterations k) units ++ spelled s k

-- the names of the units
abbrev pub unit_lines : List ℕ → MachineMeaning → List (List ℕ)
unit_lines units m = codes "Resources:" ∷ map (unit_line m) units

-- all rows together
abbrev pub iteration_lines : List ℕ → Shown → List (List ℕ)
iteration_lines units s = [] ∷ codes "Resource pressure per iteration:" ∷ cells unit_number units ∷ total_cells units s ∷ []

-- each instruction
abbrev pub table_head : List ℕ → List (List ℕ)
table_head units = [] ∷ codes "Resource pressure by instruction:" ∷ (cells unit_number units ++ codes "Instructions:") ∷ []

abbrev pub table_lines : List ℕ → Shown → List (List ℕ)
table_lines units s = table_head units ++ listed (length s.code) (pressure_line units s)

-- the view of such units, and of those of the machine
unfoldable pub lines_of : List ℕ → Shown → List (List ℕ)
lines_of units s = unit_lines units s.machine ++ iteration_lines units s ++ table_lines units s

abbrev pub pressure_lines : Shown → List (List ℕ)
pressure_lines s = lines_of (columns s.machine) s
