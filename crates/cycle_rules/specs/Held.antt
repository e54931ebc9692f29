-- When units that rows took are held: what is told of the units of rows without knowing how they are picked.
use Rattle.std.specs.Prelude.{◌≡◌, ℕ, ◌+◌, ◌<◌, ◌≤◌, List, Bool, true, false, ◌&&◌, nat_lt, nat_le, nat_eq}
use Rattle.std.specs.List.{list_any, list_all}
use Rattle.machine_model.specs.Meaning.{MachineMeaning}
use Rattle.cycle_rules.specs.Pick.{Taken, holds_at, taken_by}
use Rattle.cycle_rules.specs.Row.{Input, Table}

-- the uses by which a row took units
abbrev pub taken_of : Input → Table → ℕ → List Taken
taken_of g t k = taken_by (t k).issue (g.row k).uses (t k).units

-- none of the uses holds its unit in cycle c or later
abbrev pub AllEnd : ℕ → List Taken → Type 0
AllEnd c taken = (b : ℕ) → c ≤ b → list_any (holds_at b) taken ≡ false

-- all of them took their units in cycle c or before
abbrev pub AllBegun : ℕ → List Taken → Type 0
AllBegun c taken = list_all (λ h. nat_le h.from c) taken ≡ true

-- a change of a use that took a unit: the first cycle in which it holds it no more
unfoldable pub changes_at : MachineMeaning → ℕ → Taken → Bool
changes_at m c h = nat_lt 0 h.hold && nat_eq c (h.from + h.hold)

-- the most changes that a use can have
abbrev pub most_changes : MachineMeaning → ℕ
most_changes m = 1

-- none of the uses changes in the cycles above a, up to b
abbrev pub NoChange : MachineMeaning → ℕ → ℕ → List Taken → Type 0
NoChange m a b taken = (c : ℕ) → a < c → c ≤ b → list_any (changes_at m c) taken ≡ false
