-- Which units the uses of a row take when it issues: round robin over the free units of each resource.
use Rattle.std.specs.Prelude.{zero, suc, ℕ, ◌+◌, ◌-◌, List, [], ◌∷◌, ◌++◌, length, replicate, Bool, not, ◌&&◌, Option, Some, None, nat_lt, nat_le, nat_eq, if◌then◌else◌}
use Rattle.std.specs.List.{list_any}
pub use Rattle.unit_sets.specs.Below.{or_else}
unfoldable pub use Rattle.unit_sets.specs.Below.{cyclic_from}
use Rattle.machine_model.specs.Meaning.{MachineMeaning}
use Rattle.cycle_rules.specs.Row.{Input, Table, phase}
use Rattle.machine_model.specs.declared.facts.Use.{Use}
use Rattle.cycle_rules.specs.declared.times.TheConstants.{NO_UNIT}

-- a use that took its unit in a cycle
pub record Taken : Type 0 where
  pub resource : ℕ
  pub hold : ℕ
  pub unit : ℕ
  pub from : ℕ

-- it holds its unit in a cycle
unfoldable pub holds_at : ℕ → Taken → Bool
holds_at c h = nat_le h.from c && nat_lt c (h.from + h.hold)

-- a unit that no earlier use holds in a cycle
unfoldable pub is_free : List Taken → ℕ → ℕ → Bool
is_free earlier c u = not (list_any (λ h. nat_eq h.unit u && holds_at c h) earlier)

-- the place after the unit that was chosen last for a resource; 0 where none was
unfoldable pub place_after : ℕ → List Taken → ℕ
place_after r [] = 0
place_after r (h ∷ later) = if list_any (λ k. nat_eq k.resource r) later then place_after r later else (if nat_eq h.resource r then h.unit + 1 else 0)

-- the unit that a use of a resource takes: round robin over those that are free
unfoldable pub pick_unit : MachineMeaning → List Taken → ℕ → ℕ → Option ℕ
pick_unit m earlier c r = cyclic_from m.unit_count (place_after r earlier) (λ u. m.units r u && is_free earlier c u)

abbrev pub add_front : ℕ → Option (List ℕ) → Option (List ℕ)
add_front u (Some us) = Some (u ∷ us)
add_front u None = None

-- a unit, and those that come after it
abbrev pub prepend : Option ℕ → (ℕ → Option (List ℕ)) → Option (List ℕ)
prepend (Some u) rest = add_front u (rest u)
prepend None rest = None

-- how a unit is written where there is none
abbrev pub no_unit : ℕ
no_unit = NO_UNIT

-- the units that the uses of a row take one after another, in a cycle; none where one of them finds no unit
unfoldable pub pick_units : MachineMeaning → List Taken → ℕ → List Use → Option (List ℕ)
pick_units m earlier c [] = Some []
pick_units m earlier c (w ∷ rest) =
    if nat_eq w.hold 0
    then prepend (Some no_unit) (λ _. pick_units m earlier c rest)
    else prepend (pick_unit m earlier c w.resource) (λ u. pick_units m (earlier ++ record { resource = w.resource; hold = w.hold; unit = u; from = c } ∷ []) c rest)

-- the uses of a row that took units, in use order
unfoldable pub taken_by : ℕ → List Use → List ℕ → List Taken
taken_by c [] us = []
taken_by c (w ∷ rest) [] = []
taken_by c (w ∷ rest) (u ∷ us) = if nat_eq w.hold 0 then taken_by c rest us else record { resource = w.resource; hold = w.hold; unit = u; from = c } ∷ taken_by c rest us

-- those of the rows below n that issued in a cycle and a phase
unfoldable pub taken_in : Input → Table → ℕ → ℕ → ℕ → List Taken
taken_in g t c p zero = []
taken_in g t c p (suc k) = taken_in g t c p k ++ (if nat_eq (phase (g.row k)) p && nat_eq (t k).issue c then taken_by c (g.row k).uses (t k).units else [])

-- the uses of all rows that issued before a cycle, in issue order
unfoldable pub taken_below : Input → Table → ℕ → List Taken
taken_below g t zero = []
taken_below g t (suc c) = taken_below g t c ++ taken_in g t c 1 g.rows ++ taken_in g t c 2 g.rows

-- the units of row j in a cycle, after all uses of rows that have issued
unfoldable pub pick : Input → Table → ℕ → ℕ → Option (List ℕ)
pick g t j c = pick_units g.machine (taken_below g t (c + 1)) c (g.row j).uses

-- the eight places for units
unfoldable pub padded : Option (List ℕ) → List ℕ
padded (Some us) = us ++ replicate (8 - length us) no_unit
padded None = replicate 8 no_unit
