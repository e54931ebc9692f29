-- The row that is blamed for a wait, and the waits of a run as edges.
use Rattle.std.specs.Prelude.{zero, suc, ℕ, ◌+◌, ◌-◌, List, [], ◌∷◌, ◌++◌, Bool, not, ◌&&◌, Option, Some, None, nat_eq, if◌then◌else◌}
use Rattle.std.specs.List.{list_any}
use Rattle.unit_sets.specs.Below.{first_from}
use Rattle.machine_model.specs.Meaning.{MachineMeaning}
use Rattle.machine_model.specs.declared.facts.Use.{Use}
use Rattle.cycle_rules.specs.Row.{Input, Table, phase}
use Rattle.cycle_rules.specs.Seen.{has_issued, comes_before, key_at}
use Rattle.cycle_rules.specs.Pick.{Taken, holds_at, taken_by, taken_below, pick_unit}
use Rattle.cycle_rules.specs.Issue.{producer, has_operand, memory_order, older_row}
use Rattle.cycle_rules.specs.declared.bound.Source.{Source}
use Rattle.cycle_rules.specs.Waits.{operands_at, memory_at, at_issue, register_wait, memory_wait, resource_wait}
use Rattle.critical_chain.specs.declared.graph.Edge.{Edge}
use Rattle.critical_chain.specs.declared.graph.EdgeKind.{EdgeKind}
use Rattle.critical_chain.specs.declared.graph.EdgeKind.TheVariants.{Register, Memory, Resource}

-- the producer of the first read whose value is not there
abbrev pub absent_in : Input → Table → ℕ → ℕ → List Source → Option ℕ
absent_in g t j c [] = None
absent_in g t j c (s ∷ rest) = if has_operand g t j c s then absent_in g t j c rest else producer g j s.reg

-- the row that is blamed for a wait for operands: in the last cycle of that wait, the first read whose value is not there names it
abbrev pub register_blamed : Input → Table → ℕ → Option ℕ
register_blamed g t j = let c = operands_at g t j - 1 in absent_in g (at_issue g t j c) j c (g.row j).reads

-- the least older row for which row j must still wait in a cycle
abbrev pub holds_up : Input → Table → ℕ → ℕ → ℕ → Bool
holds_up g t j c k = not (memory_order (g.row j).kind (g.row k).kind (older_row g t j c k))

-- the row that is blamed for a wait for the order of memory: in the last cycle of that wait, the oldest row that does not let row j go
abbrev pub memory_blamed : Input → Table → ℕ → Option ℕ
memory_blamed g t j = let c = memory_at g t j - 1 in first_from 0 j (holds_up g (at_issue g t j c) j c)

-- the resource of a use that finds no unit, or what the uses after it find
abbrev pub then_try : Option ℕ → ℕ → (ℕ → Option ℕ) → Option ℕ
then_try None r rest = Some r
then_try (Some u) r rest = rest u

-- the uses of a row take units one after another: the resource of the first that finds none, after the uses that took units before
unfoldable pub busy_in : MachineMeaning → List Taken → ℕ → List Use → Option ℕ
busy_in m earlier c [] = None
busy_in m earlier c (w ∷ rest) =
    if nat_eq w.hold 0
    then busy_in m earlier c rest
    else then_try (pick_unit m earlier c w.resource) w.resource (λ u. busy_in m (earlier ++ record { resource = w.resource; hold = w.hold; unit = u; from = c } ∷ []) c rest)

-- a row holds a unit of a resource in a cycle
abbrev pub holds_unit : Input → Table → ℕ → ℕ → ℕ → Bool
holds_unit g t r c k = list_any (λ h. g.machine.units r h.unit && holds_at c h) (taken_by (t k).issue (g.row k).uses (t k).units)

-- row k issues before row j
abbrev pub is_before : Input → Table → ℕ → ℕ → Bool
is_before g t k j = comes_before (key_at (t k).issue (phase (g.row k)) k) (key_at (t j).issue (phase (g.row j)) j)

-- of two rows the one that issues later
abbrev pub later_of : Input → Table → Option ℕ → ℕ → Option ℕ
later_of g t None k = Some k
later_of g t (Some b) k = if is_before g t b k then Some k else Some b

-- of the first n rows that pass the one that issues last
abbrev pub last_issued : Input → Table → ℕ → (ℕ → Bool) → Option ℕ
last_issued g t zero p = None
last_issued g t (suc n) p = if p n then later_of g t (last_issued g t n p) n else last_issued g t n p

-- of the rows that issued before row j asks in a cycle, and hold a unit of a resource then, the one that issued last
abbrev pub holder_of : Input → Table → ℕ → ℕ → Option ℕ → Option ℕ
holder_of g t j c None = None
holder_of g t j c (Some r) = last_issued g t g.rows (λ k. has_issued g t k c (phase (g.row j)) j && holds_unit g t r c k)

-- the row that is blamed for a wait for units: in the cycle before its issue row j asks in vain
abbrev pub resource_blamed : Input → Table → ℕ → Option ℕ
resource_blamed g t j = let c = (t j).issue - 1 in holder_of g t j c (busy_in g.machine (taken_below g (at_issue g t j c) (c + 1)) c (g.row j).uses)

-- a wait above 0 is an edge from the row that is blamed
abbrev pub edge_of : EdgeKind → ℕ → ℕ → Option ℕ → List Edge
edge_of kind zero j o = []
edge_of kind (suc w) j None = []
edge_of kind (suc w) j (Some k) = record { from = k; to = j; kind = kind; cost = suc w } ∷ []

-- the edges of the waits of a row, by kind
abbrev pub edges_to : Input → Table → ℕ → List Edge
edges_to g t j = edge_of Register (register_wait g t j) j (register_blamed g t j) ++ edge_of Memory (memory_wait g t j) j (memory_blamed g t j) ++ edge_of Resource (resource_wait g t j) j (resource_blamed g t j)

-- the edges of rows, one row after another
abbrev pub edges_along : Input → Table → List ℕ → List Edge
edges_along g t [] = []
edges_along g t (j ∷ rest) = edges_to g t j ++ edges_along g t rest
