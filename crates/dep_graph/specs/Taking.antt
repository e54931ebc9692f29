-- What is kept of the units when the waits of the first rows of the issue order have been looked at.
use Rattle.std.specs.Prelude.{◌≡◌, ℕ, ◌-◌, ◌<◌, ◌≤◌, List, [], ◌∷◌, slice_index, Bool, true, nat_eq, nat_lt, if◌then◌else◌}
use Rattle.machine_model.specs.Meaning.{MachineMeaning}
use Rattle.cycle_rules.specs.Row.{Input, Table, phase}
use Rattle.cycle_rules.specs.Seen.{key_at, comes_before, has_issued}
use Rattle.resource_units.specs.Stand.{StandsFor, machine_of}
use Rattle.resource_units.specs.declared.units.Units.{Units}
use Rattle.critical_chain.specs.Graph.{place}
use Rattle.critical_chain.specs.declared.graph.Edge.{Edge}
use Rattle.critical_chain.specs.declared.graph.EdgeKind.{EdgeKind}
use Rattle.dep_graph.specs.Holders.{taken_along, AreHolders}
use Rattle.dep_graph.specs.declared.holders.Taker.{Taker}
use Rattle.dep_graph.specs.declared.waits.Wait.{Wait}

-- row k issues before row j looks for units in vain, in the cycle before that of its issue
abbrev pub asks_after : Input → Table → ℕ → ℕ → Bool
asks_after g t k j = comes_before (key_at (t k).issue (phase (g.row k)) k) (key_at ((t j).issue - 1) (phase (g.row j)) j)

-- exactly the first q rows of the order have issued at a key
abbrev pub AreFirst : Input → Table → List ℕ → ℕ → ℕ → ℕ → ℕ → Type 0
AreFirst g t order q p j c = (k : ℕ) → k < g.rows → has_issued g t k c p j ≡ nat_lt (place order k) q

-- the first rows of the order have taken units by a cycle, which no later row and no later question comes before
pub record IsReady (g : Input) (t : Table) (order : List ℕ) (taken i a : ℕ) : Type 0 where
  pub few : taken ≤ g.rows
  pub ahead : (q m : ℕ) → q < taken → i ≤ m → m < g.rows → asks_after g t (slice_index order q) (slice_index order m) ≡ true
  pub issues : (m : ℕ) → taken ≤ m → m < g.rows → a ≤ (t (slice_index order m)).issue
  pub asks : (m : ℕ) → i ≤ m → m < g.rows → a ≤ (t (slice_index order m)).issue - 1

-- the units stand for what the first rows of the order have taken, and the last takers are kept
pub record IsTaking {M Mask : Type 0} {g : _} {h : _} (meaning : M → MachineMeaning) (holds : Mask → ℕ → Bool) (run : Input) (t : Table) (order : List ℕ) (taken i : ℕ)
    (units : Units M Mask g h) (last : List Taker) : Type 0 where
  pub cycle : ℕ
  pub ready : IsReady run t order taken i cycle
  pub stands : StandsFor meaning holds cycle units (taken_along run t order taken)
  pub holders : AreHolders run t order taken cycle last
  pub machine : machine_of meaning units ≡ run.machine

-- the edge of a wait
abbrev pub wait_edge : EdgeKind → ℕ → Wait → List Edge
wait_edge kind j wait = if nat_eq wait.cycles 0 then [] else record { from = wait.row; to = j; kind = kind; cost = wait.cycles } ∷ []
