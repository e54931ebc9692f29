-- What the queues keep of the rows that wait.
use Rattle.std.specs.Prelude.{◌≡◌, ℕ, ◌+◌, ◌^◌, take, slice_index_or, ◌<◌, ◌≤◌, List, [], ◌∷◌, map, length, slice_index, Bool, true, ◌&&◌, nat_lt, nat_eq}
use Rattle.std.specs.List.{filter, list_all, count_by}
use Rattle.machine_model.specs.Meaning.{MachineMeaning}
use Rattle.machine_model.specs.declared.facts.Use.{Use}
use Rattle.node_pool.specs.Pool.{Pool, list_of}
use Rattle.node_pool.specs.declared.node.Node.{Node}
use Rattle.machine_model.specs.Valid.{no_use}
use Rattle.cycle_rules.specs.declared.bound.Bound.{Bound}
use Rattle.cycle_rules.specs.Row.{entries}
use Rattle.issue_queues.specs.Waiting.{Waiting, held_in, lane_of}
use Rattle.issue_queues.specs.declared.queues.Queues.{Queues}

-- the uses of a bound instruction that count
abbrev pub named : Bound → List Use
named b = take b.use_count b.uses

-- they name resources of the machine alone
pub record IsNaming (m : MachineMeaning) (b : Bound) : Type 0 where
  pub few : b.use_count ≤ 8
  pub within : (i : ℕ) → i < b.use_count → (slice_index_or b.uses i no_use).resource < m.resource_count

-- the node of a ready row
abbrev pub node_of : Waiting → Node
node_of x = record { key = x.row; value = x.row }

-- all rows are above a number
abbrev pub are_above : ℕ → List Waiting → Bool
are_above row rows = list_all (λ x. nat_lt row x.row) rows

-- each row is below the later ones
abbrev pub in_order : List Waiting → Bool
in_order [] = true
in_order (x ∷ rows) = are_above x.row rows && in_order rows

-- a row is in a lane
abbrev pub in_lane : List ℕ → ℕ → ℕ → Bool
in_lane lanes lane row = nat_eq (lane_of lanes row) lane

-- the nodes of the ready rows whose number passes
abbrev pub ready_nodes : (ℕ → Bool) → List Waiting → List Node
ready_nodes p rows = map node_of (filter (λ x. x.ready && p x.row) rows)

pub record AreKept (m : MachineMeaning) (bounds held lanes : List ℕ) (count : ℕ) (pool : Pool) (rows : List Waiting) : Type 0 where
  pub bounds_len : length bounds ≡ m.resource_count
  pub held_len : length held ≡ m.resource_count
  pub bound : (r : ℕ) → r < m.resource_count → slice_index bounds r ≡ entries (m.buffer r)
  pub hold : (r : ℕ) → r < m.resource_count → slice_index held r ≡ held_in rows r
  pub order : in_order rows ≡ true
  pub body : 0 < length lanes
  pub lane : (row : ℕ) → lane_of lanes row < count
  pub lists : length pool.lists ≡ count
  pub few : count ≤ 64
  pub ready : (l : ℕ) → l < count → list_of pool l ≡ ready_nodes (in_lane lanes l) rows
  pub small : m.limits.reorder < 2 ^ 32
  pub fit : length rows ≤ m.limits.reorder
  pub nodes : pool.spare + count_by (λ x. x.ready) rows ≡ m.limits.reorder

-- the lanes of the places of the body
abbrev pub lanes_in : Queues → List ℕ
lanes_in q = q.lanes.items

-- the rows that the queues of a machine stand for
abbrev pub StandsFor : MachineMeaning → Queues → List Waiting → Type 0
StandsFor m q rows = AreKept m q.bounds.items q.held.items q.lanes.items q.count q.ready rows
