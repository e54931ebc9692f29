-- Graphs of waits: rows in an order, and edges from a row to one later in it.
use Rattle.std.specs.Prelude.{suc, ◌≡◌, ℕ, ◌<◌, ◌≤◌, ◌^◌, List, [], ◌∷◌, length, sum_by, slice_index, slice_index_or, nat_eq, if◌then◌else◌}
use Rattle.critical_chain.specs.declared.graph.Edge.{Edge}
use Rattle.critical_chain.specs.declared.graph.EdgeKind.TheVariants.{Register}
use Rattle.critical_chain.specs.declared.graph.Graph.{Graph}

-- where a row stands in an order; the order's length where it does not
unfoldable pub place : List ℕ → ℕ → ℕ
place [] v = 0
place (x ∷ xs) v = if nat_eq x v then 0 else suc (place xs v)

-- each row below n stands in the order, once, and nothing else does
pub record IsOrder (n : ℕ) (order : List ℕ) : Type 0 where
  pub rows : length order ≡ n
  pub below : (i : ℕ) → i < n → slice_index order i < n
  pub once : (i : ℕ) → i < n → place order (slice_index order i) ≡ i
  pub listed : (v : ℕ) → v < n → place order v < n

-- what stands for an edge past the end of a list
abbrev pub no_edge : Edge
no_edge = record { from = 0; to = 0; kind = Register; cost = 0 }

abbrev pub edge_at : List Edge → ℕ → Edge
edge_at edges i = slice_index_or edges i no_edge

-- what edges cost together
abbrev pub cost_of : List Edge → ℕ
cost_of links = sum_by (λ e. e.cost) links

-- an edge leads from a row to a later one, by the place of each row in the order
pub record IsForward (n : ℕ) (spot : ℕ → ℕ) (e : Edge) : Type 0 where
  pub from : e.from < n
  pub to : e.to < n
  pub later : spot e.from < spot e.to

-- edges that all lead forward, sorted by the rows at which they end
pub record AreForward (rows : ℕ) (spot : ℕ → ℕ) (edges : List Edge) : Type 0 where
  pub forward : (i : ℕ) → i < length edges → IsForward rows spot (edge_at edges i)
  pub sorted : (i k : ℕ) → i ≤ k → k < length edges → spot (edge_at edges i).to ≤ spot (edge_at edges k).to

-- what both calls need of a graph
pub record IsGraph (g : Graph) : Type 0 where
  pub order : IsOrder g.rows g.order
  pub edges : AreForward g.rows (place g.order) g.edges
  pub low : cost_of g.edges < 2 ^ 64
