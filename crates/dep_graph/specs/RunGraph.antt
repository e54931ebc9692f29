-- The waits of a run as a graph: its rows in issue order, and an edge for each wait.
use Rattle.std.specs.Prelude.{◌≡◌, ℕ, ◌<◌, List, slice_index, true}
use Rattle.cycle_rules.specs.Row.{Input, Table}
use Rattle.critical_chain.specs.Graph.{IsOrder}
use Rattle.critical_chain.specs.declared.graph.Graph.{Graph}
use Rattle.dep_graph.specs.Blamed.{is_before, edges_along}

-- all rows, in the order in which they issue
pub record IsIssueOrder (g : Input) (t : Table) (order : List ℕ) : Type 0 where
  pub all : IsOrder g.rows order
  pub sorted : (i k : ℕ) → i < k → k < g.rows → is_before g t (slice_index order i) (slice_index order k) ≡ true

-- edges are sorted by the row that waited in issue order, then by kind
pub record IsGraphOf (g : Input) (t : Table) (graph : Graph) : Type 0 where
  pub rows : graph.rows ≡ g.rows
  pub order : IsIssueOrder g t graph.order
  pub edges : graph.edges ≡ edges_along g t graph.order
