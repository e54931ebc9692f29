-- Chains of waits, the greatest cost of a chain that ends at a row, and the one chain that is reported.
use Rattle.std.specs.Prelude.{◌≡◌, ℕ, ◌+◌, ◌<◌, ◌≤◌, List, [], ◌∷◌, length, slice_index, reverse, Bool, true, false, ◌&&◌, ◌||◌, nat_eq, nat_lt}
use Rattle.critical_chain.specs.declared.graph.Edge.{Edge}
use Rattle.critical_chain.specs.declared.graph.EdgeKind.{EdgeKind}
use Rattle.critical_chain.specs.declared.graph.EdgeKind.TheVariants.{Register, Memory, Resource}
use Rattle.critical_chain.specs.declared.graph.Graph.{Graph}
use Rattle.critical_chain.specs.declared.graph.Chain.{Chain}
use Rattle.critical_chain.specs.Graph.{place, edge_at, cost_of}

abbrev pub HasEdge : List Edge → Edge → Type 0
HasEdge edges e = (i : ℕ) × (i < length edges) × (edge_at edges i ≡ e)

-- a chain of edges from row a to row b: each starts where the one before ended
abbrev pub Leads : List Edge → ℕ → ℕ → List Edge → Type 0
Leads edges a b [] = a ≡ b
Leads edges a b (e ∷ es) = (HasEdge edges e) × (e.from ≡ a) × (Leads edges e.to b es)

abbrev pub IsChain : List Edge → List Edge → Type 0
IsChain edges links = (a : ℕ) × (b : ℕ) × (Leads edges a b links)

-- the label of row v: the greatest cost of a chain that ends there, 0 where none has a link
pub record IsLabel (edges : List Edge) (v n : ℕ) : Type 0 where
  pub reached : (a : ℕ) × (links : List Edge) × (Leads edges a v links) × (cost_of links ≡ n)
  pub most : (a : ℕ) (links : List Edge) → Leads edges a v links → cost_of links ≤ n

pub record AreLabels (n : ℕ) (edges : List Edge) (labels : List ℕ) : Type 0 where
  pub rows : length labels ≡ n
  pub each : (v : ℕ) → v < n → IsLabel edges v (slice_index labels v)

-- the edge ends a costliest chain to row v
abbrev pub ends_costliest : (ℕ → ℕ) → ℕ → Edge → Bool
ends_costliest label v e = nat_eq e.to v && nat_eq (label e.from + e.cost) (label v)

-- registers go before memory, and memory before resources
abbrev pub kind_number : EdgeKind → ℕ
kind_number Register = 0
kind_number Memory = 1
kind_number Resource = 2

-- of two edges to one row the one whose start is earlier in the order goes first; of two from one start the one whose kind does
abbrev pub goes_first : (ℕ → ℕ) → Edge → Edge → Bool
goes_first spot x y = nat_lt (spot x.from) (spot y.from) || (nat_eq (spot x.from) (spot y.from) && nat_lt (kind_number x.kind) (kind_number y.kind))

-- the edge that is taken at row v: of those that end a costliest chain there the first
pub record IsChoice (edges : List Edge) (spot label : ℕ → ℕ) (v : ℕ) (e : Edge) : Type 0 where
  pub edge : HasEdge edges e
  pub last : ends_costliest label v e ≡ true
  pub first : (y : Edge) → HasEdge edges y → ends_costliest label v y ≡ true → goes_first spot y e ≡ false

-- the links of the chain that is built backwards from row v, the last one first: at each row with a label above 0 the edge that is taken there, up to a row with label 0
abbrev pub IsBuilt : List Edge → (ℕ → ℕ) → (ℕ → ℕ) → ℕ → List Edge → Type 0
IsBuilt edges spot label v [] = label v ≡ 0
IsBuilt edges spot label v (e ∷ es) = (0 < label v) × (IsChoice edges spot label v e) × (IsBuilt edges spot label e.from es)

-- of the rows with the greatest label the first in the order
pub record IsEnd (rows : ℕ) (spot label : ℕ → ℕ) (v : ℕ) : Type 0 where
  pub row : v < rows
  pub most : (u : ℕ) → u < rows → label u ≤ label v
  pub first : (u : ℕ) → u < rows → label u ≡ label v → spot v ≤ spot u

-- the chain that is reported, with all labels: a chain of the edges, none of which costs more
pub record IsReported (n : ℕ) (order : List ℕ) (edges links : List Edge) (cost : ℕ) (labels : List ℕ) : Type 0 where
  pub are_labels : AreLabels n edges labels
  pub sum : cost ≡ cost_of links
  pub chain : IsChain edges links
  pub most : (a b : ℕ) (others : List Edge) → Leads edges a b others → cost_of others ≤ cost
  pub built : 0 < n → (v : ℕ) × (IsEnd n (place order) (slice_index labels) v) × (IsBuilt edges (place order) (slice_index labels) v (reverse links))
  pub none : n ≡ 0 → links ≡ []

-- the critical sequence of a graph
abbrev pub IsCritical : Graph → Chain → Type 0
IsCritical g c = IsReported g.rows g.order g.edges c.links c.cost c.labels

-- along each edge the label grows by its cost at least
abbrev pub Grows : List Edge → (ℕ → ℕ) → Type 0
Grows edges label = (i : ℕ) → i < length edges → label (edge_at edges i).from + (edge_at edges i).cost ≤ label (edge_at edges i).to

-- links that are a chain of the edges and cost what is said, with labels that show that no chain costs more
pub record IsShown (n : ℕ) (edges links : List Edge) (cost : ℕ) (labels : List ℕ) : Type 0 where
  pub chain : IsChain edges links
  pub sum : cost ≡ cost_of links
  pub rows : length labels ≡ n
  pub grows : Grows edges (slice_index labels)
  pub most : (v : ℕ) → v < n → slice_index labels v ≤ cost

abbrev pub IsChecked : Graph → Chain → Type 0
IsChecked g c = IsShown g.rows g.edges c.links c.cost c.labels
