-- What is known of labels, places, choices and links on the way; no public clause speaks of it.
use Rattle.std.specs.Prelude.{◌≡◌, ℕ, ◌+◌, ◌<◌, ◌≤◌, ◌^◌, List, length, slice_index, true, false, Option, Some, None}
use Rattle.critical_chain.specs.declared.graph.Edge.{Edge}
use Rattle.critical_chain.specs.Graph.{edge_at, cost_of}
use Rattle.critical_chain.specs.Chain.{HasEdge, ends_costliest, goes_first}

-- each label above 0 is that of an edge's start and the edge's cost
abbrev pub AreReached : List Edge → (ℕ → ℕ) → Type 0
AreReached edges label = (v : ℕ) → 0 < label v → (i : ℕ) × (i < length edges) × ((edge_at edges i).to ≡ v) × (label (edge_at edges i).from + (edge_at edges i).cost ≡ label v)

-- the same by the test of the edge
abbrev pub AreEnded : List Edge → (ℕ → ℕ) → Type 0
AreEnded edges label = (v : ℕ) → 0 < label v → (i : ℕ) × (i < length edges) × (ends_costliest label v (edge_at edges i) ≡ true)

-- the edges are between rows below n
abbrev pub AreRows : List Edge → ℕ → Type 0
AreRows edges n = (i : ℕ) → i < length edges → ((edge_at edges i).from < n) × ((edge_at edges i).to < n)

-- they are between labelled rows, and no sum of a label and a cost is too great
abbrev pub AreLow : List Edge → List ℕ → Type 0
AreLow edges labels = (i : ℕ) → i < length edges → ((edge_at edges i).from < length labels) × ((edge_at edges i).to < length labels) × (slice_index labels (edge_at edges i).from + (edge_at edges i).cost < 2 ^ 64)

-- of the edges from the n-th on that end a costliest chain to row v the number of one before which none goes; none where none does
abbrev pub IsBest : List Edge → ℕ → (ℕ → ℕ) → (ℕ → ℕ) → ℕ → Option ℕ → Type 0
IsBest edges n spot label v None = (i : ℕ) → n ≤ i → i < length edges → ends_costliest label v (edge_at edges i) ≡ false
IsBest edges n spot label v (Some k) = (n ≤ k) × (k < length edges) × (ends_costliest label v (edge_at edges k) ≡ true)
    × ((i : ℕ) → n ≤ i → i < length edges → ends_costliest label v (edge_at edges i) ≡ true → goes_first spot (edge_at edges i) (edge_at edges k) ≡ false)

-- each link starts where the one before ended
abbrev pub AreJoined : List Edge → Type 0
AreJoined links = (i : ℕ) → i + 1 < length links → (edge_at links i).to ≡ (edge_at links (i + 1)).from

-- each link is an edge, and this is their cost; or some link is no edge
abbrev pub IsMatched : List Edge → List Edge → Option ℕ → Type 0
IsMatched edges links (Some cost) = ((i : ℕ) → i < length links → HasEdge edges (edge_at links i)) × (cost ≡ cost_of links)
IsMatched edges links None = (i : ℕ) × (i < length links) × (HasEdge edges (edge_at links i) → ⊥)
