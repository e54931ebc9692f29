-- The critical sequence of the two products and their sums.
use Rattle.std.proofs.Common.{zero, suc, ◌≡◌, ℕ, ◌+◌, ◌<◌, ◌≤◌, List, [], ◌∷◌, arith, refl, sym, subst, true, false}
use Rattle.std.specs.Prelude.{slice_index}
use Rattle.std.proofs.lemmas.Bool.{false≢true}
use Rattle.unit_sets.specs.Below.{first_from, cyclic_from}
use Rattle.cycle_rules.specs.Below.{sum_below, count_below, all_below, last_below}
use Rattle.cycle_rules.specs.Row.{uops_of, phase, names, entries, lead, advance_of, is_load, is_store, is_barrier, times}
use Rattle.cycle_rules.specs.Pick.{holds_at, is_free, place_after, pick_unit, pick_units, taken_by, taken_in, taken_below, pick, padded}
use Rattle.cycle_rules.specs.Issue.{producer, has_operand, has_operands, is_fenced, memory_order, may_access, can_start, can_issue}
use Rattle.cycle_rules.specs.Seen.{comes_before}
use Rattle.critical_chain.specs.Graph.{place, edge_at, IsOrder, AreForward, IsForward, IsGraph}
use Rattle.critical_chain.specs.Chain.{ends_costliest, goes_first, Grows, IsChoice, IsBuilt, IsEnd, IsReported}
use Rattle.critical_chain.specs.Search.{AreReached}
use Rattle.critical_chain.specs.declared.graph.Edge.{Edge}
use Rattle.critical_chain.specs.declared.graph.Graph.{Graph}
use Rattle.critical_chain.proofs.Chains.{labels_are, reported_as}
use Rattle.dep_graph.specs.Blamed.{busy_in, is_before, edges_along}
use Rattle.dep_graph.specs.RunGraph.{IsGraphOf}
use Rattle.mca_views.specs.Bottleneck.{IsSequence}
use Rattle.mca_views.specs.Shown.{run_of}
use Rattle.mca_views.specs.WorkedBottleneck.{two_products, first_sum, wait_for}

-- both products issue before both sums
abbrev order : List ℕ
order = 0 ∷ 2 ∷ 1 ∷ 3 ∷ []

abbrev edges : List Edge
edges = wait_for 0 1 ∷ wait_for 2 3 ∷ []

abbrev graph : Graph
graph = record { rows = 4; order = order; edges = edges }

abbrev labels : List ℕ
labels = 0 ∷ 3 ∷ 0 ∷ 3 ∷ []

-- what holds of four numbers holds below 4
four : (P : ℕ → Type 0) → P 0 → P 1 → P 2 → P 3 → (i : ℕ) → i < 4 → P i
four P a b c d zero lt = a
four P a b c d (suc zero) lt = b
four P a b c d (suc (suc zero)) lt = c
four P a b c d (suc (suc (suc zero))) lt = d
four P a b c d (suc (suc (suc (suc i)))) lt = absurd (omega (arith, lt))

two : (P : ℕ → Type 0) → P 0 → P 1 → (i : ℕ) → i < 2 → P i
two P a b zero lt = a
two P a b (suc zero) lt = b
two P a b (suc (suc i)) lt = absurd (omega (arith, lt))

order_is : IsOrder 4 order
unfolding place
order_is = record {
  rows = refl;
  below = four (λ i. slice_index order i < 4) (omega arith) (omega arith) (omega arith) (omega arith);
  once = four (λ i. place order (slice_index order i) ≡ i) refl refl refl refl;
  listed = four (λ v. place order v < 4) (omega arith) (omega arith) (omega arith) (omega arith);
}

abbrev before : ℕ → ℕ → Type 0
before i k = i < k → is_before (run_of two_products) (times two_products.table) (slice_index order i) (slice_index order k) ≡ true

sorted : (i : ℕ) → i < 4 → (k : ℕ) → k < 4 → before i k
unfolding comes_before phase
sorted = four (λ i. (k : ℕ) → k < 4 → before i k)
    (four (before 0) (λ lt. absurd (omega (arith, lt))) (λ lt. refl) (λ lt. refl) (λ lt. refl))
    (four (before 1) (λ lt. absurd (omega (arith, lt))) (λ lt. absurd (omega (arith, lt))) (λ lt. refl) (λ lt. refl))
    (four (before 2) (λ lt. absurd (omega (arith, lt))) (λ lt. absurd (omega (arith, lt))) (λ lt. absurd (omega (arith, lt))) (λ lt. refl))
    (four (before 3) (λ lt. absurd (omega (arith, lt))) (λ lt. absurd (omega (arith, lt))) (λ lt. absurd (omega (arith, lt))) (λ lt. absurd (omega (arith, lt))))

edges_are : edges ≡ edges_along (run_of two_products) (times two_products.table) order
unfolding first_from cyclic_from sum_below count_below all_below last_below uops_of phase names entries lead advance_of is_load is_store is_barrier holds_at is_free place_after pick_unit pick_units taken_by taken_in taken_below pick padded producer has_operand has_operands is_fenced memory_order may_access can_start can_issue comes_before busy_in
edges_are = refl

waits : IsGraphOf (run_of two_products) (times two_products.table) graph
waits = record {
  rows = refl;
  order = record { all = order_is; sorted = λ i k lt low. sorted i (omega (arith, lt, low)) k low lt };
  edges = edges_are;
}

forward : AreForward 4 (place order) edges
unfolding place
forward = record {
  forward = two (λ i. IsForward 4 (place order) (edge_at edges i)) (record { from = omega arith; to = omega arith; later = omega arith }) (record { from = omega arith; to = omega arith; later = omega arith });
  sorted = λ i k le lt. two (λ k. (i : ℕ) → i ≤ k → place order (edge_at edges i).to ≤ place order (edge_at edges k).to)
      (λ i le. two (λ i. i ≤ 0 → place order (edge_at edges i).to ≤ 2) (λ _. omega arith) (λ more. absurd (omega (arith, more))) i (omega (arith, le)) le)
      (λ i le. two (λ i. place order (edge_at edges i).to ≤ 3) (omega arith) (omega arith) i (omega (arith, le))) k lt i le;
}

is_graph : IsGraph graph
is_graph = record { order = order_is; edges = forward; low = omega arith }

grows : Grows edges (slice_index labels)
grows = two (λ i. slice_index labels (edge_at edges i).from + (edge_at edges i).cost ≤ slice_index labels (edge_at edges i).to) (omega arith) (omega arith)

reached : AreReached edges (slice_index labels)
reached zero above = absurd (omega (arith, above))
reached (suc zero) above = (0, omega arith, refl, refl)
reached (suc (suc zero)) above = absurd (omega (arith, above))
reached (suc (suc (suc zero))) above = (1, omega arith, refl, refl)
reached (suc (suc (suc (suc v)))) above = absurd (omega (arith, above))

end : IsEnd 4 (place order) (slice_index labels) 1
unfolding place
end = record {
  row = omega arith;
  most = four (λ u. slice_index labels u ≤ 3) (omega arith) (omega arith) (omega arith) (omega arith);
  first = four (λ u. slice_index labels u ≡ 3 → 2 ≤ place order u) (λ e. absurd (omega (arith, e))) (λ e. omega arith) (λ e. absurd (omega (arith, e))) (λ e. omega arith);
}

-- where each row stands in that order
abbrev spots : List ℕ
spots = 0 ∷ 2 ∷ 1 ∷ 3 ∷ []

places : (u : ℕ) → u < 4 → slice_index spots u ≡ place order u
unfolding place
places = four (λ u. slice_index spots u ≡ place order u) refl refl refl refl

-- the one edge to the first sum
choice : IsChoice edges (slice_index spots) (slice_index labels) 1 (wait_for 0 1)
choice = record {
  edge = (0, omega arith, refl);
  last = refl;
  first = λ y has is. two (λ i. edge_at edges i ≡ y → ends_costliest (slice_index labels) 1 y ≡ true → goes_first (slice_index spots) y (wait_for 0 1) ≡ false)
      (λ e is. subst (λ x. goes_first (slice_index spots) x (wait_for 0 1) ≡ false) e refl)
      (λ e is. absurd (false≢true (subst (λ x. ends_costliest (slice_index labels) 1 x ≡ true) (sym e) is))) has.0 has.1 has.2 is;
}

built : IsBuilt edges (slice_index spots) (slice_index labels) 1 (wait_for 0 1 ∷ [])
built = (omega arith, choice, refl)

critical : IsReported 4 order edges (wait_for 0 1 ∷ []) 3 labels
critical = reported_as 4 order spots edges (wait_for 0 1 ∷ []) (wait_for 0 1 ∷ []) 1 3 labels labels refl refl refl forward (labels_are edges 4 (place order) labels forward refl grows reached) grows places end built

pub first_sum_is : IsSequence two_products first_sum
first_sum_is = record { graph = graph; waits = waits; is_graph = is_graph; critical = critical }
