-- Each graph has a critical sequence: labels along the edges, the first of the greatest, and links back from it.
use Rattle.std.proofs.Common.{zero, suc, ◌≡◌, ℕ, ◌+◌, ◌<◌, ◌≤◌, inl, inr, List, [], ◌∷◌, length, set, arith, refl, ap, subst, true, false}
use Rattle.std.specs.Prelude.{slice_index, replicate, max, reverse, Option, Some, None}
use Rattle.std.proofs.lemmas.Bool.{cases_lt, cases_Bool}
use Rattle.critical_chain.specs.declared.graph.Edge.{Edge}
use Rattle.critical_chain.specs.declared.graph.Graph.{Graph}
use Rattle.critical_chain.specs.declared.graph.Chain.{Chain}
use Rattle.critical_chain.specs.Graph.{place, edge_at, IsOrder, AreForward, IsGraph}
use Rattle.critical_chain.specs.Chain.{ends_costliest, goes_first, Grows, HasEdge, IsChoice, IsBuilt, IsEnd, AreLabels, IsCritical}
use Rattle.critical_chain.specs.Search.{AreReached, AreEnded, IsBest}
use Rattle.critical_chain.proofs.Chains.{labels_are, last_of, reported, reported_none}
use Rattle.critical_chain.proofs.Choices.{best_skip, best_stay, best_new, ends_there, choice_of}
use Rattle.critical_chain.proofs.Labels.{AreLabelled, labelled_start, labelled_max}
use Rattle.critical_chain.proofs.Orders.{place_at}

-- labels for the first m edges
labelled : (spot : ℕ → ℕ) (edges : List Edge) (n : ℕ) → AreForward n spot edges → (m : ℕ) → m ≤ length edges → (labels : List ℕ) × AreLabelled edges m n labels
labelled spot edges n h zero le = (replicate n 0, labelled_start edges n)
labelled spot edges n h (suc m) le =
    let r = labelled spot edges n h m (omega (arith, le)) in
    let e : m + 1 ≡ suc m = omega arith in
    let old : ℕ = slice_index r.0 (edge_at edges m).to in
    let x : ℕ = slice_index r.0 (edge_at edges m).from + (edge_at edges m).cost in
    let new : List ℕ = set r.0 (edge_at edges m).to (max old x) in
    let more : AreLabelled edges (m + 1) n new = labelled_max spot edges m n r.0 old x h r.1 (omega (arith, le)) refl refl in
    (new, subst (λ k. AreLabelled edges k n new) e more)

-- of the last m edges the one to take at row v, if any
best : (edges : List Edge) (spot label : ℕ → ℕ) (v m n : ℕ) → n + m ≡ length edges → (o : Option ℕ) × IsBest edges n spot label v o
best edges spot label v zero n all = (None, λ i past lt. absurd (omega (arith, past, lt, all)))
best edges spot label v (suc m) n all =
    let r = best edges spot label v m (n + 1) (omega (arith, all)) in
    elim (cases_Bool (ends_costliest label v (edge_at edges n))) [
      | inr gone ↦ (r.0, best_skip edges n spot label v r.0 r.1 gone)
      | inl is ↦ next (omega (arith, all)) r.0 r.1 is
    ]
  where
    next : n < length edges → (o : Option ℕ) → IsBest edges (n + 1) spot label v o → ends_costliest label v (edge_at edges n) ≡ true → (o : Option ℕ) × IsBest edges n spot label v o
    next lt None h is = (Some n, best_new edges n spot label v None lt h is (λ k same. absurd (cc)))
    next lt (Some x) h is = elim (cases_Bool (goes_first spot (edge_at edges n) (edge_at edges x))) [
      | inr later ↦ (Some x, best_stay edges n spot label v x h later)
      | inl first ↦ (Some n, best_new edges n spot label v (Some x) lt h is (λ k same. let e : x ≡ k = cc in subst (λ z. goes_first spot (edge_at edges n) (edge_at edges z) ≡ true) e first))
    ]

-- at a row with a label above 0 an edge is taken
chosen : (edges : List Edge) (spot label : ℕ → ℕ) (v : ℕ) → AreEnded edges label → 0 < label v → (e : Edge) × IsChoice edges spot label v e
chosen edges spot label v ended above = let b = best edges spot label v (length edges) 0 (omega arith) in go b.0 b.1
  where
    go : (o : Option ℕ) → IsBest edges 0 spot label v o → (e : Edge) × IsChoice edges spot label v e
    go None h = let l = ended v above in absurd (let no : ends_costliest label v (edge_at edges l.0) ≡ false = h l.0 (omega arith) l.1 in grind (arith, no, l.2))
    go (Some k) h = (edge_at edges k, choice_of edges spot label v k h)

-- each choice leads to an earlier row, so the links come to an end
links_back : (edges : List Edge) (n : ℕ) (spot label : ℕ → ℕ) → AreForward n spot edges → AreEnded edges label → (m v : ℕ) → spot v < m → (links : List Edge) × IsBuilt edges spot label v links
links_back edges n spot label h ended zero v lt = absurd (omega (arith, lt))
links_back edges n spot label h ended (suc m) v lt = elim (cases_lt 0 (label v)) [
  | inr none ↦ (let e : label v ≡ 0 = omega (arith, none) in ([], e))
  | inl above ↦
      (let c = chosen edges spot label v ended above in
      let e : Edge = c.0 in
      let has : HasEdge edges e = c.1.edge in
      let later : spot e.from < spot e.to = subst (λ (x : Edge). spot x.from < spot x.to) has.2 (h.forward has.0 has.1).later in
      let to : e.to ≡ v = ends_there label v e c.1.last in
      let r = links_back edges n spot label h ended m e.from (omega (arith, lt, later, ap spot to)) in
      (e ∷ r.0, (above, c.1, r.1)))
]

-- of the first m rows of an order, at least one, the first with the greatest label
record IsTop (order : List ℕ) (label : ℕ → ℕ) (m p : ℕ) : Type 0 where
  place : p < m
  most : (k : ℕ) → k < m → label (slice_index order k) ≤ label (slice_index order p)
  first : (k : ℕ) → k < p → label (slice_index order k) < label (slice_index order p)

top : (order : List ℕ) (label : ℕ → ℕ) (m : ℕ) → (p : ℕ) × IsTop order label (suc m) p
top order label zero = (
  0,
  record {
    place = omega arith;
    most = λ k lt. (let e : 0 ≡ k = omega (arith, lt) in subst (λ i. label (slice_index order i) ≤ label (slice_index order 0)) e (omega arith));
    first = λ k lt. absurd (omega (arith, lt));
  },
)
top order label (suc m) =
    let r = top order label m in
    let p : ℕ = r.0 in
    let n : ℕ = suc m in
    elim (cases_lt (label (slice_index order p)) (label (slice_index order n))) [
      | inl more ↦ (
        n,
        record {
          place = omega arith;
          most = λ k lt. elim (cases_lt k n) [
            | inl low ↦ omega (arith, r.1.most k low, more)
            | inr here ↦ (let e : n ≡ k = omega (arith, lt, here) in subst (λ i. label (slice_index order i) ≤ label (slice_index order n)) e (omega arith))
          ];
          first = λ k lt. omega (arith, r.1.most k lt, more);
        },
      )
      | inr kept ↦ (
        p,
        record {
          place = omega (arith, r.1.place);
          most = λ k lt. elim (cases_lt k n) [
            | inl low ↦ r.1.most k low
            | inr here ↦ (let e : n ≡ k = omega (arith, lt, here) in subst (λ i. label (slice_index order i) ≤ label (slice_index order p)) e kept)
          ];
          first = r.1.first;
        },
      )
    ]

end_exists : (n : ℕ) (order : List ℕ) (label : ℕ → ℕ) → IsOrder n order → 0 < n → (v : ℕ) × IsEnd n (place order) label v
end_exists zero order label is some = absurd (omega (arith, some))
end_exists (suc m) order label is some =
    let r = top order label m in
    let p : ℕ = r.0 in
    let v : ℕ = slice_index order p in
    let row : (u : ℕ) → u < suc m → slice_index order (place order u) ≡ u = λ u lt. place_at order u (omega (arith, is.rows, is.listed u lt)) in
    let at : place order v ≡ p = is.once p r.1.place in (
      v,
      record {
        row = is.below p r.1.place;
        most = λ u lt. subst (λ w. label w ≤ label v) (row u lt) (r.1.most (place order u) (is.listed u lt));
        first = λ u lt same. elim (cases_lt (place order u) p) [
          | inl before ↦ (let less : label u < label v = subst (λ w. label w < label v) (row u lt) (r.1.first (place order u) before) in absurd (omega (arith, less, same)))
          | inr past ↦ omega (arith, past, at)
        ];
      },
    )

pub chain_exists : (g : Graph) → IsGraph g → (c : Chain) × IsCritical g c
chain_exists g is =
    let n : ℕ = g.rows in
    let r = labelled (place g.order) g.edges n is.edges (length g.edges) (omega arith) in
    let labels : List ℕ = r.0 in
    let label : ℕ → ℕ = slice_index labels in
    let grows : Grows g.edges label = r.1.grows in
    let reached : AreReached g.edges label = r.1.last in
    let are : AreLabels n g.edges labels = labels_are g.edges n (place g.order) labels is.edges r.1.rows grows reached in
    elim (cases_lt 0 n) [
      | inr none ↦ (let no_rows : n ≡ 0 = omega (arith, none) in (record { links = []; cost = 0; labels = labels }, reported_none n g.order g.edges [] labels no_rows refl is.edges r.1.rows))
      | inl some ↦
          (let end = end_exists n g.order label is.order some in
          let back = links_back g.edges n (place g.order) label is.edges (last_of g.edges label reached) (suc (place g.order end.0)) end.0 (omega arith) in
          (record { links = reverse back.0; cost = label end.0; labels = labels }, reported n g.order g.edges back.0 (reverse back.0) end.0 labels refl is.edges are grows end.1 back.1))
    ]
