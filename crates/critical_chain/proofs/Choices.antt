-- The edges that are taken, as far as edges are read from the last one back.
use Rattle.std.proofs.Common.{◌≡◌, ◌≢◌, ℕ, ◌+◌, ◌-◌, ◌<◌, ◌≤◌, inl, inr, List, length, arith, refl, sym, ◌∙◌, ap, subst, true, false}
use Rattle.std.specs.Prelude.{Option, Some, None, is_some, ◌&&◌, ◌||◌, nat_eq, nat_lt}
use Rattle.std.proofs.lemmas.Bool.{cases_lt, and_parts}
use Rattle.std.proofs.lemmas.Bool.Decides.{nat_tests}
use Rattle.critical_chain.specs.declared.graph.Edge.{Edge}
use Rattle.critical_chain.specs.Graph.{place, edge_at, IsOrder, AreForward}
use Rattle.critical_chain.specs.Chain.{ends_costliest, goes_first, kind_number, IsChoice}
use Rattle.critical_chain.specs.Search.{IsBest}
use Rattle.critical_chain.proofs.Orders.{same_place}

-- the first of some numbers, or one after
first_or : {P : ℕ → Type 0} (n m : ℕ) → ((i : ℕ) → n + 1 ≤ i → i < m → P i) → P n → (i : ℕ) → n ≤ i → i < m → P i
first_or {P} n m h at i le lt = elim (cases_lt n i) [ inl past ↦ h i (omega (arith, past)) lt | inr here ↦ (let e : n ≡ i = omega arith in subst P e at) ]

pub best_skip : (edges : List Edge) (n : ℕ) (spot label : ℕ → ℕ) (v : ℕ) (o : Option ℕ) → IsBest edges (n + 1) spot label v o → ends_costliest label v (edge_at edges n) ≡ false → IsBest edges n spot label v o
best_skip edges n spot label v None h gone = first_or {P = λ i. ends_costliest label v (edge_at edges i) ≡ false} n (length edges) h gone
best_skip edges n spot label v (Some k) h gone =
    (omega (arith, h.0), h.1, h.2, first_or {P = λ i. ends_costliest label v (edge_at edges i) ≡ true → goes_first spot (edge_at edges i) (edge_at edges k) ≡ false} n (length edges) h.3 (λ is. absurd (grind (arith, is, gone))))

pub best_stay : (edges : List Edge) (n : ℕ) (spot label : ℕ → ℕ) (v k : ℕ) → IsBest edges (n + 1) spot label v (Some k) → goes_first spot (edge_at edges n) (edge_at edges k) ≡ false → IsBest edges n spot label v (Some k)
best_stay edges n spot label v k h later = (omega (arith, h.0), h.1, h.2, first_or {P = λ i. ends_costliest label v (edge_at edges i) ≡ true → goes_first spot (edge_at edges i) (edge_at edges k) ≡ false} n (length edges) h.3 (λ _. later))

lexicographic : (a b c p q r : ℕ) → (nat_lt a b || (nat_eq a b && nat_lt p q)) ≡ true → (nat_lt c b || (nat_eq c b && nat_lt r q)) ≡ false → (nat_lt c a || (nat_eq c a && nat_lt r p)) ≡ false
lexicographic a b c p q r h k = grind (arith, nat_tests)

irreflexive : (a p : ℕ) → (nat_lt a a || (nat_eq a a && nat_lt p p)) ≡ false
irreflexive a p = grind (arith, nat_tests)

-- of two places that differ the kinds say nothing
pub apart : (a b p q : ℕ) → a ≢ b → nat_lt a b ≡ (nat_lt a b || (nat_eq a b && nat_lt p q))
apart a b p q other = let no_eq : nat_eq a b ≡ false = grind (arith, nat_tests, other) in rw no_eq (grind arith)

pub best_new : (edges : List Edge) (n : ℕ) (spot label : ℕ → ℕ) (v : ℕ) (o : Option ℕ) → n < length edges → IsBest edges (n + 1) spot label v o → ends_costliest label v (edge_at edges n) ≡ true
    → ((k : ℕ) → o ≡ Some k → goes_first spot (edge_at edges n) (edge_at edges k) ≡ true) → IsBest edges n spot label v (Some n)
best_new edges n spot label v None lt h is first = (
  omega arith,
  lt,
  is,
  first_or {P = λ i. ends_costliest label v (edge_at edges i) ≡ true → goes_first spot (edge_at edges i) (edge_at edges n) ≡ false} n (length edges)
      (λ i past low t. absurd (grind (arith, t, h i past low)))
      (λ _. irreflexive (spot (edge_at edges n).from) (kind_number (edge_at edges n).kind)),
)
best_new edges n spot label v (Some k) lt h is first = (
  omega arith,
  lt,
  is,
  first_or {P = λ i. ends_costliest label v (edge_at edges i) ≡ true → goes_first spot (edge_at edges i) (edge_at edges n) ≡ false} n (length edges)
      (λ i past low t. lexicographic (spot (edge_at edges n).from) (spot (edge_at edges k).from) (spot (edge_at edges i).from) (kind_number (edge_at edges n).kind) (kind_number (edge_at edges k).kind) (kind_number (edge_at edges i).kind) (first k refl) (h.3 i past low t))
      (λ _. irreflexive (spot (edge_at edges n).from) (kind_number (edge_at edges n).kind)),
)

-- an edge ends no chain at a row to which it does not lead
pub elsewhere : (label : ℕ → ℕ) (v : ℕ) (e : Edge) → e.to ≢ v → ends_costliest label v e ≡ false
elsewhere label v e other = let no_eq : nat_eq e.to v ≡ false = grind (arith, nat_tests, other) in rw no_eq refl

pub ends_there : (label : ℕ → ℕ) (v : ℕ) (e : Edge) → ends_costliest label v e ≡ true → e.to ≡ v
ends_there label v e last = let parts : (nat_eq e.to v ≡ true) × (nat_eq (label e.from + e.cost) (label v) ≡ true) = and_parts _ _ last in grind (arith, nat_tests, parts.0)

-- the edges to one row stand together
together : (order : List ℕ) (edges : List Edge) (i j k : ℕ) → IsOrder (length order) order → AreForward (length order) (place order) edges → i ≤ j → j ≤ k → k < length edges → (edge_at edges i).to ≡ (edge_at edges k).to → (edge_at edges j).to ≡ (edge_at edges k).to
together order edges i j k is h low high lt same =
    let spot : place order (edge_at edges i).to ≡ place order (edge_at edges k).to = ap (place order) same in
    let within : j < length edges = omega (arith, high, lt) in
    same_place (length order) order (edge_at edges j).to (edge_at edges k).to is (h.forward j within).to (h.forward k lt).to (omega (arith, spot, h.sorted i j low within, h.sorted j k high lt))

-- in front of an edge to another row no edge leads to a row to which one behind it does
pub best_all : (order : List ℕ) (edges : List Edge) (n : ℕ) (label : ℕ → ℕ) (v : ℕ) (o : Option ℕ) → IsOrder (length order) order → AreForward (length order) (place order) edges → 0 < n → IsBest edges n (place order) label v o → is_some o ≡ true
    → (edge_at edges (n - 1)).to ≢ v → IsBest edges 0 (place order) label v o
best_all order edges n label v None order_is forward some h is other = absurd (cc)
best_all order edges n label v (Some k) order_is forward some h is other = (
  omega arith,
  h.1,
  h.2,
  λ i _ lt last. elim (cases_lt i n) [
    | inr past ↦ h.3 i past lt last
    | inl before ↦
        (let there : (edge_at edges k).to ≡ v = ends_there label v (edge_at edges k) h.2 in
        let same : (edge_at edges i).to ≡ (edge_at edges k).to = ends_there label v (edge_at edges i) last ∙ sym there in
        absurd (other (together order edges i (n - 1) k order_is forward (omega (arith, before)) (omega (arith, h.0)) h.1 same ∙ there)))
  ],
)

-- no edge from one on leads to the row where that one starts
pub best_next : (edges : List Edge) (rows : ℕ) (spot label : ℕ → ℕ) (k : ℕ) → AreForward rows spot edges → k < length edges → IsBest edges k spot label (edge_at edges k).from None
best_next edges rows spot label k h lt i past low =
    let later : spot (edge_at edges k).from < spot (edge_at edges k).to = (h.forward k lt).later in
    let sorted : spot (edge_at edges k).to ≤ spot (edge_at edges i).to = h.sorted k i past low in
    elsewhere label (edge_at edges k).from (edge_at edges i) (λ same. let e : spot (edge_at edges i).to ≡ spot (edge_at edges k).from = ap spot same in absurd (omega (arith, later, sorted, e)))

pub choice_of : (edges : List Edge) (spot label : ℕ → ℕ) (v k : ℕ) → IsBest edges 0 spot label v (Some k) → IsChoice edges spot label v (edge_at edges k)
choice_of edges spot label v k h = record {
  edge = (k, h.1, refl);
  last = h.2;
  first = λ y has last. subst (λ z. goes_first spot z (edge_at edges k) ≡ false) has.2 (h.3 has.0 (omega arith) has.1 (subst (λ z. ends_costliest label v z ≡ true) (sym has.2) last));
}
