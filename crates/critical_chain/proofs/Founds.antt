-- Links that are looked for in the order of the edges.
use Rattle.std.proofs.Common.{zero, suc, ◌≡◌, ℕ, ◌+◌, ◌<◌, ◌≤◌, inl, inr, List, [], ◌∷◌, length, take, arith, refl, sym, ◌∙◌, ap, subst}
use Rattle.critical_chain.specs.declared.graph.EdgeKind.{EdgeKind}
use Rattle.critical_chain.specs.declared.graph.EdgeKind.TheVariants.{Register, Memory, Resource}
use Rattle.std.proofs.lemmas.Bool.{cases_lt}
use Rattle.std.proofs.lemmas.List.Sums.{sum_by_more}
use Rattle.critical_chain.specs.declared.graph.Edge.{Edge}
use Rattle.critical_chain.specs.Graph.{no_edge, edge_at, cost_of, AreForward}
use Rattle.critical_chain.specs.Search.{AreJoined}
use Rattle.critical_chain.specs.Chain.{HasEdge, Leads, kind_number}

-- of the links the first n are found among the first k edges, and the next one is not among these
pub record IsFound (edges links : List Edge) (k n cost : ℕ) : Type 0 where
  pub few : n ≤ length links
  pub sum : cost ≡ cost_of (take n links)
  pub low : cost ≤ cost_of (take k edges)
  pub has : (i : ℕ) → i < n → HasEdge edges (edge_at links i)
  pub next : n < length links → (i : ℕ) → i < k → edge_at edges i ≡ edge_at links n → ⊥

pub found_start : (edges links : List Edge) → IsFound edges links 0 0 0
found_start edges links = record { few = omega arith; sum = refl; low = omega arith; has = λ i lt. absurd (omega arith); next = λ _ i lt _. absurd (omega arith) }

pub found_skip : (edges links : List Edge) (k n cost : ℕ) → k < length edges → IsFound edges links k n cost → (n < length links → edge_at edges k ≡ edge_at links n → ⊥) → IsFound edges links (k + 1) n cost
found_skip edges links k n cost lt h other =
    let more : cost_of (take (k + 1) edges) ≡ cost_of (take k edges) + (edge_at edges k).cost = sum_by_more (λ e. e.cost) edges k no_edge lt in
    record {
      few = h.few;
      sum = h.sum;
      low = omega (arith, h.low, more);
      has = h.has;
      next = λ left i low same. elim (cases_lt i k) [ inl before ↦ h.next left i before same | inr here ↦ (let e : i ≡ k = omega arith in other left (subst (λ m. edge_at edges m ≡ edge_at links n) e same)) ];
    }

pub found_more : (rows : ℕ) (spot : ℕ → ℕ) (edges links : List Edge) (k n cost : ℕ) → AreForward rows spot edges → k < length edges → n < length links
    → AreJoined links → IsFound edges links k n cost → edge_at links n ≡ edge_at edges k → IsFound edges links (k + 1) (n + 1) (cost + (edge_at edges k).cost)
found_more rows spot edges links k n cost forward lt left joined h is =
    let more : cost_of (take (k + 1) edges) ≡ cost_of (take k edges) + (edge_at edges k).cost = sum_by_more (λ e. e.cost) edges k no_edge lt in
    let links_more : cost_of (take (n + 1) links) ≡ cost_of (take n links) + (edge_at links n).cost = sum_by_more (λ e. e.cost) links n no_edge left in
    let same_cost : (edge_at links n).cost ≡ (edge_at edges k).cost = ap (λ (e : Edge). e.cost) is in
    record {
      few = omega arith;
      sum = omega (arith, h.sum, links_more, same_cost);
      low = omega (arith, h.low, more);
      has = λ i low. elim (cases_lt i n) [ inl before ↦ h.has i before | inr here ↦ (let e : n ≡ i = omega arith in subst (λ m. HasEdge edges (edge_at links m)) e (k, lt, sym is)) ];
      next = λ within i low same.
          let from : (edge_at edges i).from ≡ (edge_at links (n + 1)).from = ap (λ (e : Edge). e.from) same in
          let to : (edge_at links n).to ≡ (edge_at edges k).to = ap (λ (e : Edge). e.to) is in
          let seam : spot (edge_at edges i).from ≡ spot (edge_at edges k).to = ap spot (from ∙ sym (joined n within) ∙ to) in
          absurd (omega (arith, (forward.forward i (omega arith)).later, forward.sorted i k (omega arith) lt, seam));
    }

after : (i : ℕ) → suc i + 1 ≡ suc (i + 1)
after i = omega arith

-- joined links that are edges are a chain, from the start of the first
pub joined_chain : (edges links : List Edge) → AreJoined links → ((i : ℕ) → i < length links → HasEdge edges (edge_at links i)) → (a : ℕ)
    → (0 < length links → a ≡ (edge_at links 0).from) → (b : ℕ) × (Leads edges a b links)
joined_chain edges [] joined has a start = (a, refl)
joined_chain edges (e ∷ es) joined has a start =
    let rest = joined_chain edges es (λ i lt. subst (λ k. (edge_at es i).to ≡ (edge_at (e ∷ es) k).from) (after i) (joined (suc i) (omega (arith, lt)))) (λ i lt. has (suc i) (omega (arith, lt))) e.to (λ some. joined 0 (omega (arith, some))) in
    (rest.0, (has 0 (omega arith), sym (start (omega arith)), rest.1))

pub chain_has : (edges links : List Edge) (a b : ℕ) → Leads edges a b links → (i : ℕ) → i < length links → HasEdge edges (edge_at links i)
chain_has edges [] a b leads i lt = absurd (omega arith)
chain_has edges (e ∷ es) a b leads zero lt = leads.0
chain_has edges (e ∷ es) a b leads (suc i) lt = chain_has edges es e.to b leads.2 i (omega (arith, lt))

pub chain_joined : (edges links : List Edge) (a b : ℕ) → Leads edges a b links → AreJoined links
chain_joined edges [] a b leads i lt = absurd (omega arith)
chain_joined edges (e ∷ []) a b leads i lt = absurd (omega arith)
chain_joined edges (e ∷ x ∷ es) a b leads zero lt = sym leads.2.1
chain_joined edges (e ∷ x ∷ es) a b leads (suc i) lt = subst (λ k. (edge_at (x ∷ es) i).to ≡ (edge_at (e ∷ x ∷ es) k).from) (sym (after i)) (chain_joined edges (x ∷ es) e.to b leads.2 i (omega (arith, lt)))

-- kinds with one number are one
pub same_kind : (a b : EdgeKind) → kind_number a ≡ kind_number b → a ≡ b
same_kind Register Register h = refl
same_kind Register Memory h = absurd (omega (arith, h))
same_kind Register Resource h = absurd (omega (arith, h))
same_kind Memory Register h = absurd (omega (arith, h))
same_kind Memory Memory h = refl
same_kind Memory Resource h = absurd (omega (arith, h))
same_kind Resource Register h = absurd (omega (arith, h))
same_kind Resource Memory h = absurd (omega (arith, h))
same_kind Resource Resource h = refl
