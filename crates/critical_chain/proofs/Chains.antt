-- What the labels of rows say of chains.
use Rattle.std.proofs.Common.{zero, suc, ◌≡◌, ℕ, ◌+◌, ◌<◌, ◌≤◌, ◌^◌, inl, inr, List, [], ◌∷◌, ◌++◌, length, arith, refl, sym, ◌∙◌, ap, subst, true, false}
use Rattle.std.specs.Prelude.{slice_index, reverse}
use Rattle.std.specs.Prelude.{nat_eq}
use Rattle.std.proofs.lemmas.Bool.{cases_lt, and_parts}
use Rattle.std.proofs.lemmas.Bool.Decides.{nat_tests}
use Rattle.std.proofs.lemmas.List.{get_or_past, reverse-append, reverse-reverse}
use Rattle.std.proofs.lemmas.List.Sums.{sum_by-cons, sum_by_push}
use Rattle.critical_chain.specs.declared.graph.Edge.{Edge}
use Rattle.critical_chain.specs.Graph.{place, edge_at, cost_of, AreForward}
use Rattle.critical_chain.specs.Search.{AreReached, AreEnded}
use Rattle.critical_chain.specs.Chain.{Grows, HasEdge, Leads, IsChain, ends_costliest, goes_first, IsBuilt, IsEnd, AreLabels, IsReported, IsShown}

-- a chain adds its cost to a label that grows along edges
pub chain_grows : (edges : List Edge) (label : ℕ → ℕ) → Grows edges label
    → (a b : ℕ) (links : List Edge) → Leads edges a b links → label a + cost_of links ≤ label b
chain_grows edges label h a b [] leads = let e : label a ≡ label b = ap label leads in omega (arith, e)
chain_grows edges label h a b (e ∷ es) leads =
    let at : label e.from + e.cost ≤ label e.to = subst (λ x. label x.from + x.cost ≤ label x.to) leads.0.2 (h leads.0.0 leads.0.1) in
    let start : label e.from ≡ label a = ap label leads.1 in
    let rest : label e.to + cost_of es ≤ label b = chain_grows edges label h e.to b es leads.2 in
    let sum : cost_of (e ∷ es) ≡ e.cost + cost_of es = sum_by-cons (λ x. x.cost) e es in
    omega (arith, at, start, rest, sum)

pub chain_more : (edges : List Edge) (a b : ℕ) (links : List Edge) (e : Edge) → Leads edges a b links → HasEdge edges e → e.from ≡ b → Leads edges a e.to (links ++ e ∷ [])
chain_more edges a b [] e leads has from = (has, from ∙ sym leads, refl)
chain_more edges a b (x ∷ xs) e leads has from = (leads.0, leads.1, chain_more edges x.to b xs e leads.2 has from)

-- where a label above 0 is that of an edge's start and the edge's cost, a chain costs it
pub reached : (edges : List Edge) (n : ℕ) (spot label : ℕ → ℕ) → AreForward n spot edges
    → AreReached edges label
    → (m v : ℕ) → spot v < m → (a : ℕ) × (links : List Edge) × (Leads edges a v links) × (cost_of links ≡ label v)
reached edges n spot label h last zero v lt = absurd (omega arith)
reached edges n spot label h last (suc m) v lt = elim (cases_lt 0 (label v)) [
  | inr no_wait ↦ (let e : 0 ≡ label v = omega arith in (v, [], refl, e))
  | inl above ↦
      (let l = last v above in
      let e : Edge = edge_at edges l.0 in
      let later : spot e.from < spot v = subst (λ u. spot e.from < spot u) l.2 (h.forward l.0 l.1).later in
      let r = reached edges n spot label h last m e.from (omega (arith, later)) in
      let sum : cost_of (r.1 ++ e ∷ []) ≡ cost_of r.1 + e.cost = sum_by_push (λ x. x.cost) r.1 e in
      let leads : Leads edges r.0 v (r.1 ++ e ∷ []) = subst (λ u. Leads edges r.0 u (r.1 ++ e ∷ [])) l.2 (chain_more edges r.0 e.from r.1 e r.2 (l.0, l.1, refl) refl) in
      let is : cost_of (r.1 ++ e ∷ []) ≡ label v = omega (arith, sum, r.3, l.3) in
      (r.0, r.1 ++ e ∷ [], leads, is))
]

-- what is built backwards from a row leads to it, and costs its label
pub built_leads : (edges : List Edge) (spot label : ℕ → ℕ) (v : ℕ) (links : List Edge) → IsBuilt edges spot label v links → (a : ℕ) × (Leads edges a v (reverse links)) × (cost_of (reverse links) ≡ label v)
built_leads edges spot label v [] built = (let e : 0 ≡ label v = sym built in (v, refl, e))
built_leads edges spot label v (e ∷ es) built =
    let parts : (nat_eq e.to v ≡ true) × (nat_eq (label e.from + e.cost) (label v) ≡ true) = and_parts _ _ built.1.last in
    let to : e.to ≡ v = grind (arith, nat_tests, parts.0) in
    let is : label e.from + e.cost ≡ label v = grind (arith, nat_tests, parts.1) in
    let r = built_leads edges spot label e.from es built.2 in
    let sum : cost_of (reverse es ++ e ∷ []) ≡ cost_of (reverse es) + e.cost = sum_by_push (λ x. x.cost) (reverse es) e in
    let leads : Leads edges r.0 v (reverse es ++ e ∷ []) = subst (λ u. Leads edges r.0 u (reverse es ++ e ∷ [])) to (chain_more edges r.0 e.from (reverse es) e r.1 built.1.edge refl) in
    let costs : cost_of (reverse es ++ e ∷ []) ≡ label v = omega (arith, sum, r.2, is) in
    let turned : reverse es ++ e ∷ [] ≡ reverse (e ∷ es) = sym (reverse-append (e ∷ []) es) in
    (r.0, subst (λ xs. Leads edges r.0 v xs) turned leads, subst (λ xs. cost_of xs ≡ label v) turned costs)

-- a chain that passes its check costs at least as much as any
pub shown : (n : ℕ) (edges links : List Edge) (cost : ℕ) (labels : List ℕ) → IsShown n edges links cost labels → (a b : ℕ) (others : List Edge) → Leads edges a b others → cost_of others ≤ cost
shown n edges links cost labels is a b others leads =
    let most : slice_index labels b ≤ cost = elim (cases_lt b n) [ inl low ↦ is.most b low | inr past ↦ (let e : slice_index labels b ≡ 0 = get_or_past labels b 0 (omega (arith, is.rows)) in omega (arith, e)) ] in
    omega (arith, chain_grows edges (slice_index labels) is.grows a b others leads, most)

-- along a chain, each label is one
pub labels_are : (edges : List Edge) (n : ℕ) (spot : ℕ → ℕ) (labels : List ℕ) → AreForward n spot edges → length labels ≡ n
    → Grows edges (slice_index labels)
    → AreReached edges (slice_index labels)
    → AreLabels n edges labels
labels_are edges n spot labels forward rows grows last = record {
  rows = rows;
  each = λ v lt. record {
    reached = reached edges n spot (slice_index labels) forward last (suc (spot v)) v (omega arith);
    most = λ a links leads. omega (arith, chain_grows edges (slice_index labels) grows a v links leads);
  };
}

-- labels that grow along edges show that the greatest of them is reached by no dearer chain
pub shows : (order : List ℕ) (n : ℕ) (edges links : List Edge) (v : ℕ) (labels : List ℕ) → length labels ≡ n
    → Grows edges (slice_index labels)
    → IsEnd n (place order) (slice_index labels) v → IsChain edges links → slice_index labels v ≡ cost_of links → IsShown n edges links (slice_index labels v) labels
shows order n edges links v labels rows grows end chain sum = record { chain = chain; sum = sum; rows = rows; grows = grows; most = end.most }

-- what the parts of the search give
pub reported : (n : ℕ) (order : List ℕ) (edges back links : List Edge) (v : ℕ) (labels : List ℕ) → links ≡ reverse back → AreForward n (place order) edges → AreLabels n edges labels → Grows edges (slice_index labels)
    → IsEnd n (place order) (slice_index labels) v → IsBuilt edges (place order) (slice_index labels) v back → IsReported n order edges links (slice_index labels v) labels
reported n order edges back links v labels turned forward are grows end built =
    let r = built_leads edges (place order) (slice_index labels) v back built in
    let sum : cost_of links ≡ slice_index labels v = subst (λ xs. cost_of xs ≡ slice_index labels v) (sym turned) r.2 in
    let leads : Leads edges r.0 v links = subst (λ xs. Leads edges r.0 v xs) (sym turned) r.1 in
    record {
      are_labels = are;
      sum = sym sum;
      chain = (r.0, v, leads);
      most = shown n edges links (slice_index labels v) labels (shows order n edges links v labels are.rows grows end (r.0, v, leads) (sym sum));
      built = λ _. (v, end, subst (IsBuilt edges (place order) (slice_index labels) v) (sym (reverse-reverse back) ∙ ap reverse (sym turned)) built);
      none = λ no_rows. absurd (omega (arith, no_rows, end.row));
    }

-- what the labels and the places give of each edge
pub low_of : (n : ℕ) (spot : ℕ → ℕ) (edges : List Edge) (labels : List ℕ) → AreForward n spot edges → length labels ≡ n
    → Grows edges (slice_index labels) → ((v : ℕ) → slice_index labels v ≤ cost_of edges) → cost_of edges < 2 ^ 64
    → (i : ℕ) → i < length edges → ((edge_at edges i).from < length labels) × ((edge_at edges i).to < length labels) × (slice_index labels (edge_at edges i).from + (edge_at edges i).cost < 2 ^ 64)
low_of n spot edges labels forward rows grows bound low i lt =
    (omega (arith, (forward.forward i lt).from, rows), omega (arith, (forward.forward i lt).to, rows), omega (arith, grows i lt, bound (edge_at edges i).to, low))

pub last_of : (edges : List Edge) (label : ℕ → ℕ) → AreReached edges label
    → AreEnded edges label
last_of edges label last v above =
    let l = last v above in
    let to : nat_eq (edge_at edges l.0).to v ≡ true = grind (arith, nat_tests, l.2) in
    let sum : nat_eq (label (edge_at edges l.0).from + (edge_at edges l.0).cost) (label v) ≡ true = grind (arith, nat_tests, l.3) in
    (l.0, l.1, (rw (to, sum) refl))

pub reported_at : (n : ℕ) (order : List ℕ) (edges back links : List Edge) (v cost : ℕ) (labels others : List ℕ) → links ≡ reverse back → cost ≡ slice_index labels v → others ≡ labels
    → AreForward n (place order) edges → AreLabels n edges labels → Grows edges (slice_index labels)
    → IsEnd n (place order) (slice_index labels) v → IsBuilt edges (place order) (slice_index labels) v back → IsReported n order edges links cost others
reported_at n order edges back links v cost labels others turned paid same forward are grows end built =
    let r : IsReported n order edges links (slice_index labels v) labels = reported n order edges back links v labels turned forward are grows end built in
    subst (IsReported n order edges links cost) (sym same) (subst (λ x. IsReported n order edges links x labels) (sym paid) r)

-- the places of rows may be told in another way
built_told : (edges : List Edge) (spot other label : ℕ → ℕ) → ((e : Edge) → HasEdge edges e → spot e.from ≡ other e.from) → (v : ℕ) (links : List Edge) → IsBuilt edges spot label v links → IsBuilt edges other label v links
built_told edges spot other label same v [] built = built
built_told edges spot other label same v (e ∷ es) built =
    let first : (y : Edge) → HasEdge edges y → ends_costliest label v y ≡ true → goes_first other y e ≡ false
    = λ y has last. rw (← same y has, ← same e built.1.edge) (built.1.first y has last) in
    (built.0, record { edge = built.1.edge; last = built.1.last; first = first }, built_told edges spot other label same e.from es built.2)

pub reported_as : (n : ℕ) (order spots : List ℕ) (edges back links : List Edge) (v cost : ℕ) (labels others : List ℕ) → links ≡ reverse back → cost ≡ slice_index labels v → others ≡ labels
    → AreForward n (place order) edges → AreLabels n edges labels
    → Grows edges (slice_index labels)
    → ((u : ℕ) → u < n → slice_index spots u ≡ place order u)
    → IsEnd n (place order) (slice_index labels) v → IsBuilt edges (slice_index spots) (slice_index labels) v back → IsReported n order edges links cost others
reported_as n order spots edges back links v cost labels others turned paid same forward are grows places end built =
    let start : (e : Edge) → HasEdge edges e → slice_index spots e.from ≡ place order e.from = λ e has. places e.from (subst (λ x. x.from < n) has.2 (forward.forward has.0 has.1).from) in
    reported_at n order edges back links v cost labels others turned paid same forward are grows end (built_told edges (slice_index spots) (place order) (slice_index labels) start v back built)

-- what is reported, with labels that grow, passes its check
pub reported_shown : (n : ℕ) (order : List ℕ) (edges links : List Edge) (v cost : ℕ) (labels others : List ℕ) → others ≡ labels → cost ≡ slice_index labels v
    → Grows edges (slice_index labels)
    → IsEnd n (place order) (slice_index labels) v → IsReported n order edges links cost others → IsShown n edges links cost others
reported_shown n order edges links v cost labels others same paid grows end r = record {
  chain = r.chain;
  sum = r.sum;
  rows = r.are_labels.rows;
  grows = rw same grows;
  most = rw (same, paid) end.most;
}

-- no rows
no_chain : (n : ℕ) (order : List ℕ) (edges : List Edge) (a b : ℕ) (others : List Edge) → n ≡ 0 → AreForward n (place order) edges → Leads edges a b others → cost_of others ≤ 0
no_chain n order edges a b [] none forward leads = omega arith
no_chain n order edges a b (e ∷ es) none forward leads = absurd (omega (arith, none, (forward.forward leads.0.0 leads.0.1).from))

pub reported_none : (n : ℕ) (order : List ℕ) (edges links : List Edge) (labels : List ℕ) → n ≡ 0 → links ≡ [] → AreForward n (place order) edges → length labels ≡ n → IsReported n order edges links 0 labels
reported_none n order edges links labels none empty forward rows = record {
  are_labels = record { rows = rows; each = λ v lt. absurd (omega (arith, none, lt)) };
  sum = rw empty refl;
  chain = (0, 0, (rw empty refl));
  most = λ a b others leads. no_chain n order edges a b others none forward leads;
  built = λ some. absurd (omega (arith, none, some));
  none = λ _. empty;
}
