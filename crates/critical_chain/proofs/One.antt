-- One chain is the critical sequence of a graph.
use Rattle.std.proofs.Common.{◌≡◌, ℕ, ◌+◌, ◌<◌, inl, inr, List, [], ◌∷◌, arith, refl, sym, ◌∙◌, ap, subst, true, false}
use Rattle.std.specs.Prelude.{slice_index, reverse, nat_eq, nat_lt, ◌&&◌, ◌||◌}
use Rattle.std.proofs.lemmas.Bool.{and_parts, cases_lt}
use Rattle.std.proofs.lemmas.Bool.Decides.{nat_tests}
use Rattle.std.proofs.lemmas.List.{reverse-reverse, ext_get_or}
use Rattle.critical_chain.specs.declared.graph.Edge.{Edge}
use Rattle.critical_chain.specs.declared.graph.Graph.{Graph}
use Rattle.critical_chain.specs.declared.graph.Chain.{Chain}
use Rattle.critical_chain.specs.Graph.{place, cost_of, IsOrder, IsGraph}
use Rattle.critical_chain.specs.Chain.{HasEdge, kind_number, IsChoice, IsBuilt, IsEnd, IsLabel, AreLabels, IsReported, IsCritical}
use Rattle.critical_chain.proofs.Orders.{same_place}
use Rattle.critical_chain.proofs.Founds.{same_kind}

-- a row has one label
one_label : (edges : List Edge) (v m n : ℕ) → IsLabel edges v m → IsLabel edges v n → m ≡ n
one_label edges v m n a b =
    omega (arith, a.reached.3, b.reached.3, b.most a.reached.0 a.reached.1 a.reached.2, a.most b.reached.0 b.reached.1 b.reached.2)

one_labels : (n : ℕ) (edges : List Edge) (a b : List ℕ) → AreLabels n edges a → AreLabels n edges b → a ≡ b
one_labels n edges a b is other = ext_get_or 0 a b (omega (arith, is.rows, other.rows)) (λ i lt. let low : i < n = omega (arith, lt, is.rows) in one_label edges i (slice_index a i) (slice_index b i) (is.each i low) (other.each i low))

-- of two edges to a row neither of which goes before the other each starts where the other does, and has its kind
unordered : (a b p q : ℕ) → (nat_lt a b || (nat_eq a b && nat_lt p q)) ≡ false → (nat_lt b a || (nat_eq b a && nat_lt q p)) ≡ false → (a ≡ b) × (p ≡ q)
unordered a b p q h k = (grind (arith, nat_tests), grind (arith, nat_tests))

one_choice : (n : ℕ) (order : List ℕ) (edges : List Edge) (label : ℕ → ℕ) (v : ℕ) (x y : Edge) → IsOrder n order → ((e : Edge) → HasEdge edges e → e.from < n)
    → IsChoice edges (place order) label v x → IsChoice edges (place order) label v y → x ≡ y
one_choice n order edges label v x y is within a b =
    let same = unordered (place order x.from) (place order y.from) (kind_number x.kind) (kind_number y.kind) (b.first x a.edge a.last) (a.first y b.edge b.last) in
    let from : x.from ≡ y.from = same_place n order x.from y.from is (within x a.edge) (within y b.edge) same.0 in
    let one : (nat_eq x.to v ≡ true) × (nat_eq (label x.from + x.cost) (label v) ≡ true) = and_parts _ _ a.last in
    let two : (nat_eq y.to v ≡ true) × (nat_eq (label y.from + y.cost) (label v) ≡ true) = and_parts _ _ b.last in
    let to : x.to ≡ y.to = grind (arith, nat_tests, one.0, two.0) in
    let start : label x.from ≡ label y.from = ap label from in
    let cost : x.cost ≡ y.cost = grind (arith, nat_tests, one.1, two.1, start) in
    let kind : x.kind ≡ y.kind = same_kind x.kind y.kind same.1 in
    λ i. record { from = from i; to = to i; kind = kind i; cost = cost i }

one_built : (n : ℕ) (order : List ℕ) (edges : List Edge) (label : ℕ → ℕ) (v : ℕ) (xs ys : List Edge) → IsOrder n order → ((e : Edge) → HasEdge edges e → e.from < n)
    → IsBuilt edges (place order) label v xs → IsBuilt edges (place order) label v ys → xs ≡ ys
one_built n order edges label v [] [] is within a b = refl
one_built n order edges label v [] (y ∷ ys) is within a b = absurd (omega (arith, a, b.0))
one_built n order edges label v (x ∷ xs) [] is within a b = absurd (omega (arith, b, a.0))
one_built n order edges label v (x ∷ xs) (y ∷ ys) is within a b =
    let same : x ≡ y = one_choice n order edges label v x y is within a.1 b.1 in
    let rest : xs ≡ ys = one_built n order edges label x.from xs ys is within a.2 (subst (λ (e : Edge). IsBuilt edges (place order) label e.from ys) (sym same) b.2) in
    λ i. same i ∷ rest i

one_end : (n : ℕ) (order : List ℕ) (label : ℕ → ℕ) (u v : ℕ) → IsOrder n order → IsEnd n (place order) label u → IsEnd n (place order) label v → u ≡ v
one_end n order label u v is a b =
    let label_is : label v ≡ label u = omega (arith, a.most v b.row, b.most u a.row) in
    same_place n order u v is a.row b.row (omega (arith, a.first v b.row label_is, b.first u a.row (sym label_is)))

one_links : (n : ℕ) (order : List ℕ) (edges xs ys : List Edge) (a b : ℕ) (labels others : List ℕ) → IsOrder n order → ((e : Edge) → HasEdge edges e → e.from < n)
    → labels ≡ others → IsReported n order edges xs a labels → IsReported n order edges ys b others → xs ≡ ys
one_links n order edges xs ys a b labels others is within same r s = elim (cases_lt 0 n) [
  | inr none ↦ (let no_rows : n ≡ 0 = omega arith in r.none no_rows ∙ sym (s.none no_rows))
  | inl some ↦
      (let x = r.built some in
      let y = subst (λ l. (v : ℕ) × (IsEnd n (place order) (slice_index l) v) × (IsBuilt edges (place order) (slice_index l) v (reverse ys))) (sym same) (s.built some) in
      let end : y.0 ≡ x.0 = one_end n order (slice_index labels) y.0 x.0 is y.1 x.1 in
      let back : reverse xs ≡ reverse ys = one_built n order edges (slice_index labels) x.0 (reverse xs) (reverse ys) is within x.2 (subst (λ v. IsBuilt edges (place order) (slice_index labels) v (reverse ys)) end y.2) in
      sym (reverse-reverse xs) ∙ ap reverse back ∙ reverse-reverse ys)
]

pub one_chain : (g : Graph) (c d : Chain) → IsGraph g → IsCritical g c → IsCritical g d → c ≡ d
one_chain g c d is r s =
    let within : (e : Edge) → HasEdge g.edges e → e.from < g.rows = λ e has. subst (λ (x : Edge). x.from < g.rows) has.2 (is.edges.forward has.0 has.1).from in
    let labels : c.labels ≡ d.labels = one_labels g.rows g.edges c.labels d.labels r.are_labels s.are_labels in
    let links : c.links ≡ d.links = one_links g.rows g.order g.edges c.links d.links c.cost d.cost c.labels d.labels is.order within labels r s in
    let cost : c.cost ≡ d.cost = r.sum ∙ ap cost_of links ∙ sym s.sum in
    λ i. record { links = links i; cost = cost i; labels = labels i }
