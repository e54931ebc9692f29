-- A run has one critical sequence: its rows have one issue order, so there is one graph of its waits, and that has one costliest chain that is reported.
use Rattle.std.proofs.Common.{zero, suc, ◌≡◌, ◌≢◌, ℕ, ◌<◌, ◌≤◌, inl, inr, List, arith, refl, sym, ◌∙◌, ap, subst, true}
use Rattle.std.specs.Prelude.{slice_index, nat_lt, nat_eq, ◌&&◌, ◌||◌}
use Rattle.std.specs.Prelude.{Option, Some, None}
use Rattle.std.proofs.lemmas.Bool.{cases_lt, cases_eq, false≢true}
use Rattle.std.proofs.lemmas.Bool.Decides.{nat_tests}
use Rattle.std.proofs.lemmas.List.{ext_get_or}
use Rattle.critical_chain.specs.Graph.{place, IsOrder}
use Rattle.critical_chain.specs.Chain.{IsCritical}
use Rattle.critical_chain.specs.declared.graph.Chain.{Chain}
use Rattle.critical_chain.specs.declared.graph.Graph.{Graph}
use Rattle.critical_chain.proofs.Orders.{place_at}
use Rattle.critical_chain.proofs.One.{one_chain}
use Rattle.cycle_rules.specs.Row.{Input, Table, times, phase}
use Rattle.cycle_rules.specs.Seen.{Key, key_at, comes_before}
use Rattle.dep_graph.specs.Blamed.{is_before, edges_along}
use Rattle.dep_graph.specs.RunGraph.{IsIssueOrder, IsGraphOf}
use Rattle.mca_words.specs.declared.options.Options.{Options}
use Rattle.mca_views.specs.Bottleneck.{IsSequence, IsAsked}
use Rattle.mca_views.specs.Shown.{Shown, run_of}

-- of two rows only one is before the other
lexicographic : (a p j b q k : ℕ) → (nat_lt a b || (nat_eq a b && (nat_lt p q || (nat_eq p q && nat_lt j k)))) ≡ true → (nat_lt b a || (nat_eq b a && (nat_lt q p || (nat_eq q p && nat_lt k j)))) ≡ true → ⊥
lexicographic a p j b q k one two = grind (arith, nat_tests, one, two)

not_both : (a b : Key) → comes_before a b ≡ true → comes_before b a ≡ true → ⊥
unfolding comes_before
not_both a b one two = lexicographic a.cycle a.phase a.row b.cycle b.phase b.row one two

-- a row of an order that is not among its first i rows stands further behind
behind : (n : ℕ) (order : List ℕ) (v i : ℕ) → IsOrder n order → v < n → ((k : ℕ) → k < i → slice_index order k ≢ v) → i ≤ place order v
behind n order v i is lt others = elim (cases_lt (place order v) i) [
  | inl low ↦ absurd (others (place order v) low (place_at order v (omega (arith, is.rows, is.listed v lt))))
  | inr far ↦ far
]

-- two issue orders have the same row in each place
same_row : (g : Input) (t : Table) (a b : List ℕ) → IsIssueOrder g t a → IsIssueOrder g t b → (i : ℕ) → i < g.rows → ((k : ℕ) → k < i → slice_index a k ≡ slice_index b k) → slice_index a i ≡ slice_index b i
same_row g t a b one two i lt before = elim (cases_eq (slice_index a i) (slice_index b i)) [
  | inl same ↦ same
  | inr other ↦
      (let x : ℕ = slice_index a i in
      let y : ℕ = slice_index b i in
      let x_low : x < g.rows = one.all.below i lt in
      let y_low : y < g.rows = two.all.below i lt in
      let x_place : place a x ≡ i = one.all.once i lt in
      let y_place : place b y ≡ i = two.all.once i lt in
      -- neither is among the rows before, so each stands behind the other in the other's order
      let x_far : i ≤ place b x = behind g.rows b x i two.all x_low (λ k below same. (let e : place a x ≡ k = ap (place a) (sym (before k below ∙ same)) ∙ one.all.once k (omega (arith, below, lt)) in absurd (omega (arith, e, x_place, below)))) in
      let y_far : i ≤ place a y = behind g.rows a y i one.all y_low (λ k below same. (let e : place b y ≡ k = ap (place b) (sym (sym (before k below) ∙ same)) ∙ two.all.once k (omega (arith, below, lt)) in absurd (omega (arith, e, y_place, below)))) in
      let x_at : slice_index b (place b x) ≡ x = place_at b x (omega (arith, two.all.rows, two.all.listed x x_low)) in
      let y_at : slice_index a (place a y) ≡ y = place_at a y (omega (arith, one.all.rows, one.all.listed y y_low)) in
      let x_more : i ≢ place b x = λ e. other (sym x_at ∙ ap (slice_index b) (sym e)) in
      let y_more : i ≢ place a y = λ e. other (sym (sym y_at ∙ ap (slice_index a) (sym e))) in
      let first : is_before g t x y ≡ true = subst (λ v. is_before g t x v ≡ true) y_at (one.sorted i (place a y) (omega (arith, y_far, y_more)) (one.all.listed y y_low)) in
      let second : is_before g t y x ≡ true = subst (λ v. is_before g t y v ≡ true) x_at (two.sorted i (place b x) (omega (arith, x_far, x_more)) (two.all.listed x x_low)) in
      absurd (not_both (key_at (t x).issue (phase (g.row x)) x) (key_at (t y).issue (phase (g.row y)) y) first second))
]

same_rows : (g : Input) (t : Table) (a b : List ℕ) → IsIssueOrder g t a → IsIssueOrder g t b → (n k : ℕ) → k < n → k < g.rows → slice_index a k ≡ slice_index b k
same_rows g t a b one two zero k low lt = absurd (omega (arith, low))
same_rows g t a b one two (suc n) k low lt = same_row g t a b one two k lt (λ i below. same_rows g t a b one two n i (omega (arith, below, low)) (omega (arith, below, lt)))

pub one_order : (g : Input) (t : Table) (a b : List ℕ) → IsIssueOrder g t a → IsIssueOrder g t b → a ≡ b
one_order g t a b one two = ext_get_or 0 a b (omega (arith, one.all.rows, two.all.rows)) (λ i lt. same_rows g t a b one two (suc i) i (omega arith) (omega (arith, lt, one.all.rows)))

pub one_graph : (g : Input) (t : Table) (a b : Graph) → IsGraphOf g t a → IsGraphOf g t b → a ≡ b
one_graph g t a b one two =
    let rows : a.rows ≡ b.rows = one.rows ∙ sym two.rows in
    let order : a.order ≡ b.order = one_order g t a.order b.order one.order two.order in
    let edges : a.edges ≡ b.edges = one.edges ∙ ap (edges_along g t) order ∙ sym two.edges in
    λ i. record { rows = rows i; order = order i; edges = edges i }

pub one_sequence : (s : Shown) (c d : Chain) → IsSequence s c → IsSequence s d → c ≡ d
one_sequence s c d one two =
    let same : one.graph ≡ two.graph = one_graph (run_of s) (times s.table) one.graph two.graph one.waits two.waits in
    one_chain one.graph c d one.is_graph one.critical (subst (λ (x : Graph). IsCritical x d) (sym same) two.critical)

pub one_asked : (o : Options) (s : Shown) (c d : Option Chain) → IsAsked o s c → IsAsked o s d → c ≡ d
one_asked o s None None one two = refl
one_asked o s None (Some d) one two = absurd (false≢true (sym one ∙ two.0))
one_asked o s (Some c) None one two = absurd (false≢true (sym two ∙ one.0))
one_asked o s (Some c) (Some d) one two = ap Some (one_sequence s c d one.1 two.1)
