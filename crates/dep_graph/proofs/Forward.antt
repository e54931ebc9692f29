-- The edges of a run lead forward in issue order, are sorted by where they end, and cost little.
use Rattle.std.proofs.Common.{zero, suc, ◌≡◌, ℕ, ◌+◌, ◌-◌, ◌*◌, ◌<◌, ◌≤◌, ◌^◌, inl, inr, arith, refl, sym, ◌∙◌, ap, subst, Bool, true, false, ◌&&◌, List, [], ◌∷◌, ◌++◌, length, take}
use Rattle.std.specs.Prelude.{nat_eq, nat_lt, nat_le, slice_index, Option, Some, None}
use Rattle.std.proofs.lemmas.Bool.{cases_lt, cases_Bool, and_parts, not-true}
use Rattle.std.proofs.lemmas.Bool.Decides.{nat_tests}
use Rattle.std.proofs.lemmas.List.{take_more, take_all, length-append}
use Rattle.std.proofs.lemmas.List.Sums.{sum_by-append}
use Rattle.rv_isa.specs.declared.facts.Kind.{Kind}
use Rattle.rv_isa.specs.declared.facts.Kind.TheVariants.{Plain, Load, Store, Barrier}
use Rattle.unit_sets.specs.Below.{first_from}
use Rattle.cycle_rules.specs.Row.{Input, Table, times, phase}
use Rattle.cycle_rules.specs.Issue.{producer}
use Rattle.cycle_rules.specs.Seen.{key_at, comes_before, has_issued}
use Rattle.cycle_rules.specs.Waits.{earliest, at_issue, operands_at, memory_at, register_wait, memory_wait, resource_wait}
use Rattle.cycle_rules.specs.declared.bound.Source.{Source}
use Rattle.cycle_rules.specs.declared.times.Times.{Times}
use Rattle.critical_chain.specs.Graph.{place, IsForward, AreForward, edge_at, no_edge, cost_of}
use Rattle.critical_chain.specs.declared.graph.Edge.{Edge}
use Rattle.critical_chain.specs.declared.graph.EdgeKind.{EdgeKind}
use Rattle.critical_chain.specs.declared.graph.EdgeKind.TheVariants.{Register, Memory, Resource}
use Rattle.dep_graph.specs.Blamed.{is_before, edge_of, edges_to, edges_along, register_blamed, memory_blamed, resource_blamed, holds_up, holder_of, holds_unit}
use Rattle.dep_graph.specs.PassTimes.{read_time, reads_time, let_go, pass_time}
use Rattle.dep_graph.specs.Peaks.{late_in, IsWait}
use Rattle.dep_graph.specs.RunGraph.{IsIssueOrder}
use Rattle.dep_graph.specs.Taking.{wait_edge}
use Rattle.dep_graph.specs.Walk.{IsSoundRun}
use Rattle.dep_graph.specs.declared.waits.Wait.{Wait}
use Rattle.dep_graph.proofs.Along.{before_place}
use Rattle.dep_graph.proofs.Blames.{last_there}
use Rattle.dep_graph.proofs.Peaked.{below_max}
use Rattle.dep_graph.proofs.Pushed.{all_pushed}
use Rattle.dep_graph.proofs.Reading.{absent_late, producer_older}
use Rattle.dep_graph.proofs.Runs.{AreRows}
use Rattle.dep_graph.proofs.Timed.{issue_seen, reads_le, passes_le, passes_seen, waits_sum, issued}
use Rattle.dep_graph.proofs.Walks.{issue_early}

-- Edges as they are kept

pub edge_wait : (kind : EdgeKind) (j cycles : ℕ) (blamed : Option ℕ) (wait : Wait) → IsWait cycles blamed wait → edge_of kind cycles j blamed ≡ wait_edge kind j wait
edge_wait kind j zero blamed wait h = let e : nat_eq wait.cycles 0 ≡ true = (let z : wait.cycles ≡ 0 = h.is in grind (arith, nat_tests, z)) in rw e refl
edge_wait kind j (suc n) blamed wait h =
    let some : 0 < wait.cycles = omega (arith, h.is) in
    let e : nat_eq wait.cycles 0 ≡ false = grind (arith, nat_tests, some) in
    rw e (ap (edge_of kind (suc n) j) (h.row_is some) ∙ (λ i. record { from = wait.row; to = j; kind = kind; cost = sym h.is i } ∷ []))

joined : {X : Type 0} (xs ys zs : List X) → (xs ++ ys) ++ zs ≡ xs ++ (ys ++ zs)
joined [] ys zs = refl
joined (x ∷ xs) ys zs = ap (λ l. x ∷ l) (joined xs ys zs)

nil : {X : Type 0} (xs : List X) → xs ++ [] ≡ xs
nil [] = refl
nil (x ∷ xs) = ap (λ l. x ∷ l) (nil xs)

along_append : (g : Input) (t : Table) (xs : List ℕ) (j : ℕ) → edges_along g t (xs ++ j ∷ []) ≡ edges_along g t xs ++ edges_to g t j
along_append g t [] j = nil (edges_to g t j)
along_append g t (x ∷ xs) j = ap (λ l. edges_to g t x ++ l) (along_append g t xs j) ∙ sym (joined (edges_to g t x) (edges_along g t xs) (edges_to g t j))

pub along_more : (g : Input) (t : Table) (order : List ℕ) (q : ℕ) → q < length order → edges_along g t (take (q + 1) order) ≡ edges_along g t (take q order) ++ edges_to g t (slice_index order q)
along_more g t order q lt = ap (edges_along g t) (take_more order q 0 lt) ∙ along_append g t (take q order) (slice_index order q)

pub three_pushed : (g : Input) (t : Table) (j : ℕ) (xs a b c : List Edge) → a ≡ edge_of Register (register_wait g t j) j (register_blamed g t j) → b ≡ edge_of Memory (memory_wait g t j) j (memory_blamed g t j) → c ≡ edge_of Resource (resource_wait g t j) j (resource_blamed g t j)
    → ((xs ++ a) ++ b) ++ c ≡ xs ++ edges_to g t j
three_pushed g t j xs a b c ea eb ec = joined (xs ++ a) b c ∙ joined xs a (b ++ c) ∙ ap (λ l. xs ++ l) (sym (joined a b c)) ∙ (λ i. xs ++ ((ea i ++ eb i) ++ ec i))

-- The blamed row issues before

late_low : (g : Input) (t : Table) (j time k : ℕ) (reads : List Source) → 0 < time → late_in g t j time reads ≡ Some k → (k < j) × ((t k).issue ≤ reads_time g t j reads)
late_low g t j time k [] some is = absurd (cc)
late_low g t j time k (s ∷ rest) some is = elim (cases_Bool (nat_lt (read_time g t j s) time)) [
  | inl low ↦ (let more : late_in g t j time rest ≡ Some k = rw low at is in let r = late_low g t j time k rest some more in (r.0, omega (arith, r.1)))
  | inr late ↦
      (let made : producer g j s.reg ≡ Some k = rw late at is in
      let far : time ≤ read_time g t j s = grind (arith, nat_tests, late) in
      (producer_older g j s.reg k made, omega (arith, read_low g t j k s made (omega (arith, far, some)))))
]
  where
    read_low : (g : Input) (t : Table) (j k : ℕ) (s : Source) → producer g j s.reg ≡ Some k → 0 < read_time g t j s → (t k).issue ≤ read_time g t j s
    read_low g t j k s made some = elim (cases_Bool (nat_eq s.reg 0)) [
      | inl zero_ ↦ absurd (let none : read_time g t j s ≡ 0 = rw zero_ refl in omega (arith, none, some))
      | inr other ↦ rw (other, made) (omega arith)
    ]

seen_before : (g : Input) (t : Table) (j k : ℕ) → AreRows g t → j < g.rows → k < j → (t k).issue ≤ (t j).issue → is_before g t k j ≡ true
seen_before g t j k rows lt older le =
    let seen : has_issued g t k (t j).issue (phase (g.row j)) j ≡ true = issue_seen g t j k (t j).issue rows lt older (issued g t j (rows j lt)).1 ∙ (let e : nat_le (t k).issue (t j).issue ≡ true = grind (arith, nat_tests, le) in e) in
    (and_parts _ _ seen).1

register_before : (g : Input) (t : Table) (j k : ℕ) → AreRows g t → j < g.rows → 0 < register_wait g t j → register_blamed g t j ≡ Some k → (is_before g t k j ≡ true) × (k < g.rows)
register_before g t j k rows lt some is =
    let low = waits_sum g t j rows lt in
    let at : earliest g t j ≤ operands_at g t j - 1 = omega (arith, some) in
    let late : late_in g t j (operands_at g t j - 1 + 1) (g.row j).reads ≡ Some k = sym (absent_late g t j (operands_at g t j - 1) (g.row j).reads rows lt at) ∙ is in
    let r = late_low g t j (operands_at g t j - 1 + 1) k (g.row j).reads (omega arith) late in
    (seen_before g t j k rows lt r.0 (omega (arith, r.1, reads_le g t j rows lt)), omega (arith, r.0, lt))

first_there : (a n : ℕ) (p : ℕ → Bool) (u : ℕ) → first_from a n p ≡ Some u → (p u ≡ true) × (u < a + n)
unfolding first_from
first_there a zero p u is = absurd (cc)
first_there a (suc n) p u is = elim (cases_Bool (p a)) [
  | inl on ↦ (let here : Some a ≡ Some u = rw on at is in let e : a ≡ u = cc in (subst (λ x. p x ≡ true) e on, omega (arith, e)))
  | inr off ↦ (let more : first_from (a + 1) n p ≡ Some u = rw off at is in let r = first_there (a + 1) n p u more in (r.0, omega (arith, r.1)))
]

go_low : (a b : Kind) (na f : Bool) (i w : ℕ) → i ≤ w → 0 < let_go a b na f i w → i ≤ let_go a b na f i w
go_low Plain b na f i w le some = absurd (omega (arith, some))
go_low Load Plain na f i w le some = absurd (omega (arith, some))
go_low Store Plain na f i w le some = absurd (omega (arith, some))
go_low Barrier Plain na f i w le some = absurd (omega (arith, some))
go_low Load Load na true i w le some = omega arith
go_low Load Load na false i w le some = absurd (omega (arith, some))
go_low Load Store true f i w le some = absurd (omega (arith, some))
go_low Load Store false f i w le some = omega (arith, le)
go_low Load Barrier na f i w le some = omega (arith, le)
go_low Store Load na f i w le some = omega arith
go_low Store Store na f i w le some = omega arith
go_low Store Barrier na f i w le some = omega (arith, le)
go_low Barrier Load na f i w le some = omega (arith, le)
go_low Barrier Store na f i w le some = omega (arith, le)
go_low Barrier Barrier na f i w le some = omega (arith, le)

memory_before : (g : Input) (t : Table) (j k : ℕ) → AreRows g t → j < g.rows → 0 < memory_wait g t j → memory_blamed g t j ≡ Some k → (is_before g t k j ≡ true) × (k < g.rows)
memory_before g t j k rows lt some is =
    let low = waits_sum g t j rows lt in
    let c : ℕ = memory_at g t j - 1 in
    let at : earliest g t j ≤ c = omega (arith, some, low.0) in
    let found = first_there 0 j (holds_up g (at_issue g t j c) j c) k is in
    let older : k < j = omega (arith, found.1) in
    let late : nat_le (pass_time g t j k) c ≡ false = sym (passes_seen g t j k c rows lt older at) ∙ not-true _ found.0 in
    let far : c < pass_time g t j k = grind (arith, nat_tests, late) in
    let early = issue_early g t k rows (omega (arith, older, lt)) in
    let from : (t k).issue ≤ pass_time g t j k = go_low (g.row j).kind (g.row k).kind g.machine.limits.no_alias _ (t k).issue (t k).complete early.2 (omega (arith, far)) in
    (seen_before g t j k rows lt older (omega (arith, from, below_max j k (pass_time g t j) older, passes_le g t j rows lt)), omega (arith, older, lt))

key_later : (b q k x p j : ℕ) → 0 < x → comes_before (key_at b q k) (key_at (x - 1) p j) ≡ true → comes_before (key_at b q k) (key_at x p j) ≡ true
unfolding comes_before
key_later b q k x p j some h = grind (arith, nat_tests, some, h)

resource_before : (g : Input) (t : Table) (j k : ℕ) → AreRows g t → j < g.rows → 0 < resource_wait g t j → resource_blamed g t j ≡ Some k → (is_before g t k j ≡ true) × (k < g.rows)
resource_before g t j k rows lt some is = go _ is
  where
    go : (o : Option ℕ) → holder_of g t j ((t j).issue - 1) o ≡ Some k → (is_before g t k j ≡ true) × (k < g.rows)
    go None e = absurd (cc)
    go (Some r) e =
        let there = last_there g t g.rows (λ k. has_issued g t k ((t j).issue - 1) (phase (g.row j)) j && holds_unit g t r ((t j).issue - 1) k) k e in
        let seen : has_issued g t k ((t j).issue - 1) (phase (g.row j)) j ≡ true = (and_parts _ _ there.1).0 in
        (key_later _ _ _ _ _ _ (omega (arith, some)) (and_parts _ _ seen).1, there.0)

-- Edges one after another

-- what is kept of edges that end at the first places, up to q
pub record AreKept (rows : ℕ) (spot : ℕ → ℕ) (q : ℕ) (edges : List Edge) : Type 0 where
  pub forward : (i : ℕ) → i < length edges → IsForward rows spot (edge_at edges i)
  pub top : (i : ℕ) → i < length edges → spot (edge_at edges i).to ≤ q
  pub sorted : (i k : ℕ) → i ≤ k → k < length edges → spot (edge_at edges i).to ≤ spot (edge_at edges k).to

kept_one : (rows : ℕ) (spot : ℕ → ℕ) (q : ℕ) (edges : List Edge) (e : Edge) → AreKept rows spot q edges → IsForward rows spot e → spot e.to ≡ q → AreKept rows spot q (edges ++ e ∷ [])
kept_one rows spot q edges e h is at =
    let size : length (edges ++ e ∷ []) ≡ length edges + 1 = length-append edges (e ∷ []) in
    let forward : (i : ℕ) → i < length edges + 1 → IsForward rows spot (edge_at (edges ++ e ∷ []) i) = all_pushed (λ n x. IsForward rows spot x) edges e no_edge (length edges) refl h.forward is in
    let top : (i : ℕ) → i < length edges + 1 → spot (edge_at (edges ++ e ∷ []) i).to ≤ q = all_pushed (λ n x. spot x.to ≤ q) edges e no_edge (length edges) refl h.top (omega (arith, at)) in
    let below : (i : ℕ) → i < length edges + 1 → (j : ℕ) → j < length edges → j ≤ i → spot (edge_at edges j).to ≤ spot (edge_at (edges ++ e ∷ []) i).to =
    all_pushed (λ n x. (j : ℕ) → j < length edges → j ≤ n → spot (edge_at edges j).to ≤ spot x.to) edges e no_edge (length edges) refl (λ n lt j lj le. h.sorted j n le lt) (λ j lj le. omega (arith, h.top j lj, at)) in
    let same : (i : ℕ) → i < length edges + 1 → (i < length edges → edge_at (edges ++ e ∷ []) i ≡ edge_at edges i) = all_pushed (λ n x. n < length edges → x ≡ edge_at edges n) edges e no_edge (length edges) refl (λ n lt low. refl) (λ low. absurd (omega (arith, low))) in
    let last : (i : ℕ) → i < length edges + 1 → (length edges ≤ i → edge_at (edges ++ e ∷ []) i ≡ e) = all_pushed (λ n x. length edges ≤ n → x ≡ e) edges e no_edge (length edges) refl (λ n lt past. absurd (omega (arith, lt, past))) (λ past. refl) in
    record {
      forward = λ i lt. forward i (omega (arith, lt, size));
      top = λ i lt. top i (omega (arith, lt, size));
      sorted = λ i k le lt. elim (cases_lt i (length edges)) [
        | inl low ↦ (let s : edge_at (edges ++ e ∷ []) i ≡ edge_at edges i = same i (omega (arith, low)) low in
            subst (λ x. spot x.to ≤ spot (edge_at (edges ++ e ∷ []) k).to) (sym s) (below k (omega (arith, lt, size)) i low le))
        | inr past ↦ (let a : edge_at (edges ++ e ∷ []) i ≡ e = last i (omega (arith, le, lt, size)) past in let b : edge_at (edges ++ e ∷ []) k ≡ e = last k (omega (arith, lt, size)) (omega (arith, past, le)) in
            omega (arith, ap (λ x. spot x.to) a, ap (λ x. spot x.to) b))
      ];
    }

kept_edge : (rows : ℕ) (spot : ℕ → ℕ) (q : ℕ) (edges : List Edge) (kind : EdgeKind) (w j : ℕ) (o : Option ℕ) → AreKept rows spot q edges → j < rows → spot j ≡ q → ((k : ℕ) → 0 < w → o ≡ Some k → (k < rows) × (spot k < spot j)) → AreKept rows spot q (edges ++ edge_of kind w j o)
kept_edge rows spot q edges kind zero j o h lj at blamed = subst (AreKept rows spot q) (sym (nil edges)) h
kept_edge rows spot q edges kind (suc w) j None h lj at blamed = subst (AreKept rows spot q) (sym (nil edges)) h
kept_edge rows spot q edges kind (suc w) j (Some k) h lj at blamed =
    let b = blamed k (omega arith) refl in
    kept_one rows spot q edges (record { from = k; to = j; kind = kind; cost = suc w }) h (record { from = b.0; to = lj; later = b.1 }) at

kept_up : (rows : ℕ) (spot : ℕ → ℕ) (q r : ℕ) (edges : List Edge) → q ≤ r → AreKept rows spot q edges → AreKept rows spot r edges
kept_up rows spot q r edges le h = record { forward = h.forward; top = λ i lt. omega (arith, h.top i lt, le); sorted = h.sorted }

kept_row : (g : Input) (t : Table) (order : List ℕ) (q : ℕ) (edges : List Edge) → IsIssueOrder g t order → AreRows g t → q < g.rows → AreKept g.rows (place order) q edges → AreKept g.rows (place order) q (edges ++ edges_to g t (slice_index order q))
kept_row g t order q edges is rows lt h =
    let j : ℕ = slice_index order q in
    let lj : j < g.rows = is.all.below q lt in
    let at : place order j ≡ q = is.all.once q lt in
    let before : (k : ℕ) → (is_before g t k j ≡ true) × (k < g.rows) → (k < g.rows) × (place order k < place order j) = λ k b. (b.1, (let e : nat_lt (place order k) (place order j) ≡ true = sym (before_place g t order k j is b.1 lj) ∙ b.0 in grind (arith, nat_tests, e))) in
    let one = kept_edge g.rows (place order) q edges Register (register_wait g t j) j (register_blamed g t j) h lj at (λ k some e. before k (register_before g t j k rows lj some e)) in
    let two = kept_edge g.rows (place order) q (edges ++ edge_of Register (register_wait g t j) j (register_blamed g t j)) Memory (memory_wait g t j) j (memory_blamed g t j) one lj at (λ k some e. before k (memory_before g t j k rows lj some e)) in
    let three = kept_edge g.rows (place order) q ((edges ++ edge_of Register (register_wait g t j) j (register_blamed g t j)) ++ edge_of Memory (memory_wait g t j) j (memory_blamed g t j)) Resource (resource_wait g t j) j (resource_blamed g t j) two lj at (λ k some e. before k (resource_before g t j k rows lj some e)) in
    subst (AreKept g.rows (place order) q) (three_pushed g t j edges _ _ _ refl refl refl) three

kept_all : (g : Input) (t : Table) (order : List ℕ) (q : ℕ) → IsIssueOrder g t order → AreRows g t → q ≤ g.rows → AreKept g.rows (place order) q (edges_along g t (take q order))
kept_all g t order zero is rows le = record { forward = λ i lt. absurd (omega (arith, lt)); top = λ i lt. absurd (omega (arith, lt)); sorted = λ i k l lt. absurd (omega (arith, lt)) }
kept_all g t order (suc q) is rows le =
    let e : q + 1 ≡ suc q = omega arith in
    let rest : AreKept g.rows (place order) q (edges_along g t (take q order)) = kept_all g t order q is rows (omega (arith, le)) in
    let more : AreKept g.rows (place order) q (edges_along g t (take q order) ++ edges_to g t (slice_index order q)) = kept_row g t order q (edges_along g t (take q order)) is rows (omega (arith, le)) rest in
    kept_up g.rows (place order) q (suc q) (edges_along g t (take (suc q) order)) (omega arith)
    (subst (λ n. AreKept g.rows (place order) q (edges_along g t (take n order))) e (subst (AreKept g.rows (place order) q) (sym (along_more g t order q (omega (arith, le, is.all.rows)))) more))

-- Costs

edge_cost : (kind : EdgeKind) (w j : ℕ) (o : Option ℕ) → cost_of (edge_of kind w j o) ≤ w
edge_cost kind zero j o = omega arith
edge_cost kind (suc w) j None = omega arith
edge_cost kind (suc w) j (Some k) = omega arith

row_cost : (g : Input) (t : Table) (j : ℕ) → AreRows g t → j < g.rows → cost_of (edges_to g t j) ≤ (t j).issue
row_cost g t j rows lt =
    let a : List Edge = edge_of Register (register_wait g t j) j (register_blamed g t j) in
    let b : List Edge = edge_of Memory (memory_wait g t j) j (memory_blamed g t j) in
    let c : List Edge = edge_of Resource (resource_wait g t j) j (resource_blamed g t j) in
    let low = waits_sum g t j rows lt in
    let split : cost_of ((a ++ b) ++ c) ≡ cost_of (a ++ b) + cost_of c = sum_by-append (λ (e : Edge). e.cost) (a ++ b) c in
    let more : cost_of (a ++ b) ≡ cost_of a + cost_of b = sum_by-append (λ (e : Edge). e.cost) a b in
    let ca : cost_of a ≤ register_wait g t j = edge_cost Register (register_wait g t j) j (register_blamed g t j) in
    let cb : cost_of b ≤ memory_wait g t j = edge_cost Memory (memory_wait g t j) j (memory_blamed g t j) in
    let cc_ : cost_of c ≤ resource_wait g t j = edge_cost Resource (resource_wait g t j) j (resource_blamed g t j) in
    omega (arith, split, more, ca, cb, cc_, low.0, low.1, low.2)

all_cost : (g : Input) (t : Table) (order : List ℕ) (q bound : ℕ) → IsIssueOrder g t order → AreRows g t → ((j : ℕ) → j < g.rows → (t j).issue ≤ bound) → q ≤ g.rows → cost_of (edges_along g t (take q order)) ≤ q * bound
all_cost g t order zero bound is rows early le = omega arith
all_cost g t order (suc q) bound is rows early le =
    let e : q + 1 ≡ suc q = omega arith in
    let j : ℕ = slice_index order q in
    let lj : j < g.rows = is.all.below q (omega (arith, le)) in
    let rest : cost_of (edges_along g t (take q order)) ≤ q * bound = all_cost g t order q bound is rows early (omega (arith, le)) in
    let split : cost_of (edges_along g t (take q order) ++ edges_to g t j) ≡ cost_of (edges_along g t (take q order)) + cost_of (edges_to g t j) = sum_by-append (λ (e : Edge). e.cost) (edges_along g t (take q order)) (edges_to g t j) in
    let whole : cost_of (edges_along g t (take (suc q) order)) ≡ cost_of (edges_along g t (take q order) ++ edges_to g t j) = ap (λ n. cost_of (edges_along g t (take n order))) (sym e) ∙ ap cost_of (along_more g t order q (omega (arith, le, is.all.rows))) in
    omega (arith, whole, split, rest, row_cost g t j rows lj, early j lj)

all_rows : {X : Type 0} (n : ℕ) (xs : List X) → length xs ≡ n → take n xs ≡ xs
all_rows n xs size = take_all n xs (omega (arith, size))

pub edges_forward : (g : Input) (t : Table) (order : List ℕ) → IsIssueOrder g t order → AreRows g t → AreForward g.rows (place order) (edges_along g t order)
edges_forward g t order is rows =
    let kept : AreKept g.rows (place order) g.rows (edges_along g t order) = subst (λ l. AreKept g.rows (place order) g.rows (edges_along g t l)) (all_rows g.rows order is.all.rows) (kept_all g t order g.rows is rows (omega arith)) in
    record { forward = kept.forward; sorted = kept.sorted }

pub edges_low : (g : Input) (table : List Times) (order : List ℕ) → IsIssueOrder g (times table) order → IsSoundRun g table → cost_of (edges_along g (times table) order) < 2 ^ 64
edges_low g table order is run =
    let t : Table = times table in
    let bound : ℕ = 2199023255552 in
    let early : (j : ℕ) → j < g.rows → (t j).issue ≤ bound = λ j lt. (let at = issue_early g t j run.run.each lt in omega (arith, at.1, at.2, run.early j lt)) in
    let cost : cost_of (edges_along g t order) ≤ g.rows * bound = subst (λ l. cost_of (edges_along g t l) ≤ g.rows * bound) (all_rows g.rows order is.all.rows) (all_cost g t order g.rows bound is run.run.each early (omega arith)) in
    omega (arith, cost, run.few)
