-- Which rows have issued when a row looks for units in vain, in issue order.
use Rattle.std.proofs.Common.{◌≡◌, ℕ, ◌+◌, ◌-◌, ◌<◌, ◌≤◌, inl, inr, arith, refl, sym, ◌∙◌, subst, Bool, true, false, ◌&&◌, List, [], ◌∷◌, ◌++◌}
use Rattle.std.specs.Prelude.{nat_eq, nat_lt, slice_index, Option, Some, None}
use Rattle.std.specs.List.{list_all}
use Rattle.std.proofs.lemmas.Bool.{cases_lt, cases_eq, cases_Bool, and_parts, false≢true}
use Rattle.std.proofs.lemmas.Bool.Decides.{nat_tests}
use Rattle.machine_model.specs.Meaning.{MachineMeaning}
use Rattle.machine_model.specs.declared.facts.Use.{Use}
use Rattle.cycle_rules.specs.Row.{Input, Table, phase}
use Rattle.cycle_rules.specs.Pick.{Taken, pick_unit}
use Rattle.cycle_rules.specs.Seen.{key_at, comes_before, has_issued}
use Rattle.critical_chain.specs.Graph.{place}
use Rattle.dep_graph.specs.Blamed.{busy_in, then_try}
use Rattle.dep_graph.specs.Holders.{AreHolders, IsLast, taker_at}
use Rattle.dep_graph.specs.RunGraph.{IsIssueOrder}
use Rattle.dep_graph.specs.Taking.{asks_after, IsReady, AreFirst}
use Rattle.dep_graph.specs.declared.holders.Taker.{Taker}
use Rattle.dep_graph.proofs.Along.{row_of_place}
use Rattle.dep_graph.proofs.Blames.{holder_test, holder_place}
use Rattle.dep_graph.proofs.Holding.{list_all_cons}
use Rattle.dep_graph.proofs.TakenRows.{along_early}

later_key : (i p k x q a y r b : ℕ) → 0 < x → comes_before (key_at x q a) (key_at y r b) ≡ true → comes_before (key_at i p k) (key_at (x - 1) q a) ≡ true → comes_before (key_at i p k) (key_at (y - 1) r b) ≡ true
unfolding comes_before
later_key i p k x q a y r b some h asks = grind (arith, nat_tests, some, h, asks)

earlier_key : (i p k x q a y r b : ℕ) → comes_before (key_at i p k) (key_at x q a) ≡ true → comes_before (key_at x q a) (key_at y r b) ≡ true → comes_before (key_at i p k) (key_at y r b) ≡ true
unfolding comes_before
earlier_key i p k x q a y r b h asks = grind (arith, nat_tests, h, asks)

asks_low : (g : Input) (t : Table) (k j : ℕ) → asks_after g t k j ≡ true → (t k).issue ≤ (t j).issue - 1
unfolding comes_before
asks_low g t k j h = grind (arith, nat_tests, h)

asks_not : (g : Input) (t : Table) (k j : ℕ) → asks_after g t k j ≡ false → (t j).issue - 1 ≤ (t k).issue
unfolding comes_before
asks_not g t k j h = grind (arith, nat_tests, h)

-- the row at a place has taken its units
pub ready_taken : (g : Input) (t : Table) (order : List ℕ) (q i a : ℕ) → IsIssueOrder g t order → q < g.rows → i < g.rows → 0 < (t (slice_index order i)).issue → asks_after g t (slice_index order q) (slice_index order i) ≡ true
    → IsReady g t order q i a → IsReady g t order (q + 1) i (t (slice_index order q)).issue
ready_taken g t order q i a is lq li some asks h = record {
  few = omega (arith, lq);
  ahead = λ p m lt le lm. elim (cases_lt p q) [
    | inl low ↦ h.ahead p m low le lm
    | inr past ↦ (let e : p ≡ q = omega (arith, past, lt) in subst (λ x. asks_after g t (slice_index order x) (slice_index order m) ≡ true) (sym e) (later m le lm))
  ];
  issues = λ m le lm. along_early g t order q m is (omega (arith, le)) lm;
  asks = λ m le lm. asks_low g t (slice_index order q) (slice_index order m) (later m le lm);
}
  where
    later : (m : ℕ) → i ≤ m → m < g.rows → asks_after g t (slice_index order q) (slice_index order m) ≡ true
    later m le lm = elim (cases_eq m i) [
      | inl e ↦ subst (λ x. asks_after g t (slice_index order q) (slice_index order x) ≡ true) (sym e) asks
      | inr ne ↦ later_key _ _ _ _ _ _ _ _ _ some (is.sorted i m (omega (arith, le, ne)) lm) asks
    ]

-- where the row at a place does not issue before, no later one does
none_asks : (g : Input) (t : Table) (order : List ℕ) (q i m : ℕ) → IsIssueOrder g t order → (nat_lt q g.rows && asks_after g t (slice_index order q) (slice_index order i)) ≡ false → q ≤ m → m < g.rows → asks_after g t (slice_index order m) (slice_index order i) ≡ false
none_asks g t order q i m is no_ le lm =
    let low : nat_lt q g.rows ≡ true = (let lt : q < g.rows = omega (arith, le, lm) in grind (arith, nat_tests, lt)) in
    let here : asks_after g t (slice_index order q) (slice_index order i) ≡ false = rw low at no_ in
    elim (cases_eq m q) [
      | inl e ↦ subst (λ x. asks_after g t (slice_index order x) (slice_index order i) ≡ false) (sym e) here
      | inr ne ↦ elim (cases_Bool (asks_after g t (slice_index order m) (slice_index order i))) [
        | inr off ↦ off
        | inl on ↦ absurd (false≢true (sym here ∙ earlier_key _ _ _ _ _ _ _ _ _ (is.sorted q m (omega (arith, le, ne)) lm) on))
      ]
    ]

pub first_of : (g : Input) (t : Table) (order : List ℕ) (q i a : ℕ) → IsIssueOrder g t order → i < g.rows → (nat_lt q g.rows && asks_after g t (slice_index order q) (slice_index order i)) ≡ false → IsReady g t order q i a
    → AreFirst g t order q (phase (g.row (slice_index order i))) (slice_index order i) ((t (slice_index order i)).issue - 1)
first_of g t order q i a is li no_ h k lk =
    let in_run : nat_lt k g.rows ≡ true = grind (arith, nat_tests, lk) in
    let seen : has_issued g t k ((t (slice_index order i)).issue - 1) (phase (g.row (slice_index order i))) (slice_index order i) ≡ asks_after g t k (slice_index order i) = rw in_run refl in
    let back : slice_index order (place order k) ≡ k = row_of_place g t order k is lk in
    let lp : place order k < g.rows = is.all.listed k lk in
    elim (cases_lt (place order k) q) [
      | inl low ↦
          (let yes_ : asks_after g t k (slice_index order i) ≡ true = subst (λ x. asks_after g t x (slice_index order i) ≡ true) back (h.ahead (place order k) i low (omega arith) li) in
          let e : nat_lt (place order k) q ≡ true = grind (arith, nat_tests, low) in seen ∙ yes_ ∙ sym e)
      | inr past ↦
          (let none : asks_after g t k (slice_index order i) ≡ false = subst (λ x. asks_after g t x (slice_index order i) ≡ false) back (none_asks g t order q i (place order k) is no_ past lp) in
          let e : nat_lt (place order k) q ≡ false = grind (arith, nat_tests, past) in seen ∙ none ∙ sym e)
    ]

-- the question of the row at a place has been asked
pub ready_asked : (g : Input) (t : Table) (order : List ℕ) (q i a : ℕ) → IsIssueOrder g t order → i < g.rows → (nat_lt q g.rows && asks_after g t (slice_index order q) (slice_index order i)) ≡ false → IsReady g t order q i a
    → IsReady g t order q (i + 1) ((t (slice_index order i)).issue - 1)
ready_asked g t order q i a is li no_ h = record {
  few = h.few;
  ahead = λ p m lt le lm. h.ahead p m lt (omega (arith, le)) lm;
  issues = λ m le lm. asks_not g t (slice_index order m) (slice_index order i) (none_asks g t order q i m is no_ le lm);
  asks = λ m le lm. omega (arith, along_early g t order i m is (omega (arith, le)) lm);
}

-- the same where the rows that have issued are known
pub ready_first : (g : Input) (t : Table) (order : List ℕ) (q i a : ℕ) → IsIssueOrder g t order → i < g.rows → AreFirst g t order q (phase (g.row (slice_index order i))) (slice_index order i) ((t (slice_index order i)).issue - 1) → IsReady g t order q i a
    → IsReady g t order q (i + 1) ((t (slice_index order i)).issue - 1)
ready_first g t order q i a is li first h = ready_asked g t order q i a is li (none (nat_lt q g.rows) refl) h
  where
    none : (b : Bool) → nat_lt q g.rows ≡ b → (b && asks_after g t (slice_index order q) (slice_index order i)) ≡ false
    none false e = refl
    none true e =
        let lq : q < g.rows = grind (arith, nat_tests, e) in
        let k : ℕ = slice_index order q in
        let lk : k < g.rows = is.all.below q lq in
        let in_run : nat_lt k g.rows ≡ true = grind (arith, nat_tests, lk) in
        let seen : has_issued g t k ((t (slice_index order i)).issue - 1) (phase (g.row (slice_index order i))) (slice_index order i) ≡ asks_after g t k (slice_index order i) = rw in_run refl in
        let not_low : nat_lt (place order k) q ≡ false = (let p : place order k ≡ q = is.all.once q lq in grind (arith, nat_tests, p)) in
        sym seen ∙ first k lk ∙ not_low

pub ready_next : (g : Input) (t : Table) (order : List ℕ) (q i a : ℕ) → IsReady g t order q i a → IsReady g t order q (i + 1) a
ready_next g t order q i a h = record {
  few = h.few;
  ahead = λ p m lt le lm. h.ahead p m lt (omega (arith, le)) lm;
  issues = h.issues;
  asks = λ m le lm. h.asks m (omega (arith, le)) lm;
}

pub holders_later : (g : Input) (t : Table) (order : List ℕ) (q a b : ℕ) (last : List Taker) → a ≤ b → AreHolders g t order q a last → AreHolders g t order q b last
holders_later g t order q a b last le h = record {
  size = h.size;
  latest = λ i u c lt low after holds. h.latest i u c lt low (omega (arith, le, after)) holds;
  real = λ u c lt after soon. h.real u c lt (omega (arith, le, after)) soon;
}

-- the place that is found is one of those that have taken units
pub place_low : (g : Input) (t : Table) (order : List ℕ) (q c r p : ℕ) (last : List Taker) → AreHolders g t order q c last → IsLast g.machine.unit_count (holder_test g last r c) (holder_place last) (Some p) → p < q
place_low g t order q c r p last h found =
    let test : (g.machine.units r found.number ≡ true) × (nat_lt c (taker_at last found.number).until ≡ true) = and_parts _ _ found.passes in
    let soon : c < (taker_at last found.number).until = grind (arith, nat_tests, test.1) in
    omega (arith, (h.real found.number c found.within (omega arith) soon).0, found.at)

-- a resource that is busy is one of the machine's
busy_go : (m : MachineMeaning) (r n : ℕ) (o : Option ℕ) (more : ℕ → Option ℕ) → n < m.resource_count → ((u : ℕ) → more u ≡ Some r → r < m.resource_count) → then_try o n more ≡ Some r → r < m.resource_count
busy_go m r n None more low h is = let e : n ≡ r = cc in omega (arith, e, low)
busy_go m r n (Some u) more low h is = h u is

pub busy_known : (m : MachineMeaning) (earlier : List Taken) (c r : ℕ) (uses : List Use) → list_all (λ w. nat_lt w.resource m.resource_count) uses ≡ true → busy_in m earlier c uses ≡ Some r → r < m.resource_count
unfolding busy_in
busy_known m earlier c r [] known is = absurd (cc)
busy_known m earlier c r (w ∷ rest) known is =
    let parts : (nat_lt w.resource m.resource_count ≡ true) × (list_all (λ (w : Use). nat_lt w.resource m.resource_count) rest ≡ true) = and_parts _ _ (sym (list_all_cons (λ (w : Use). nat_lt w.resource m.resource_count) w rest) ∙ known) in
    let low : w.resource < m.resource_count = grind (arith, nat_tests, parts.0) in
    elim (cases_Bool (nat_eq w.hold 0)) [
      | inl none ↦ (let more : busy_in m earlier c rest ≡ Some r = rw none at is in busy_known m earlier c r rest parts.1 more)
      | inr some ↦ (let more : then_try (pick_unit m earlier c w.resource) w.resource (λ u. busy_in m (earlier ++ record { resource = w.resource; hold = w.hold; unit = u; from = c } ∷ []) c rest) ≡ Some r = rw some at is in
          busy_go m r w.resource (pick_unit m earlier c w.resource) (λ u. busy_in m (earlier ++ record { resource = w.resource; hold = w.hold; unit = u; from = c } ∷ []) c rest) low
          (λ u h. busy_known m (earlier ++ record { resource = w.resource; hold = w.hold; unit = u; from = c } ∷ []) c r rest parts.1 h) more)
    ]
