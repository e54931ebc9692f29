-- The uses that took units, along the issue order: at each key the list that the rules read is that of the rows before it.
use Rattle.std.proofs.Common.{zero, suc, ◌≡◌, ℕ, ◌+◌, ◌<◌, ◌≤◌, ◌⊎◌, inl, inr, arith, refl, sym, ◌∙◌, ap, subst, add-one, Bool, true, false, ◌&&◌, ◌||◌, List, [], ◌∷◌, ◌++◌, length, append_assoc, append-nil}
use Rattle.std.specs.Prelude.{nat_eq, nat_lt, if◌then◌else◌, slice_index}
use Rattle.std.proofs.lemmas.Bool.{cases_lt, cases_eq, cases_Bool, and_parts}
use Rattle.std.proofs.lemmas.Bool.Decides.{nat_tests}
use Rattle.cycle_rules.specs.Row.{Input, Table, Row, phase}
use Rattle.cycle_rules.specs.Pick.{Taken, taken_by, taken_in, taken_below}
use Rattle.cycle_rules.specs.Seen.{key_at, comes_before, has_issued, sees}
use Rattle.cycle_rules.proofs.Rows.{phase_reserved, phase_free}
use Rattle.cycle_rules.proofs.UnitRows.{sees_issue, sees_units, lists_same}
use Rattle.critical_chain.specs.Graph.{place}
use Rattle.dep_graph.specs.Blamed.{is_before}
use Rattle.dep_graph.specs.Holders.{taken_along}
use Rattle.dep_graph.specs.RunGraph.{IsIssueOrder}
use Rattle.dep_graph.specs.Taking.{AreFirst}

-- Places

pub place_back : (xs : List ℕ) (v : ℕ) → place xs v < length xs → slice_index xs (place xs v) ≡ v
unfolding place
place_back [] v lt = absurd (omega (arith, lt))
place_back (x ∷ xs) v lt = elim (cases_Bool (nat_eq x v)) [
  | inl here ↦ (let e : x ≡ v = grind (arith, nat_tests, here) in rw here e)
  | inr other ↦ (let rest : place xs v < length xs = (let low : suc (place xs v) < suc (length xs) = rw other at lt in omega (arith, low)) in rw other (place_back xs v rest))
]

pub row_of_place : (g : Input) (t : Table) (order : List ℕ) (k : ℕ) → IsIssueOrder g t order → k < g.rows → slice_index order (place order k) ≡ k
row_of_place g t order k is lt = place_back order k (omega (arith, is.all.listed k lt, is.all.rows))

before_not : (g : Input) (t : Table) (a b : ℕ) → is_before g t a b ≡ true → is_before g t b a ≡ false
unfolding comes_before
before_not g t a b h = grind (arith, nat_tests, h)

not_before_self : (g : Input) (t : Table) (a : ℕ) → is_before g t a a ≡ false
unfolding comes_before
not_before_self g t a = grind (arith, nat_tests)

-- a row issues before another where its place is before
pub before_place : (g : Input) (t : Table) (order : List ℕ) (a b : ℕ) → IsIssueOrder g t order → a < g.rows → b < g.rows → is_before g t a b ≡ nat_lt (place order a) (place order b)
before_place g t order a b is la lb =
    let pa : slice_index order (place order a) ≡ a = row_of_place g t order a is la in
    let pb : slice_index order (place order b) ≡ b = row_of_place g t order b is lb in
    elim (cases_lt (place order a) (place order b)) [
      | inl lt ↦
          (let h : is_before g t a b ≡ true = (λ i. is_before g t (sym pa i) (sym pb i)) ∙ is.sorted (place order a) (place order b) lt (is.all.listed b lb) in
          let e : nat_lt (place order a) (place order b) ≡ true = grind (arith, nat_tests, lt) in h ∙ sym e)
      | inr ge ↦
          (let e : nat_lt (place order a) (place order b) ≡ false = grind (arith, nat_tests, ge) in
          elim (cases_lt (place order b) (place order a)) [
            | inl lt ↦
                (let h : is_before g t b a ≡ true = (λ i. is_before g t (sym pb i) (sym pa i)) ∙ is.sorted (place order b) (place order a) lt (is.all.listed a la) in
                before_not g t b a h ∙ sym e)
            | inr le ↦
                (let same : a ≡ b = sym pa ∙ ap (slice_index order) (let q : place order a ≡ place order b = omega (arith, ge, le) in q) ∙ pb in
                subst (λ x. is_before g t a x ≡ false) same (not_before_self g t a) ∙ sym e)
          ])
    ]

-- What one row adds

pub added : Input → Table → ℕ → ℕ → ℕ → List Taken
added g t c p k = if nat_eq (phase (g.row k)) p && nat_eq (t k).issue c then taken_by c (g.row k).uses (t k).units else []

none_added : (g : Input) (t : Table) (c p k : ℕ) → (phase (g.row k) ≡ p → (t k).issue ≡ c → ⊥) → added g t c p k ≡ []
unfolding added
none_added g t c p k h = elim (cases_Bool (nat_eq (phase (g.row k)) p)) [
  | inr other ↦ rw other refl
  | inl here ↦ elim (cases_Bool (nat_eq (t k).issue c)) [
    | inr late ↦ rw (here, late) refl
    | inl now_ ↦ absurd (let a : phase (g.row k) ≡ p = grind (arith, nat_tests, here) in let b : (t k).issue ≡ c = grind (arith, nat_tests, now_) in h a b)
  ]
]

added_here : (g : Input) (t : Table) (c p k : ℕ) → phase (g.row k) ≡ p → (t k).issue ≡ c → added g t c p k ≡ taken_by c (g.row k).uses (t k).units
unfolding added
added_here g t c p k e i =
    let one : nat_eq (phase (g.row k)) p ≡ true = grind (arith, nat_tests, e) in
    let two : nat_eq (t k).issue c ≡ true = grind (arith, nat_tests, i) in rw (one, two) refl

added_same : (g : Input) (s t : Table) (c p k : ℕ) → (t k).issue ≡ (s k).issue → (t k).units ≡ (s k).units → added g t c p k ≡ added g s c p k
unfolding added
added_same g s t c p k issue units = λ i. if nat_eq (phase (g.row k)) p && nat_eq (issue i) c then taken_by c (g.row k).uses (units i) else []

in_same : (g : Input) (s t : Table) (c p n : ℕ) → ((k : ℕ) → k < n → added g t c p k ≡ added g s c p k) → taken_in g t c p n ≡ taken_in g s c p n
unfolding taken_in added
in_same g s t c p zero h = refl
in_same g s t c p (suc n) h = λ i. in_same g s t c p n (λ k lt. h k (omega (arith, lt))) i ++ h n (omega arith) i

in_none : (g : Input) (t : Table) (c p n : ℕ) → ((k : ℕ) → k < n → added g t c p k ≡ []) → taken_in g t c p n ≡ []
unfolding taken_in added
in_none g t c p zero h = refl
in_none g t c p (suc n) h = λ i. in_none g t c p n (λ k lt. h k (omega (arith, lt))) i ++ h n (omega arith) i

nil : {X : Type 0} (xs : List X) → xs ++ [] ≡ xs
nil [] = refl
nil (x ∷ xs) = ap (λ l. x ∷ l) (nil xs)

joined : {X : Type 0} (xs ys zs : List X) → (xs ++ ys) ++ zs ≡ xs ++ (ys ++ zs)
joined [] ys zs = refl
joined (x ∷ xs) ys zs = ap (λ l. x ∷ l) (joined xs ys zs)

-- row j adds x, and no row above it adds
in_grows : (g : Input) (s t : Table) (c p j n : ℕ) (x : List Taken) → j < n → ((k : ℕ) → k < j → added g t c p k ≡ added g s c p k) → added g s c p j ≡ [] → added g t c p j ≡ x
    → ((k : ℕ) → j < k → k < n → (added g s c p k ≡ []) × (added g t c p k ≡ [])) → taken_in g t c p n ≡ taken_in g s c p n ++ x
unfolding taken_in added
in_grows g s t c p j zero x lt same before after above = absurd (omega (arith, lt))
in_grows g s t c p j (suc n) x lt same before after above = elim (cases_lt j n) [
  | inl low ↦
      (let rest : taken_in g t c p n ≡ taken_in g s c p n ++ x = in_grows g s t c p j n x low same before after (λ k more less. above k more (omega (arith, less))) in
      let end : (added g s c p n ≡ []) × (added g t c p n ≡ []) = above n low (omega arith) in
      (λ i. rest i ++ end.1 i) ∙ nil (taken_in g s c p n ++ x) ∙ (λ i. sym (nil (taken_in g s c p n)) i ++ x) ∙ (λ i. (taken_in g s c p n ++ sym end.0 i) ++ x))
  | inr last ↦
      (let e : j ≡ n = omega (arith, last, lt) in
      let rest : taken_in g t c p n ≡ taken_in g s c p n = in_same g s t c p n (λ k less. same k (omega (arith, less, e))) in
      let mine : added g s c p n ≡ [] = subst (λ i. added g s c p i ≡ []) e before in
      let theirs : added g t c p n ≡ x = subst (λ i. added g t c p i ≡ x) e after in
      (λ i. rest i ++ theirs i) ∙ (λ i. sym (nil (taken_in g s c p n)) i ++ x) ∙ (λ i. (taken_in g s c p n ++ sym mine i) ++ x))
]

below_same : (g : Input) (s t : Table) (c : ℕ) → ((b p k : ℕ) → b < c → k < g.rows → added g t b p k ≡ added g s b p k) → taken_below g t c ≡ taken_below g s c
unfolding taken_below
below_same g s t zero h = refl
below_same g s t (suc c) h =
    let rest : taken_below g t c ≡ taken_below g s c = below_same g s t c (λ b p k less lk. h b p k (omega (arith, less)) lk) in
    let one : taken_in g t c 1 g.rows ≡ taken_in g s c 1 g.rows = in_same g s t c 1 g.rows (λ k lk. h c 1 k (omega arith) lk) in
    let two : taken_in g t c 2 g.rows ≡ taken_in g s c 2 g.rows = in_same g s t c 2 g.rows (λ k lk. h c 2 k (omega arith) lk) in
    rw (rest, one, two) refl

-- row j issues in cycle c, and no row that comes after it has
record Grows (g : Input) (s t : Table) (c j : ℕ) : Type 0 where
  pub others : (k b p : ℕ) → k < g.rows → (k ≡ j → ⊥) → added g t b p k ≡ added g s b p k
  pub before : (s j).issue ≡ c + 1
  pub issue : (t j).issue ≡ c
  pub later : (k p : ℕ) → k < g.rows → (phase (g.row j) < p) ⊎ ((phase (g.row j) ≡ p) × (j ≤ k)) → added g s c p k ≡ []

below_keeps : (g : Input) (s t : Table) (c j : ℕ) → Grows g s t c j → taken_below g t c ≡ taken_below g s c
below_keeps g s t c j h = below_same g s t c (λ b p k less lk. elim (cases_eq k j) [
  | inr ne ↦ h.others k b p lk ne
  | inl e ↦ subst (λ i. added g t b p i ≡ added g s b p i) (sym e) (none_added g t b p j (λ _ is. omega (arith, is, h.issue, less)) ∙ sym (none_added g s b p j (λ _ is. omega (arith, is, h.before, less))))
])

phase_keeps : (g : Input) (s t : Table) (c j p : ℕ) → Grows g s t c j → (phase (g.row j) ≡ p → ⊥) → taken_in g t c p g.rows ≡ taken_in g s c p g.rows
phase_keeps g s t c j p h other = in_same g s t c p g.rows (λ k lk. elim (cases_eq k j) [
  | inr ne ↦ h.others k c p lk ne
  | inl e ↦ subst (λ i. added g t c p i ≡ added g s c p i) (sym e) (none_added g t c p j (λ is _. other is) ∙ sym (none_added g s c p j (λ is _. other is)))
])

phase_grows : (g : Input) (s t : Table) (c j p : ℕ) → Grows g s t c j → j < g.rows → phase (g.row j) ≡ p → taken_in g t c p g.rows ≡ taken_in g s c p g.rows ++ taken_by c (g.row j).uses (t j).units
phase_grows g s t c j p h lt is = in_grows g s t c p j g.rows (taken_by c (g.row j).uses (t j).units) lt
    (λ k less. h.others k c p (omega (arith, less, lt)) (λ e. omega (arith, e, less)))
    (none_added g s c p j (λ _ e. omega (arith, e, h.before)))
    (added_here g t c p j is h.issue)
    (λ k more lk. let none : added g s c p k ≡ [] = h.later k p lk (inr (is, omega (arith, more))) in (none, h.others k c p lk (λ e. omega (arith, e, more)) ∙ none))

below_next : (g : Input) (t : Table) (c : ℕ) → taken_below g t (c + 1) ≡ taken_below g t c ++ taken_in g t c 1 g.rows ++ taken_in g t c 2 g.rows
unfolding taken_below
below_next g t c = rw add-one refl

phase_cases : (b : Row) → (phase b ≡ 1) ⊎ (phase b ≡ 2)
phase_cases b = elim (cases_Bool b.reserved) [ inl is ↦ inr (phase_reserved b is) | inr free ↦ inl (phase_free b free) ]

joins_one : {X : Type 0} (a b x : List X) → a ++ (b ++ x) ++ [] ≡ (a ++ b ++ []) ++ x
joins_one a b x = simp (append-nil, append_assoc)

joins_two : {X : Type 0} (a b d x : List X) → a ++ b ++ (d ++ x) ≡ (a ++ b ++ d) ++ x
joins_two a b d x = simp (append-nil, append_assoc)

below_grows : (g : Input) (s t : Table) (c j : ℕ) → Grows g s t c j → j < g.rows → taken_below g t (c + 1) ≡ taken_below g s (c + 1) ++ taken_by c (g.row j).uses (t j).units
below_grows g s t c j h lt =
    let x : List Taken = taken_by c (g.row j).uses (t j).units in
    elim (phase_cases (g.row j)) [
      | inl one ↦ (
          let empty : taken_in g s c 2 g.rows ≡ [] = in_none g s c 2 g.rows (λ k lk. h.later k 2 lk (inl (omega (arith, one)))) in
          below_next g t c ∙ rw (below_keeps g s t c j h, phase_grows g s t c j 1 h lt one, phase_keeps g s t c j 2 h (λ e. omega (arith, e, one)), below_next g s c, empty)
          (joins_one (taken_below g s c) (taken_in g s c 1 g.rows) x))
      | inr two ↦ below_next g t c ∙ rw (below_keeps g s t c j h, phase_keeps g s t c j 1 h (λ e. omega (arith, e, two)), phase_grows g s t c j 2 h lt two, below_next g s c)
          (joins_two (taken_below g s c) (taken_in g s c 1 g.rows) (taken_in g s c 2 g.rows) x)
    ]

-- A row issues between its own key and the next

seen_at : (g : Input) (t : Table) (c p j k : ℕ) → k < g.rows → has_issued g t k c p j ≡ comes_before (key_at (t k).issue (phase (g.row k)) k) (key_at c p j)
seen_at g t c p j k lt = let e : nat_lt k g.rows ≡ true = grind (arith, nat_tests, lt) in rw e refl

self_not : (c p j : ℕ) → comes_before (key_at c p j) (key_at c p j) ≡ false
unfolding comes_before
self_not c p j = grind (arith, nat_tests)

self_next : (c p j : ℕ) → comes_before (key_at c p j) (key_at c p (j + 1)) ≡ true
unfolding comes_before
self_next c p j = grind (arith, nat_tests)

other_next : (b q k c p j : ℕ) → (k ≡ j → ⊥) → comes_before (key_at b q k) (key_at c p (j + 1)) ≡ comes_before (key_at b q k) (key_at c p j)
unfolding comes_before
other_next b q k c p j ne = grind (arith, nat_tests, ne)

earlier_phase : (c q k p j : ℕ) → comes_before (key_at c q k) (key_at c p j) ≡ true → (p < q) ⊎ ((p ≡ q) × (j ≤ k)) → ⊥
unfolding comes_before
earlier_phase c q k p j h (inl more) = grind (arith, nat_tests, h, more)
earlier_phase c q k p j h (inr (same, le)) = grind (arith, nat_tests, h, same, le)

issue_seen : (g : Input) (t : Table) (p j c k : ℕ) (b : Bool) → has_issued g t k c p j ≡ b → (sees g t p j c k).issue ≡ (if b then (t k).issue else c + 1)
issue_seen g t p j c k true h = (sees_issue g t p j c k).0 h
issue_seen g t p j c k false h = (sees_issue g t p j c k).1 h

grows_at : (g : Input) (t : Table) (j : ℕ) → j < g.rows → Grows g (sees g t (phase (g.row j)) j (t j).issue) (sees g t (phase (g.row j)) (j + 1) (t j).issue) (t j).issue j
grows_at g t j lt = record {
  others = λ k b q lk ne. added_same g (sees g t p j c) (sees g t p (j + 1) c) b q k (same_issue k lk ne) (same_units k lk ne);
  before = (sees_issue g t p j c j).1 (seen_at g t c p j j lt ∙ self_not c p j);
  issue = (sees_issue g t p (j + 1) c j).0 (seen_at g t c p (j + 1) j lt ∙ self_next c p j);
  later = λ k q lk after. none_added g (sees g t p j c) c q k (λ is here. elim (cases_Bool (has_issued g t k c p j)) [
    | inr not_yet ↦ absurd (omega (arith, (sees_issue g t p j c k).1 not_yet, here))
    | inl there ↦
        (let now_ : (t k).issue ≡ c = sym ((sees_issue g t p j c k).0 there) ∙ here in
        let first : comes_before (key_at (t k).issue (phase (g.row k)) k) (key_at c p j) ≡ true = sym (seen_at g t c p j k lk) ∙ there in
        let at : comes_before (key_at c q k) (key_at c p j) ≡ true = (λ i. comes_before (key_at (sym now_ i) (sym is i) k) (key_at c p j)) ∙ first in
        earlier_phase c q k p j at after)
  ]);
}
  where
    c : ℕ
    c = (t j).issue

    p : ℕ
    p = phase (g.row j)

    same_seen : (k : ℕ) → k < g.rows → (k ≡ j → ⊥) → has_issued g t k c p (j + 1) ≡ has_issued g t k c p j
    same_seen k lk ne = seen_at g t c p (j + 1) k lk ∙ other_next (t k).issue (phase (g.row k)) k c p j ne ∙ sym (seen_at g t c p j k lk)

    same_issue : (k : ℕ) → k < g.rows → (k ≡ j → ⊥) → (sees g t p (j + 1) c k).issue ≡ (sees g t p j c k).issue
    same_issue k lk ne = ap (λ b. if b then (t k).issue else c + 1) (same_seen k lk ne)

    same_units : (k : ℕ) → k < g.rows → (k ≡ j → ⊥) → (sees g t p (j + 1) c k).units ≡ (sees g t p j c k).units
    same_units k lk ne = ap (λ b. if b then (t k).units else []) (same_seen k lk ne)

-- Along the order

none_below : (g : Input) (s : Table) (n : ℕ) → ((k : ℕ) → k < g.rows → n ≤ (s k).issue) → taken_below g s n ≡ []
unfolding taken_below
none_below g s zero h = refl
none_below g s (suc n) h =
    let rest : taken_below g s n ≡ [] = none_below g s n (λ k lk. omega (arith, h k lk)) in
    let one : taken_in g s n 1 g.rows ≡ [] = in_none g s n 1 g.rows (λ k lk. none_added g s n 1 k (λ _ e. omega (arith, e, h k lk))) in
    let two : taken_in g s n 2 g.rows ≡ [] = in_none g s n 2 g.rows (λ k lk. none_added g s n 2 k (λ _ e. omega (arith, e, h k lk))) in
    rw (rest, one, two) refl

none_outside : (g : Input) (t : Table) (k c p j : ℕ) → g.rows ≤ k → has_issued g t k c p j ≡ false
none_outside g t k c p j le = let e : nat_lt k g.rows ≡ false = grind (arith, nat_tests, le) in rw e refl

pub first_before : (g : Input) (t : Table) (order : List ℕ) (q : ℕ) → IsIssueOrder g t order → q < g.rows → AreFirst g t order q (phase (g.row (slice_index order q))) (slice_index order q) (t (slice_index order q)).issue
first_before g t order q is lt k lk =
    let j : ℕ = slice_index order q in
    seen_at g t (t j).issue (phase (g.row j)) j k lk ∙ before_place g t order k j is lk (is.all.below q lt) ∙ ap (nat_lt (place order k)) (is.all.once q lt)

first_next : (g : Input) (t : Table) (order : List ℕ) (q : ℕ) → IsIssueOrder g t order → q < g.rows → AreFirst g t order (q + 1) (phase (g.row (slice_index order q))) (slice_index order q + 1) (t (slice_index order q)).issue
first_next g t order q is lt k lk =
    let j : ℕ = slice_index order q in
    elim (cases_eq k j) [
      | inl e ↦
          (let here : place order k ≡ q = ap (place order) e ∙ is.all.once q lt in
          let low : nat_lt (place order k) (q + 1) ≡ true = grind (arith, nat_tests, here) in
          let at : has_issued g t j (t j).issue (phase (g.row j)) (j + 1) ≡ true = seen_at g t (t j).issue (phase (g.row j)) (j + 1) j (is.all.below q lt) ∙ self_next (t j).issue (phase (g.row j)) j in
          subst (λ x. has_issued g t x (t j).issue (phase (g.row j)) (j + 1) ≡ true) (sym e) at ∙ sym low)
      | inr ne ↦
          (let other : place order k ≡ q → ⊥ = λ h. ne (sym (row_of_place g t order k is lk) ∙ ap (slice_index order) h) in
          seen_at g t (t j).issue (phase (g.row j)) (j + 1) k lk ∙ other_next (t k).issue (phase (g.row k)) k (t j).issue (phase (g.row j)) j ne ∙ sym (seen_at g t (t j).issue (phase (g.row j)) j k lk)
          ∙ first_before g t order q is lt k lk ∙ (let e : nat_lt (place order k) q ≡ nat_lt (place order k) (q + 1) = grind (arith, nat_tests, other) in e))
    ]

low_of : (g : Input) (t : Table) (k c p j : ℕ) → has_issued g t k c p j ≡ true → (t k).issue ≤ c
unfolding comes_before
low_of g t k c p j h =
    let parts : (nat_lt k g.rows ≡ true) × (comes_before (key_at (t k).issue (phase (g.row k)) k) (key_at c p j) ≡ true) = and_parts _ _ h in
    low parts.1
  where
    low : (nat_lt (t k).issue c || (nat_eq (t k).issue c && (nat_lt (phase (g.row k)) p || (nat_eq (phase (g.row k)) p && nat_lt k j)))) ≡ true → (t k).issue ≤ c
    low h = grind (arith, nat_tests, h)

pub along_is : (g : Input) (t : Table) (order : List ℕ) (q p j c : ℕ) → IsIssueOrder g t order → q ≤ g.rows → AreFirst g t order q p j c → taken_along g t order q ≡ taken_below g (sees g t p j c) (c + 1)
along_is g t order zero p j c is le first = sym (none_below g (sees g t p j c) (c + 1) (λ k lk.
    let none : has_issued g t k c p j ≡ false = first k lk ∙ (let e : nat_lt (place order k) 0 ≡ false = grind (arith, nat_tests) in e) in
    omega (arith, (sees_issue g t p j c k).1 none)))
along_is g t order (suc q) p j c is le first =
    let lt : q < g.rows = omega (arith, le) in
    let i : ℕ = slice_index order q in
    let li : i < g.rows = is.all.below q lt in
    let b : ℕ = (t i).issue in
    let v : ℕ = phase (g.row i) in
    let rest : taken_along g t order q ≡ taken_below g (sees g t v i b) (b + 1) = along_is g t order q v i b is (omega (arith, lt)) (first_before g t order q is lt) in
    let grown : taken_below g (sees g t v (i + 1) b) (b + 1) ≡ taken_below g (sees g t v i b) (b + 1) ++ taken_by b (g.row i).uses (sees g t v (i + 1) b i).units = below_grows g (sees g t v i b) (sees g t v (i + 1) b) b i (grows_at g t i li) li in
    let units : (sees g t v (i + 1) b i).units ≡ (t i).units = sees_units g t v (i + 1) b i (seen_at g t b v (i + 1) i li ∙ self_next b v i) in
    let more : suc q ≡ q + 1 = omega arith in
    let same : (k : ℕ) → has_issued g t k b v (i + 1) ≡ has_issued g t k c p j = λ k. elim (cases_lt k g.rows) [
      | inl lk ↦ first_next g t order q is lt k lk ∙ sym (first k lk ∙ ap (nat_lt (place order k)) more)
      | inr out ↦ none_outside g t k b v (i + 1) out ∙ sym (none_outside g t k c p j out)
    ] in
    let issued : has_issued g t i c p j ≡ true = sym (same i) ∙ seen_at g t b v (i + 1) i li ∙ self_next b v i in
    (λ x. rest x ++ taken_by b (g.row i).uses (sym units x)) ∙ sym grown ∙ lists_same g t v p (i + 1) j b c (low_of g t i c p j issued) same
