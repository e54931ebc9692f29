-- Rows that wait, one more of them, and the list of those that are ready.
use Rattle.std.proofs.Common.{inl, inr, suc, ◌≡◌, ◌≢◌, ℕ, ◌+◌, ◌-◌, ◌<◌, Bool, true, false, ◌&&◌, ◌||◌, Option, Some, None, List, [], ◌∷◌, ◌++◌, length, get_or, refl, ap, sym, ◌∙◌, cond, arith, nat_le, nat_lt, nat_eq, length-set, get_or-set_same, get_or-set_other, append-nil}
use Rattle.std.specs.List.{list_all, slice_get}
use Rattle.std.specs.Option.{option_map}
use Rattle.std.proofs.lemmas.List.{map-append, length_push, get_or-take, length-take}
use Rattle.std.proofs.lemmas.List.Sums.{count_by-le-length, sum_by_push}
use Rattle.std.proofs.lemmas.Bool.{cases_Bool, cases_eq}
use Rattle.std.proofs.lemmas.Bool.Decides.{nat_tests}
use Rattle.std.proofs.lemmas.List.Folds.{list_all-append}
use Rattle.std.proofs.lemmas.List.Elements.{filter-append}
use Rattle.machine_model.specs.Meaning.{MachineMeaning}
use Rattle.machine_model.specs.Valid.{no_use}
use Rattle.machine_model.specs.declared.facts.Use.{Use}
use Rattle.node_pool.specs.Pool.{Pool, before_key, list_of, with_list}
use Rattle.node_pool.specs.declared.node.Node.{Node}
use Rattle.cycle_rules.specs.declared.bound.Bound.{Bound}
use Rattle.cycle_rules.specs.Dispatch.{has_room}
use Rattle.issue_queues.specs.Lanes.{lesser}
use Rattle.issue_queues.specs.Waiting.{Waiting, has_entries, name_one, are_below, first_ready, lane_of}
use Rattle.issue_queues.specs.Queues.{node_of, are_above, in_order, in_lane, ready_nodes, AreKept, IsNaming, named}

and-none : (b : Bool) → (b && false) ≡ false
and-none true = refl
and-none false = refl

or-false : (b : Bool) → (b || false) ≡ b
or-false true = refl
or-false false = refl

abbrev pub each_lane : ℕ → Bool
each_lane l = true

-- one lane more
pub lane-more : (from l lane row : ℕ) (passes : ℕ → Bool) → passes l ≡ true → (nat_le from row && (nat_lt lane (l + 1) && passes lane)) ≡ ((nat_le from row && (nat_lt lane l && passes lane)) || (nat_le from row && nat_eq lane l))
lane-more from l lane row passes t = elim (cases_Bool (nat_le from row)) [
  | inl a ↦ elim (cases_eq lane l) [
    | inl e ↦
        let x : nat_lt l (l + 1) ≡ true = grind (arith, nat_tests) in
        let y : nat_lt l l ≡ false = grind (arith, nat_tests) in
        let z : nat_eq l l ≡ true = grind (arith, nat_tests) in
        rw (a, e, x, y, z, t) refl
    | inr n ↦
        let x : nat_lt lane (l + 1) ≡ nat_lt lane l = grind (arith, nat_tests) in
        let z : nat_eq lane l ≡ false = grind (arith, nat_tests) in
        rw (a, x, z, or-false (nat_lt lane l && passes lane)) refl
  ]
  | inr b ↦ rw b refl
]

pub lane-less : (from l lane row : ℕ) (passes : ℕ → Bool) → passes l ≡ false → (nat_le from row && (nat_lt lane (l + 1) && passes lane)) ≡ (nat_le from row && (nat_lt lane l && passes lane))
lane-less from l lane row passes f = elim (cases_eq lane l) [
  | inl e ↦ rw (e, f, and-none (nat_lt l (l + 1)), and-none (nat_lt l l)) refl
  | inr n ↦ let x : nat_lt lane (l + 1) ≡ nat_lt lane l = grind (arith, nat_tests) in rw x refl
]

pub lane-all : (from l lane row : ℕ) (passes : ℕ → Bool) → lane < l → (nat_le from row && (nat_lt lane l && passes lane)) ≡ (nat_le from row && passes lane)
lane-all from l lane row passes h = let x : nat_lt lane l ≡ true = grind (arith, nat_tests) in rw x refl

pub and-true : (b : Bool) → (b && true) ≡ b
and-true true = refl
and-true false = refl

pub lane-none : (from lane row : ℕ) (passes : ℕ → Bool) → (nat_le from row && (nat_lt lane 0 && passes lane)) ≡ false
lane-none from lane row passes = let x : nat_lt lane 0 ≡ false = grind (arith, nat_tests) in rw (x, and-none (nat_le from row)) refl

pub first-none : (p : ℕ → Bool) (rows : List Waiting) → ((row : ℕ) → p row ≡ false) → first_ready p rows ≡ None
first-none p [] h = refl
first-none p (x ∷ rows) h = rw (h x.row) (first-none p rows h)

pub and_both : (x y : Bool) → (x && y) ≡ true → (x ≡ true) × (y ≡ true)
and_both true y h = (refl, h)
and_both false y h = absurd (cc h)

list_all-agree : {X : Type 0} (p q : X → Bool) (xs : List X) (d : X) → ((i : ℕ) → i < length xs → p (get_or xs i d) ≡ q (get_or xs i d)) → list_all p xs ≡ list_all q xs
list_all-agree p q [] d same = refl
list_all-agree p q (x ∷ xs) d same =
    let here : p x ≡ q x = same 0 (omega arith) in
    let there = list_all-agree p q xs d (λ i h. same (suc i) (omega arith)) in
    rw (here, there) refl

-- the test of the entries that are kept is that of the rows
pub entries-told : (m : MachineMeaning) (bounds held lanes : List ℕ) (count : ℕ) (pool : Pool) (rows : List Waiting) (uses : List Use) → AreKept m bounds held lanes count pool rows → ((i : ℕ) → i < length uses → (get_or uses i no_use).resource < m.resource_count) → list_all (λ w. has_room (get_or bounds w.resource 0) (get_or held w.resource 0)) uses ≡ has_entries m rows uses
entries-told m bounds held lanes count pool rows uses kept within =
    list_all-agree _ _ uses no_use (λ i h. rw (kept.bound (get_or uses i no_use).resource (within i h), kept.hold (get_or uses i no_use).resource (within i h)) refl)

-- no more are ready than wait
pub spare-some : (m : MachineMeaning) (bounds held lanes : List ℕ) (count : ℕ) (pool : Pool) (rows : List Waiting) → AreKept m bounds held lanes count pool rows → length rows < m.limits.reorder → 0 < pool.spare
spare-some m bounds held lanes count pool rows kept h =
    let e = count_by-le-length (λ x. x.ready) rows in
    let f = kept.nodes in
    omega arith

-- the lists of a pool after one of them has changed
pub relisted : (pool after : Pool) (l : ℕ) (xs : List Node) (spare n : ℕ) (to : ℕ → List Node) → after ≡ with_list pool l xs spare → l < length pool.lists → xs ≡ to l → ((k : ℕ) → k < n → k ≢ l → list_of pool k ≡ to k) → (k : ℕ) → k < n → list_of after k ≡ to k
relisted pool after l xs spare n to e ll here there k h = elim (cases_eq k l) [
  | inl q ↦ rw (q, e, get_or-set_same pool.lists l xs [] ll) here
  | inr q ↦ rw (e, get_or-set_other pool.lists l k xs [] q) (there k h q)
]

pub same-lists : (pool after : Pool) (l : ℕ) (xs : List Node) (spare : ℕ) → after ≡ with_list pool l xs spare → (length after.lists ≡ length pool.lists) × (after.spare ≡ spare)
same-lists pool after l xs spare e = (rw e (length-set pool.lists l xs), rw e refl)

order-more : (rows : List Waiting) (x : Waiting) → in_order rows ≡ true → are_below x.row rows ≡ true → in_order (rows ++ x ∷ []) ≡ true
order-more [] x order below = refl
order-more (y ∷ rows) x order below =
    let o = and_both (are_above y.row rows) (in_order rows) order in
    let b = and_both (nat_lt y.row x.row) (are_below x.row rows) below in
    let e = order-more rows x o.1 b.1 in
    let a = list_all-append (λ (z : Waiting). nat_lt y.row z.row) rows (x ∷ []) in
    rw (e, a, o.0, b.0) refl

-- the ready rows of one more
ready-more : (p : ℕ → Bool) (rows : List Waiting) (x : Waiting) → ready_nodes p (rows ++ x ∷ []) ≡ ready_nodes p rows ++ cond (x.ready && p x.row) (node_of x ∷ []) []
ready-more p rows x =
    let one : ready_nodes p (x ∷ []) ≡ cond (x.ready && p x.row) (node_of x ∷ []) [] = elim (cases_Bool (x.ready && p x.row)) [ inl t ↦ rw t refl | inr f ↦ rw f refl ] in
    rw (filter-append (λ y. y.ready && p y.row) rows (x ∷ []), map-append, one) refl

-- one more row waits
pub entered : (m : MachineMeaning) (bounds held new lanes : List ℕ) (count : ℕ) (pool after : Pool) (rows : List Waiting) (x : Waiting) → AreKept m bounds held lanes count pool rows → length rows < m.limits.reorder → are_below x.row rows ≡ true → length new ≡ length held → ((r : ℕ) → r < length held → get_or new r 0 ≡ get_or held r 0 + cond (name_one r x.uses) 1 0) → length after.lists ≡ count → ((l : ℕ) → l < count → list_of after l ≡ ready_nodes (in_lane lanes l) (rows ++ x ∷ [])) → after.spare + cond x.ready 1 0 ≡ pool.spare → AreKept m bounds new lanes count after (rows ++ x ∷ [])
entered m bounds held new lanes count pool after rows x kept few below size more lists ready spare =
    record {
      bounds_len = kept.bounds_len;
      held_len = size ∙ kept.held_len;
      bound = kept.bound;
      hold = λ r h.
          let p = more r (let q = kept.held_len in omega arith) in
          let q = kept.hold r h in
          let s = sum_by_push (λ (y : Waiting). cond (name_one r y.uses) 1 0) rows x in
          omega arith;
      order = order-more rows x kept.order below;
      body = kept.body;
      lane = kept.lane;
      lists = lists;
      few = kept.few;
      ready = ready;
      small = kept.small;
      fit = let l = length_push rows x in omega arith;
      nodes =
          let s = sum_by_push (λ (y : Waiting). cond y.ready 1 0) rows x in
          let n = kept.nodes in
          omega arith;
    }

-- the lists with a row that is ready, and with one that is not
pub entered-ready : (m : MachineMeaning) (bounds held lanes : List ℕ) (count : ℕ) (pool after : Pool) (rows : List Waiting) (x : Waiting) → AreKept m bounds held lanes count pool rows → x.ready ≡ true → after ≡ with_list pool (lane_of lanes x.row) (list_of pool (lane_of lanes x.row) ++ node_of x ∷ []) (pool.spare - 1) → (l : ℕ) → l < count → list_of after l ≡ ready_nodes (in_lane lanes l) (rows ++ x ∷ [])
entered-ready m bounds held lanes count pool after rows x kept t e =
    let lane = lane_of lanes x.row in
    let here : nat_eq lane lane ≡ true = grind (arith, nat_tests) in
    relisted pool after lane (list_of pool lane ++ node_of x ∷ []) (pool.spare - 1) count (λ l. ready_nodes (in_lane lanes l) (rows ++ x ∷ [])) e (let a = kept.lane x.row in let b = kept.lists in omega arith) (rw (ready-more (in_lane lanes lane) rows x, t, here, kept.ready lane (kept.lane x.row)) refl) (λ k h n.
    let there : nat_eq lane k ≡ false = grind (arith, nat_tests) in
    rw (ready-more (in_lane lanes k) rows x, t, there, append-nil) (kept.ready k h))

pub entered-unready : (m : MachineMeaning) (bounds held lanes : List ℕ) (count : ℕ) (pool : Pool) (rows : List Waiting) (x : Waiting) → AreKept m bounds held lanes count pool rows → x.ready ≡ false → (l : ℕ) → l < count → list_of pool l ≡ ready_nodes (in_lane lanes l) (rows ++ x ∷ [])
entered-unready m bounds held lanes count pool rows x kept f l h = rw (ready-more (in_lane lanes l) rows x, f, append-nil) (kept.ready l h)

one-more : (k : ℕ) → 1 + k ≡ suc k
one-more k = omega arith

-- the first ready row of a number or more, of those whose number passes
pub found : (from : ℕ) (p : ℕ → Bool) (rows : List Waiting) → option_map (λ (n : Node). n.value) (slice_get (ready_nodes p rows) (before_key from (ready_nodes p rows))) ≡ first_ready (λ row. nat_le from row && p row) rows
found from p [] = refl
found from p (x ∷ rows) =
    let e = found from p rows in
    elim (cases_Bool x.ready) [
      | inl t ↦ elim (cases_Bool (p x.row)) [
        | inl q ↦ elim (cases_Bool (nat_le from x.row)) [ inl a ↦ rw (t, q, a) refl | inr b ↦ rw (t, q, b, one-more) e ]
        | inr q ↦ elim (cases_Bool (nat_le from x.row)) [ inl a ↦ rw (t, q, a) e | inr b ↦ rw (t, q, b) e ]
      ]
      | inr f ↦ elim (cases_Bool (nat_le from x.row && p x.row)) [ inl a ↦ rw (f, a) e | inr b ↦ rw (f, b) e ]
    ]

-- what is read of a lane's list is the first ready row of the lane
pub told : (m : MachineMeaning) (bounds held lanes : List ℕ) (count : ℕ) (pool : Pool) (rows : List Waiting) (from l : ℕ) (r : Option ℕ) → AreKept m bounds held lanes count pool rows → l < count → r ≡ option_map (λ (n : Node). n.value) (slice_get (list_of pool l) (before_key from (list_of pool l))) → r ≡ first_ready (λ row. nat_le from row && in_lane lanes l row) rows
told m bounds held lanes count pool rows from l r kept h e = e ∙ rw (kept.ready l h) (found from (in_lane lanes l) rows)

first-above : (p : ℕ → Bool) (a : ℕ) (rows : List Waiting) (r : Option ℕ) → are_above a rows ≡ true → first_ready p rows ≡ r → lesser (Some a) r ≡ Some a
first-above p a [] r h e = rw (← e) refl
first-above p a (x ∷ rows) r h e =
    let b = and_both (nat_lt a x.row) (are_above a rows) h in
    elim (cases_Bool (p x.row && x.ready)) [
      | inl t ↦
          let f : Some x.row ≡ r = rw t at e in
          let n : nat_lt x.row a ≡ false = grind (arith, nat_tests, b.0) in
          rw (← f, n) refl
      | inr f ↦ first-above p a rows r b.1 (rw f at e)
    ]

first-before : (p : ℕ → Bool) (a : ℕ) (rows : List Waiting) (r : Option ℕ) → are_above a rows ≡ true → first_ready p rows ≡ r → lesser r (Some a) ≡ Some a
first-before p a [] r h e = rw (← e) refl
first-before p a (x ∷ rows) r h e =
    let b = and_both (nat_lt a x.row) (are_above a rows) h in
    elim (cases_Bool (p x.row && x.ready)) [
      | inl t ↦
          let f : Some x.row ≡ r = rw t at e in
          let n : nat_lt a x.row ≡ true = b.0 in
          rw (← f, n) refl
      | inr f ↦ first-before p a rows r b.1 (rw f at e)
    ]

lesser-self : (a : ℕ) → lesser (Some a) (Some a) ≡ Some a
lesser-self a = let n : nat_lt a a ≡ false = grind (arith, nat_tests) in rw n refl

-- a row that is not ready is passed over
skip : (p : ℕ → Bool) (x : Waiting) (rows : List Waiting) → x.ready ≡ false → first_ready p (x ∷ rows) ≡ first_ready p rows
skip p x rows f = elim (cases_Bool (p x.row)) [ inl a ↦ rw (a, f) refl | inr a ↦ rw a refl ]

-- the first row that passes one of two tests
pub first-lesser : (p q both : ℕ → Bool) (rows : List Waiting) → in_order rows ≡ true → ((row : ℕ) → both row ≡ (p row || q row)) → first_ready both rows ≡ lesser (first_ready p rows) (first_ready q rows)
first-lesser p q both [] order same = refl
first-lesser p q both (x ∷ rows) order same =
    let o = and_both (are_above x.row rows) (in_order rows) order in
    let e = first-lesser p q both rows o.1 same in
    elim (cases_Bool x.ready) [
      | inl t ↦ elim (cases_Bool (p x.row)) [
        | inl a ↦ elim (cases_Bool (q x.row)) [
          | inl b ↦ rw (same x.row, a, b, t) (sym (lesser-self x.row))
          | inr b ↦ rw (same x.row, a, b, t) (sym (first-above q x.row rows (first_ready q rows) o.0 refl))
        ]
        | inr a ↦ elim (cases_Bool (q x.row)) [
          | inl b ↦ rw (same x.row, a, b, t) (sym (first-before p x.row rows (first_ready p rows) o.0 refl))
          | inr b ↦ rw (same x.row, a, b) e
        ]
      ]
      | inr f ↦ rw (skip both x rows f, skip p x rows f, skip q x rows f) e
    ]

pub first-same : (p q : ℕ → Bool) (rows : List Waiting) → ((row : ℕ) → p row ≡ q row) → first_ready p rows ≡ first_ready q rows
first-same p q rows same = ap (λ f. first_ready f rows) (λ i row. same row i)

pub named-within : (m : MachineMeaning) (b : Bound) → IsNaming m b → (i : ℕ) → i < length (named b) → (get_or (named b) i no_use).resource < m.resource_count
named-within m b naming i h =
    let l = length-take b.use_count b.uses in
    rw (get_or-take b.use_count b.uses i no_use (omega arith)) (naming.within i (omega arith))
