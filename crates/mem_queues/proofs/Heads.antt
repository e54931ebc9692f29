-- What is read at the fronts of the lists, and the rows.
use Rattle.std.proofs.Common.{inl, inr, ◌≡◌, ℕ, ◌+◌, ◌<◌, ◌≤◌, Bool, true, false, not, ◌&&◌, ◌||◌, List, [], ◌∷◌, refl, arith, nat_lt, nat_le, nat_eq}
use Rattle.std.specs.List.{list_all, list_any, slice_get}
use Rattle.std.proofs.lemmas.Bool.{cases_Bool}
use Rattle.std.proofs.lemmas.Bool.Decides.{nat_tests}
use Rattle.rv_isa.specs.declared.facts.Kind.{Kind}
use Rattle.rv_isa.specs.declared.facts.Kind.TheVariants.{Plain, Load, Store, Barrier}
use Rattle.node_pool.specs.Pool.{before_key}
use Rattle.node_pool.specs.declared.node.Node.{Node}
use Rattle.cycle_rules.specs.Row.{is_load, is_store, is_barrier}
use Rattle.mem_queues.specs.Order.{MemRow, has_fence, kind_of, waits}
use Rattle.mem_queues.specs.Queues.{in_order, overtakes, keeps_order, waits_as, nodes_of}
use Rattle.mem_queues.specs.Firsts.{starts_at, starts_below, is_upto, is_free}
use Rattle.mem_queues.proofs.Going.{and_both, or-false, and-none, any_before, fenced, are_above, waits-none, waits-above, not-true, one-more}

or_none : (x y : Bool) → (x || y) ≡ false → (x ≡ false) × (y ≡ false)
or_none true y h = absurd (cc h)
or_none false y h = (refl, h)

le-split : (a j : ℕ) → nat_le a j ≡ (nat_lt a j || nat_eq a j)
le-split a j = elim (cases_Bool (nat_lt a j)) [
  | inl l ↦ let e : nat_le a j ≡ true = grind (arith, nat_tests) in rw (l, e) refl
  | inr l ↦ elim (cases_Bool (nat_eq a j)) [
    | inl q ↦ let e : nat_le a j ≡ true = grind (arith, nat_tests) in rw (l, q, e) refl
    | inr n ↦ let e : nat_le a j ≡ false = grind (arith, nat_tests) in rw (l, n, e) refl
  ]
]

any-above : (p : MemRow → Bool) (a j : ℕ) (rows : List MemRow) → are_above a rows ≡ true → j ≤ a + 1 → any_before p j rows ≡ false
any-above p a j [] h l = refl
any-above p a j (x ∷ rows) h l =
    let b = and_both (nat_lt a x.row) (are_above a rows) h in
    let n : nat_lt x.row j ≡ false = grind (arith, nat_tests, b.0) in
    rw (n, and-none (p x)) (any-above p a j rows b.1 l)

-- the first row of a list is below j where any is
pub below-known : (p : MemRow → Bool) (j : ℕ) (rows : List MemRow) → in_order rows ≡ true → starts_below j (nodes_of p rows) ≡ any_before p j rows
below-known p j [] o = refl
below-known p j (x ∷ rows) o =
    let ob = and_both (are_above x.row rows) (in_order rows) o in
    let r = below-known p j rows ob.1 in
    elim (cases_Bool (p x)) [
      | inl t ↦ elim (cases_Bool (nat_lt x.row j)) [
        | inl l ↦ rw (t, l) refl
        | inr l ↦ let z : j ≤ x.row + 1 = grind (arith, nat_tests) in rw (t, l, any-above p x.row j rows ob.0 z) refl
      ]
      | inr f ↦ rw f r
    ]

at-above : (p : MemRow → Bool) (a j : ℕ) (rows : List MemRow) → are_above a rows ≡ true → starts_at j (nodes_of p rows) ≡ true → a < j
at-above p a j [] h s = absurd (cc s)
at-above p a j (x ∷ rows) h s =
    let b = and_both (nat_lt a x.row) (are_above a rows) h in
    elim (cases_Bool (p x)) [
      | inl t ↦ let e : nat_eq x.row j ≡ true = rw t at s in grind (arith, nat_tests, b.0)
      | inr f ↦ at-above p a j rows b.1 (rw f at s)
    ]

-- the first row of a list of a kind has the kind
pub at-kind : (of_kind : Kind → Bool) (j : ℕ) (rows : List MemRow) → in_order rows ≡ true → starts_at j (nodes_of (waits_as of_kind) rows) ≡ true → of_kind (kind_of j rows) ≡ true
at-kind of_kind j [] o s = absurd (cc s)
at-kind of_kind j (x ∷ rows) o s =
    let ob = and_both (are_above x.row rows) (in_order rows) o in
    elim (cases_Bool (waits_as of_kind x)) [
      | inl t ↦ let e : nat_eq x.row j ≡ true = rw t at s in rw e ((and_both (of_kind x.kind) (not x.issued) t).0)
      | inr f ↦
          let s2 = rw f at s in
          let n : nat_eq x.row j ≡ false = let a = at-above (waits_as of_kind) x.row j rows ob.0 s2 in grind (arith, nat_tests) in
          rw n (at-kind of_kind j rows ob.1 s2)
    ]

pub at-below : (j : ℕ) (ns : List Node) → starts_at j ns ≡ true → starts_below j ns ≡ false
at-below j [] s = refl
at-below j (x ∷ ns) s = grind (arith, nat_tests)

waits-here : (j : ℕ) (x : MemRow) (rows : List MemRow) → are_above x.row rows ≡ true → nat_eq x.row j ≡ true → waits j (x ∷ rows) ≡ true → not x.issued ≡ true
waits-here j x rows h q w =
    let none = waits-none x.row j rows h (grind (arith, nat_tests)) in
    rw (q, none, or-false (not x.issued)) at w

-- a row that waits and is not the first of its list stands behind one
pub waits-behind : (of_kind : Kind → Bool) (j : ℕ) (rows : List MemRow) → in_order rows ≡ true → waits j rows ≡ true → of_kind (kind_of j rows) ≡ true → starts_at j (nodes_of (waits_as of_kind) rows) ≡ false → any_before (waits_as of_kind) j rows ≡ true
waits-behind of_kind j [] o w k s = absurd (cc w)
waits-behind of_kind j (x ∷ rows) o w k s =
    let ob = and_both (are_above x.row rows) (in_order rows) o in
    elim (cases_Bool (nat_eq x.row j)) [
      | inl q ↦
          let i = waits-here j x rows ob.0 q w in
          let t : waits_as of_kind x ≡ true = rw (rw q at k, i) refl in
          absurd (let z : true ≡ false = rw (t, q) at s in cc z)
      | inr n ↦
          let later = rw n at w in
          let a = waits-above x.row j rows ob.0 later in
          let l : nat_lt x.row j ≡ true = grind (arith, nat_tests) in
          elim (cases_Bool (waits_as of_kind x)) [
            | inl t ↦ rw (t, l) refl
            | inr f ↦ rw f (waits-behind of_kind j rows ob.1 later (rw n at k) (rw f at s))
          ]
    ]

-- a row of a list from a number on, up to one that is in it
upto-some : (of_kind : Kind → Bool) (a j : ℕ) (rows : List MemRow) → in_order rows ≡ true → waits j rows ≡ true → of_kind (kind_of j rows) ≡ true → a ≤ j → is_upto j (slice_get (nodes_of (waits_as of_kind) rows) (before_key a (nodes_of (waits_as of_kind) rows))) ≡ true
upto-some of_kind a j [] o w k l = absurd (cc w)
upto-some of_kind a j (x ∷ rows) o w k l =
    let ob = and_both (are_above x.row rows) (in_order rows) o in
    elim (cases_Bool (nat_eq x.row j)) [
      | inl q ↦
          let i = waits-here j x rows ob.0 q w in
          let t : waits_as of_kind x ≡ true = rw (rw q at k, i) refl in
          let y : nat_le a x.row ≡ true = grind (arith, nat_tests) in
          let z : nat_le x.row j ≡ true = grind (arith, nat_tests) in
          rw (t, y, z) refl
      | inr n ↦
          let later = rw n at w in
          let b = waits-above x.row j rows ob.0 later in
          let r = upto-some of_kind a j rows ob.1 later (rw n at k) l in
          elim (cases_Bool (waits_as of_kind x)) [
            | inl t ↦ elim (cases_Bool (nat_le a x.row)) [
              | inl y ↦ let z : nat_le x.row j ≡ true = grind (arith, nat_tests) in rw (t, y, z) refl
              | inr y ↦ rw (t, y, one-more) r
            ]
            | inr f ↦ rw f r
          ]
    ]

-- a store that waits is not taken for a load
pub store-held : (j : ℕ) (rows : List MemRow) (loads : List Node) → in_order rows ≡ true → waits j rows ≡ true → is_store (kind_of j rows) ≡ true → is_free j loads (nodes_of (waits_as is_store) rows) ≡ false
store-held j rows [] o w k = refl
store-held j rows (u ∷ loads) o w k = elim (cases_Bool (nat_le u.key j)) [
  | inl l ↦ rw (l, upto-some is_store u.key j rows o w k (grind (arith, nat_tests))) refl
  | inr l ↦ rw l refl
]

abbrev any_upto : (MemRow → Bool) → ℕ → List MemRow → Bool
any_upto p j rows = list_any (λ x. p x && nat_le x.row j) rows

upto-above : (p : MemRow → Bool) (a j : ℕ) (rows : List MemRow) → are_above a rows ≡ true → j ≤ a → any_upto p j rows ≡ false
upto-above p a j [] h l = refl
upto-above p a j (x ∷ rows) h l =
    let b = and_both (nat_lt a x.row) (are_above a rows) h in
    let n : nat_le x.row j ≡ false = grind (arith, nat_tests, b.0) in
    rw (n, and-none (p x)) (upto-above p a j rows b.1 l)

-- the first of a list above a number is the first of all
upto-known : (p : MemRow → Bool) (a j : ℕ) (rows : List MemRow) → in_order rows ≡ true → are_above a rows ≡ true → is_upto j (slice_get (nodes_of p rows) (before_key a (nodes_of p rows))) ≡ any_upto p j rows
upto-known p a j [] o h = refl
upto-known p a j (x ∷ rows) o h =
    let ob = and_both (are_above x.row rows) (in_order rows) o in
    let b = and_both (nat_lt a x.row) (are_above a rows) h in
    let r = upto-known p a j rows ob.1 b.1 in
    let y : nat_le a x.row ≡ true = grind (arith, nat_tests, b.0) in
    elim (cases_Bool (p x)) [
      | inl t ↦ elim (cases_Bool (nat_le x.row j)) [
        | inl l ↦ rw (t, y, l) refl
        | inr l ↦ let z : j ≤ x.row = grind (arith, nat_tests) in rw (t, y, l, upto-above p x.row j rows ob.0 z) refl
      ]
      | inr f ↦ rw f r
    ]

fence-above : (a j : ℕ) (rows : List MemRow) → are_above a rows ≡ true → j ≤ a → has_fence j rows ≡ false
fence-above a j [] h l = refl
fence-above a j (x ∷ rows) h l =
    let b = and_both (nat_lt a x.row) (are_above a rows) h in
    let n : nat_lt x.row j ≡ false = grind (arith, nat_tests, b.0) in
    rw n (fence-above a j rows b.1 l)

fenced-none : (j : ℕ) (rows : List MemRow) → has_fence j rows ≡ false → fenced j rows ≡ false
unfolding fenced
fenced-none j [] h = refl
fenced-none j (x ∷ rows) h =
    let b = or_none (nat_lt x.row j && (is_store x.kind || is_barrier x.kind)) (has_fence j rows) h in
    rw (b.1, and-none (waits_as is_load x && nat_lt x.row j)) (fenced-none j rows b.1)

-- row j is of a kind
abbrev is_one : (Kind → Bool) → ℕ → List MemRow → Bool
is_one of_kind j rows = list_all (λ y. not (nat_eq y.row j) || of_kind y.kind) rows

one-above : (of_kind : Kind → Bool) (a j : ℕ) (rows : List MemRow) → are_above a rows ≡ true → j ≤ a → is_one of_kind j rows ≡ true
one-above of_kind a j [] h l = refl
one-above of_kind a j (x ∷ rows) h l =
    let b = and_both (nat_lt a x.row) (are_above a rows) h in
    let n : nat_eq x.row j ≡ false = grind (arith, nat_tests, b.0) in
    rw n (one-above of_kind a j rows b.1 l)

one-known : (of_kind : Kind → Bool) (j : ℕ) (rows : List MemRow) → in_order rows ≡ true → waits j rows ≡ true → of_kind (kind_of j rows) ≡ true → is_one of_kind j rows ≡ true
one-known of_kind j [] o w k = refl
one-known of_kind j (x ∷ rows) o w k =
    let ob = and_both (are_above x.row rows) (in_order rows) o in
    elim (cases_Bool (nat_eq x.row j)) [
      | inl q ↦ rw (q, rw q at k) (one-above of_kind x.row j rows ob.0 (grind (arith, nat_tests)))
      | inr n ↦ rw n (one-known of_kind j rows ob.1 (rw n at w) (rw n at k))
    ]

fence-step : (k : Kind) (i lt eq : Bool) (le : Bool) (na r : Bool) → (not i || overtakes na k Load) ≡ true → ((is_barrier k && not i) && lt) ≡ false → (not eq || is_load k) ≡ true → le ≡ (lt || eq) → ((lt && (is_store k || is_barrier k)) || r) ≡ (((is_store k && not i) && le) || r)
unfolding is_load is_store is_barrier
fence-step Plain i true eq le na r a b d e = refl
fence-step Plain i false eq le na r a b d e = refl
fence-step Load i true eq le na r a b d e = refl
fence-step Load i false eq le na r a b d e = refl
fence-step Store true lt eq le na r a b d e = absurd (cc a)
fence-step Store false true eq le na r a b d e = rw e refl
fence-step Store false false true le na r a b d e = absurd (cc d)
fence-step Store false false false le na r a b d e = rw e refl
fence-step Barrier true lt eq le na r a b d e = absurd (cc a)
fence-step Barrier false true eq le na r a b d e = absurd (cc b)
fence-step Barrier false false eq le na r a b d e = refl

-- behind a load that has not issued, what is a fence is a store that has not issued
fence-same : (na : Bool) (j : ℕ) (rows : List MemRow) → list_all (λ (y : MemRow). not y.issued || overtakes na y.kind Load) rows ≡ true → any_before (waits_as is_barrier) j rows ≡ false → is_one is_load j rows ≡ true → has_fence j rows ≡ any_upto (waits_as is_store) j rows
fence-same na j [] a b d = refl
fence-same na j (x ∷ rows) a b d =
    let ab = and_both (not x.issued || overtakes na x.kind Load) (list_all (λ (y : MemRow). not y.issued || overtakes na y.kind Load) rows) a in
    let bb = or_none ((is_barrier x.kind && not x.issued) && nat_lt x.row j) (any_before (waits_as is_barrier) j rows) b in
    let db = and_both (not (nat_eq x.row j) || is_load x.kind) (is_one is_load j rows) d in
    let le : nat_le x.row j ≡ (nat_lt x.row j || nat_eq x.row j) = le-split x.row j in
    rw (fence-same na j rows ab.1 bb.1 db.1) (fence-step x.kind x.issued (nat_lt x.row j) (nat_eq x.row j) (nat_le x.row j) na (any_upto (waits_as is_store) j rows) ab.0 bb.0 db.0 le)

load-is : (k : Kind) → is_load k ≡ true → k ≡ Load
unfolding is_load
load-is Load h = refl
load-is Plain h = absurd (cc h)
load-is Store h = absurd (cc h)
load-is Barrier h = absurd (cc h)

load-no-store : (k : Kind) → is_load k ≡ true → is_store k ≡ false
unfolding is_load is_store
load-no-store Load h = refl
load-no-store Plain h = absurd (cc h)
load-no-store Store h = absurd (cc h)
load-no-store Barrier h = absurd (cc h)

free-skip : (j : ℕ) (x : Node) (a : ℕ) (rows : List MemRow) (stores : List Node) → are_above a rows ≡ true → x.key ≤ a → is_free j (nodes_of (waits_as is_load) rows) (x ∷ stores) ≡ is_free j (nodes_of (waits_as is_load) rows) stores
free-skip j x a [] stores h l = refl
free-skip j x a (y ∷ rows) stores h l =
    let b = and_both (nat_lt a y.row) (are_above a rows) h in
    let n : nat_le y.row x.key ≡ false = grind (arith, nat_tests, b.0) in
    elim (cases_Bool (waits_as is_load y)) [
      | inl t ↦ rw (t, n, one-more) refl
      | inr f ↦ rw f (free-skip j x a rows stores b.1 l)
    ]

fence-or : (j : ℕ) (rows : List MemRow) → not (has_fence j rows) ≡ not (has_fence j rows || fenced j rows)
fence-or j rows = elim (cases_Bool (has_fence j rows)) [
  | inl t ↦ rw t refl
  | inr f ↦ rw (f, fenced-none j rows f) refl
]

-- a load that waits is free where no fence keeps it from one that waits
pub free-known : (na : Bool) (j : ℕ) (rows : List MemRow) → in_order rows ≡ true → keeps_order na rows ≡ true → waits j rows ≡ true → is_load (kind_of j rows) ≡ true → any_before (waits_as is_barrier) j rows ≡ false → is_free j (nodes_of (waits_as is_load) rows) (nodes_of (waits_as is_store) rows) ≡ not (fenced j rows)
unfolding fenced
free-known na j [] o kept w k b = absurd (cc w)
free-known na j (x ∷ rows) o kept w k b =
    let ob = and_both (are_above x.row rows) (in_order rows) o in
    let kb = and_both (x.issued || list_all (λ (y : MemRow). not y.issued || overtakes na y.kind x.kind) rows) (keeps_order na rows) kept in
    let bb = or_none ((is_barrier x.kind && not x.issued) && nat_lt x.row j) (any_before (waits_as is_barrier) j rows) b in
    elim (cases_Bool (waits_as is_load x)) [
      | inl t ↦
          let tb = and_both (is_load x.kind) (not x.issued) t in
          let s = load-no-store x.kind tb.0 in
          let u = upto-known (waits_as is_store) x.row j rows ob.1 ob.0 in
          elim (cases_Bool (nat_eq x.row j)) [
            | inl q ↦
                let le : nat_le x.row j ≡ true = grind (arith, nat_tests) in
                let lt : nat_lt x.row j ≡ false = grind (arith, nat_tests) in
                let z : j ≤ x.row = grind (arith, nat_tests) in
                let none = upto-above (waits_as is_store) x.row j rows ob.0 z in
                let un = fenced-none j rows (fence-above x.row j rows ob.0 z) in
                rw (t, s, le, u, none, lt, un) refl
            | inr n ↦
                let later = rw n at w in
                let a = waits-above x.row j rows ob.0 later in
                let le : nat_le x.row j ≡ true = grind (arith, nat_tests) in
                let lt : nat_lt x.row j ≡ true = grind (arith, nat_tests) in
                let i = not-true x.issued tb.1 in
                let all = rw (i, load-is x.kind tb.0) at kb.0 in
                let same = fence-same na j rows all bb.1 (one-known is_load j rows ob.1 later (rw n at k)) in
                rw (t, s, le, lt, u, ← same) (fence-or j rows)
          ]
      | inr f ↦
          let n : nat_eq x.row j ≡ false = elim (cases_Bool (nat_eq x.row j)) [
            | inl q ↦ absurd (
                let i = waits-here j x rows ob.0 q w in
                let t : waits_as is_load x ≡ true = rw (rw q at k, i) refl in
                let z : true ≡ false = rw t at f in
                cc z)
            | inr n ↦ n
          ] in
          let r = free-known na j rows ob.1 kb.1 (rw n at w) (rw n at k) bb.1 in
          elim (cases_Bool (waits_as is_store x)) [
            | inl t ↦ rw (f, t, free-skip j (record { key = x.row; value = x.row }) x.row rows (nodes_of (waits_as is_store) rows) ob.0 (omega arith)) r
            | inr g ↦ rw (f, g) r
          ]
    ]
