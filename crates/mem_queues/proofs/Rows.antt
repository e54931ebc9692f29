-- The rows, and the lists that they stand in, after a change.
use Rattle.std.proofs.Common.{inl, inr, ◌≡◌, ◌≢◌, ℕ, ◌+◌, ◌<◌, ◌≤◌, Bool, true, false, not, ◌&&◌, ◌||◌, List, [], ◌∷◌, ◌++◌, length, drop, refl, ap, sym, ◌∙◌, cond, arith, nat_lt, nat_le, nat_eq, append-nil, length-set, get_or-set_same, get_or-set_other}
use Rattle.std.specs.List.{list_all, count_by, sum_by, remove}
use Rattle.std.proofs.lemmas.List.{map-append}
use Rattle.std.proofs.lemmas.List.Sums.{sum_by-cons}
use Rattle.std.proofs.lemmas.List.Folds.{list_all-append}
use Rattle.std.proofs.lemmas.List.Elements.{filter-append}
use Rattle.std.proofs.lemmas.Bool.{cases_Bool}
use Rattle.std.proofs.lemmas.Bool.Decides.{nat_tests}
use Rattle.rv_isa.specs.declared.facts.Kind.{Kind}
use Rattle.rv_isa.specs.declared.facts.Kind.TheVariants.{Plain, Load, Store, Barrier}
use Rattle.node_pool.specs.Pool.{Pool, before_value, list_of, with_list}
use Rattle.node_pool.specs.declared.node.Node.{Node}
use Rattle.cycle_rules.specs.Row.{is_barrier}
use Rattle.cycle_rules.specs.Issue.{memory_order}
use Rattle.mem_queues.specs.Order.{MemRow, is_plain, moved, with_issue, are_below, has_fence, may_go, older_row, kind_of, waits}
use Rattle.mem_queues.specs.Queues.{in_order, overtakes, keeps_order, done_by, waits_as, is_kind, nodes_of, lists_of, IsDone}
use Rattle.mem_queues.specs.Firsts.{starts_at}
use Rattle.mem_queues.proofs.Going.{and_both, or-false, and-none, and-true, are_above, waits-none, waits-above, not-true, one-more}

and-swap : (x y : Bool) → (x && y) ≡ (y && x)
and-swap true true = refl
and-swap true false = refl
and-swap false true = refl
and-swap false false = refl

and-group : (x y z : Bool) → (x && (y && z)) ≡ ((x && y) && z)
and-group true y z = refl
and-group false y z = refl

-- a pool of which one list has changed
pub record IsChanged (pool after : Pool) (l : ℕ) (xs : List Node) (spare : ℕ) : Type 0 where
  pub lists : length after.lists ≡ length pool.lists
  pub here : list_of after l ≡ xs
  pub others : (k : ℕ) → k ≢ l → list_of after k ≡ list_of pool k
  pub spare_is : after.spare ≡ spare

pub changed : (pool after : Pool) (l : ℕ) (xs : List Node) (spare : ℕ) → l < length pool.lists → after ≡ with_list pool l xs spare → IsChanged pool after l xs spare
changed pool after l xs spare h e = record {
  lists = rw e (length-set pool.lists l xs);
  here = rw e (get_or-set_same pool.lists l xs [] h);
  others = λ k n. rw e (get_or-set_other pool.lists l k xs [] n);
  spare_is = rw e refl;
}

abbrev pub node_at : ℕ → Node
node_at row = record { key = row; value = row }

-- the list with one more row
pub nodes-more : (p : MemRow → Bool) (rows : List MemRow) (x : MemRow) → nodes_of p (rows ++ x ∷ []) ≡ nodes_of p rows ++ cond (p x) (node_at x.row ∷ []) []
nodes-more p rows x =
    let one : nodes_of p (x ∷ []) ≡ cond (p x) (node_at x.row ∷ []) [] = elim (cases_Bool (p x)) [ inl t ↦ rw t refl | inr f ↦ rw f refl ] in
    rw (filter-append p rows (x ∷ []), map-append, one) refl

pub nodes-in : (p : MemRow → Bool) (rows : List MemRow) (x : MemRow) → p x ≡ true → nodes_of p (rows ++ x ∷ []) ≡ nodes_of p rows ++ node_at x.row ∷ []
nodes-in p rows x t = rw (nodes-more p rows x, t) refl

pub nodes-out : (p : MemRow → Bool) (rows : List MemRow) (x : MemRow) → p x ≡ false → nodes_of p (rows ++ x ∷ []) ≡ nodes_of p rows
nodes-out p rows x f = rw (nodes-more p rows x, f) (append-nil (nodes_of p rows))

pub order-more : (rows : List MemRow) (x : MemRow) → in_order rows ≡ true → are_below x.row rows ≡ true → in_order (rows ++ x ∷ []) ≡ true
order-more [] x order below = refl
order-more (y ∷ rows) x order below =
    let o = and_both (are_above y.row rows) (in_order rows) order in
    let b = and_both (nat_lt y.row x.row) (are_below x.row rows) below in
    let e = order-more rows x o.1 b.1 in
    let a = list_all-append (λ (z : MemRow). nat_lt y.row z.row) rows (x ∷ []) in
    rw (e, a, o.0, b.0) refl

pub keeps-more : (na : Bool) (rows : List MemRow) (x : MemRow) → x.issued ≡ false → keeps_order na (rows ++ x ∷ []) ≡ keeps_order na rows
keeps-more na [] x f = rw (f) refl
keeps-more na (y ∷ rows) x f =
    let e = keeps-more na rows x f in
    let a = list_all-append (λ (z : MemRow). not z.issued || overtakes na z.kind y.kind) rows (x ∷ []) in
    rw (e, a, f, and-true (list_all (λ (z : MemRow). not z.issued || overtakes na z.kind y.kind) rows)) refl

pub kinds-more : (rows : List MemRow) (x : MemRow) → is_plain x.kind ≡ false → list_all (λ (y : MemRow). not (is_plain y.kind)) rows ≡ true → list_all (λ (y : MemRow). not (is_plain y.kind)) (rows ++ x ∷ []) ≡ true
kinds-more rows x f h = rw (list_all-append (λ (y : MemRow). not (is_plain y.kind)) rows (x ∷ []), h, f) refl

pub done-more : (p : Kind → Bool) (done since : ℕ) (rows : List MemRow) (x : MemRow) → x.issued ≡ false → IsDone p done since rows → IsDone p done since (rows ++ x ∷ [])
done-more p done since rows x f d = λ c h.
    d c h ∙ sym (rw (list_all-append (λ (y : MemRow). not (p y.kind && y.issued) || nat_le y.complete c) rows (x ∷ []), f, and-none (p x.kind)) (and-true (done_by p c rows)))

pub lists-few : (rows : List MemRow) → sum_by lists_of rows ≤ length rows + length rows
lists-few [] = omega arith
lists-few (x ∷ rows) =
    let e = lists-few rows in
    let s = sum_by-cons lists_of x rows in
    let a : lists_of x ≤ 2 = elim (cases_Bool x.issued) [
      | inl i ↦ elim (cases_Bool (is_barrier x.kind)) [ inl b ↦ rw (i, b) (omega arith) | inr b ↦ rw (i, b) (omega arith) ]
      | inr i ↦ elim (cases_Bool (is_barrier x.kind)) [ inl b ↦ rw (i, b) (omega arith) | inr b ↦ rw (i, b) (omega arith) ]
    ] in
    omega arith

row-moved : (row w : ℕ) (x : MemRow) → ((moved row w x).row ≡ x.row) × ((moved row w x).kind ≡ x.kind)
row-moved row w x = elim (cases_Bool (nat_eq x.row row)) [ inl q ↦ rw q (refl, refl) | inr n ↦ rw n (refl, refl) ]

above-moved : (a row w : ℕ) (rows : List MemRow) → are_above a (with_issue row w rows) ≡ are_above a rows
above-moved a row w [] = refl
above-moved a row w (x ∷ rows) = rw ((row-moved row w x).0, above-moved a row w rows) refl

pub order-moved : (row w : ℕ) (rows : List MemRow) → in_order (with_issue row w rows) ≡ in_order rows
order-moved row w [] = refl
order-moved row w (x ∷ rows) = rw ((row-moved row w x).0, above-moved x.row row w rows, order-moved row w rows) refl

pub kinds-moved : (row w : ℕ) (rows : List MemRow) → list_all (λ (y : MemRow). not (is_plain y.kind)) (with_issue row w rows) ≡ list_all (λ (y : MemRow). not (is_plain y.kind)) rows
kinds-moved row w [] = refl
kinds-moved row w (x ∷ rows) = rw ((row-moved row w x).1, kinds-moved row w rows) refl

pub count-moved : (p : Kind → Bool) (row w : ℕ) (rows : List MemRow) → count_by (λ (x : MemRow). p x.kind) (with_issue row w rows) ≡ count_by (λ (x : MemRow). p x.kind) rows
count-moved p row w [] = refl
count-moved p row w (x ∷ rows) =
    let e = count-moved p row w rows in
    let s = sum_by-cons (λ (y : MemRow). cond (p y.kind) 1 0) x rows in
    let t = sum_by-cons (λ (y : MemRow). cond (p y.kind) 1 0) (moved row w x) (with_issue row w rows) in
    let v = ap {B = ℕ} (λ (k : Kind). cond (p k) 1 0) (row-moved row w x).1 in
    omega arith

-- rows above one stay when it issues
issue-above : (a row w : ℕ) (rows : List MemRow) → are_above a rows ≡ true → row ≤ a → with_issue row w rows ≡ rows
issue-above a row w [] h l = refl
issue-above a row w (x ∷ rows) h l =
    let b = and_both (nat_lt a x.row) (are_above a rows) h in
    let n : nat_eq x.row row ≡ false = grind (arith, nat_tests, b.0) in
    rw (n, issue-above a row w rows b.1 l) refl

pub here-waits : (j : ℕ) (x : MemRow) (rows : List MemRow) → are_above x.row rows ≡ true → nat_eq x.row j ≡ true → waits j (x ∷ rows) ≡ true → x.issued ≡ false
here-waits j x rows h q w =
    let none = waits-none x.row j rows h (grind (arith, nat_tests)) in
    not-true x.issued (rw (q, none, or-false (not x.issued)) at w)

-- the completions of a kind after a row has issued
pub done-issue : (p : Kind → Bool) (j w c : ℕ) (rows : List MemRow) → in_order rows ≡ true → waits j rows ≡ true → done_by p c (with_issue j w rows) ≡ (done_by p c rows && (not (p (kind_of j rows)) || nat_le w c))
done-issue p j w c [] o wt = absurd (cc wt)
done-issue p j w c (x ∷ rows) o wt =
    let ob = and_both (are_above x.row rows) (in_order rows) o in
    elim (cases_Bool (nat_eq x.row j)) [
      | inl q ↦
          let i = here-waits j x rows ob.0 q wt in
          let s = issue-above x.row j w rows ob.0 (grind (arith, nat_tests)) in
          rw (q, s, i, and-none (p x.kind), and-true (p x.kind)) (and-swap (not (p x.kind) || nat_le w c) (done_by p c rows))
      | inr n ↦ rw (n, done-issue p j w c rows ob.1 (rw n at wt)) (and-group (not (p x.kind && x.issued) || nat_le x.complete c) (done_by p c rows) (not (p (kind_of j rows)) || nat_le w c))
    ]

-- the list of a row's kind without it
remove-above : (p : MemRow → Bool) (a row : ℕ) (rows : List MemRow) → are_above a rows ≡ true → row ≤ a → remove (nodes_of p rows) (before_value row (nodes_of p rows)) ≡ nodes_of p rows
remove-above p a row [] h l = refl
remove-above p a row (x ∷ rows) h l =
    let b = and_both (nat_lt a x.row) (are_above a rows) h in
    let n : nat_eq x.row row ≡ false = grind (arith, nat_tests, b.0) in
    let e = remove-above p a row rows b.1 l in
    elim (cases_Bool (p x)) [ inl t ↦ rw (t, n, one-more) (ap (λ r. node_at x.row ∷ r) e) | inr f ↦ rw f e ]

pub wait-remove : (p : Kind → Bool) (j w : ℕ) (rows : List MemRow) → in_order rows ≡ true → waits j rows ≡ true → remove (nodes_of (waits_as p) rows) (before_value j (nodes_of (waits_as p) rows)) ≡ nodes_of (waits_as p) (with_issue j w rows)
wait-remove p j w [] o wt = refl
wait-remove p j w (x ∷ rows) o wt =
    let ob = and_both (are_above x.row rows) (in_order rows) o in
    elim (cases_Bool (nat_eq x.row j)) [
      | inl q ↦
          let l : j ≤ x.row = grind (arith, nat_tests) in
          let s = issue-above x.row j w rows ob.0 l in
          elim (cases_Bool (waits_as p x)) [
            | inl t ↦ rw (q, t, q, and-none (p x.kind), s) refl
            | inr f ↦ rw (q, f, and-none (p x.kind), s) (remove-above (waits_as p) x.row j rows ob.0 l)
          ]
      | inr n ↦
          let e = wait-remove p j w rows ob.1 (rw n at wt) in
          elim (cases_Bool (waits_as p x)) [
            | inl t ↦ rw (n, t, n, one-more) (ap (λ r. node_at x.row ∷ r) e)
            | inr f ↦ rw (n, f) e
          ]
    ]

-- the list of another kind stays
pub wait-other : (p : Kind → Bool) (j w : ℕ) (rows : List MemRow) → in_order rows ≡ true → waits j rows ≡ true → p (kind_of j rows) ≡ false → nodes_of (waits_as p) (with_issue j w rows) ≡ nodes_of (waits_as p) rows
wait-other p j w [] o wt f = refl
wait-other p j w (x ∷ rows) o wt f =
    let ob = and_both (are_above x.row rows) (in_order rows) o in
    elim (cases_Bool (nat_eq x.row j)) [
      | inl q ↦
          let k : p x.kind ≡ false = rw q at f in
          let s = issue-above x.row j w rows ob.0 (grind (arith, nat_tests)) in
          rw (q, k, s) refl
      | inr n ↦
          let e = wait-other p j w rows ob.1 (rw n at wt) (rw n at f) in
          elim (cases_Bool (waits_as p x)) [ inl t ↦ rw (n, t) (ap (λ r. node_at x.row ∷ r) e) | inr u ↦ rw (n, u) e ]
    ]

pub held-same : (p : Kind → Bool) (j w : ℕ) (rows : List MemRow) → nodes_of (is_kind p) (with_issue j w rows) ≡ nodes_of (is_kind p) rows
held-same p j w [] = refl
held-same p j w (x ∷ rows) =
    let e = held-same p j w rows in
    elim (cases_Bool (nat_eq x.row j)) [
      | inl q ↦ elim (cases_Bool (p x.kind)) [ inl t ↦ rw (q, t) (ap (λ r. node_at x.row ∷ r) e) | inr u ↦ rw (q, u) e ]
      | inr n ↦ elim (cases_Bool (p x.kind)) [ inl t ↦ rw (n, t) (ap (λ r. node_at x.row ∷ r) e) | inr u ↦ rw (n, u) e ]
    ]

-- a row that issues stands in one list less
pub lists-issue : (j w : ℕ) (rows : List MemRow) → in_order rows ≡ true → waits j rows ≡ true → sum_by lists_of (with_issue j w rows) + 1 ≡ sum_by lists_of rows
lists-issue j w [] o wt = absurd (cc wt)
lists-issue j w (x ∷ rows) o wt =
    let ob = and_both (are_above x.row rows) (in_order rows) o in
    let s = sum_by-cons lists_of x rows in
    elim (cases_Bool (nat_eq x.row j)) [
      | inl q ↦
          let i = here-waits j x rows ob.0 q wt in
          let same = issue-above x.row j w rows ob.0 (grind (arith, nat_tests)) in
          let t = sum_by-cons lists_of (moved j w x) rows in
          let a : lists_of (moved j w x) + 1 ≡ lists_of x = rw (q, i) (omega arith) in
          let b : sum_by lists_of (with_issue j w (x ∷ rows)) ≡ sum_by lists_of (moved j w x ∷ rows) = ap (λ r. sum_by lists_of (moved j w x ∷ r)) same in
          omega arith
      | inr n ↦
          let t = sum_by-cons lists_of x (with_issue j w rows) in
          let e = lists-issue j w rows ob.1 (rw n at wt) in
          let b : sum_by lists_of (with_issue j w (x ∷ rows)) ≡ sum_by lists_of (x ∷ with_issue j w rows) = rw n refl in
          omega arith
    ]

-- what the order of memory lets go before an older row that has not issued
over-go : (a b : Kind) (na f k : Bool) → is_plain a ≡ false → is_plain b ≡ false → memory_order a b (record { may_pass = na; fenced = f; issued = false; completed = false && k }) ≡ true → overtakes na a b ≡ true
unfolding memory_order
over-go Plain b na f k p q h = absurd (cc p)
over-go Load Plain na f k p q h = absurd (cc q)
over-go Load Load na f k p q h = refl
over-go Load Store na f k p q h = rw (or-false na) at h
over-go Load Barrier na f k p q h = absurd (cc h)
over-go Store Plain na f k p q h = absurd (cc q)
over-go Store Load na f k p q h = absurd (cc h)
over-go Store Store na f k p q h = absurd (cc h)
over-go Store Barrier na f k p q h = absurd (cc h)
over-go Barrier Plain na f k p q h = absurd (cc q)
over-go Barrier Load na f k p q h = absurd (cc h)
over-go Barrier Store na f k p q h = absurd (cc h)
over-go Barrier Barrier na f k p q h = absurd (cc h)

all-issue : (na : Bool) (k : Kind) (j w : ℕ) (rows : List MemRow) → in_order rows ≡ true → waits j rows ≡ true → overtakes na (kind_of j rows) k ≡ true → list_all (λ (y : MemRow). not y.issued || overtakes na y.kind k) rows ≡ true → list_all (λ (y : MemRow). not y.issued || overtakes na y.kind k) (with_issue j w rows) ≡ true
all-issue na k j w [] o wt v h = refl
all-issue na k j w (x ∷ rows) o wt v h =
    let ob = and_both (are_above x.row rows) (in_order rows) o in
    let hb = and_both (not x.issued || overtakes na x.kind k) (list_all (λ (y : MemRow). not y.issued || overtakes na y.kind k) rows) h in
    elim (cases_Bool (nat_eq x.row j)) [
      | inl q ↦
          let s = issue-above x.row j w rows ob.0 (grind (arith, nat_tests)) in
          let u : overtakes na x.kind k ≡ true = rw q at v in
          rw (q, s, u) hb.1
      | inr n ↦ rw (n, hb.0) (all-issue na k j w rows ob.1 (rw n at wt) (rw n at v) hb.1)
    ]

pub kind-real : (j : ℕ) (rows : List MemRow) → waits j rows ≡ true → list_all (λ (y : MemRow). not (is_plain y.kind)) rows ≡ true → is_plain (kind_of j rows) ≡ false
kind-real j [] w h = absurd (cc w)
kind-real j (x ∷ rows) w h =
    let b = and_both (not (is_plain x.kind)) (list_all (λ (y : MemRow). not (is_plain y.kind)) rows) h in
    elim (cases_Bool (nat_eq x.row j)) [
      | inl q ↦ rw q (not-true (is_plain x.kind) b.0)
      | inr n ↦ rw n (kind-real j rows (rw n at w) b.1)
    ]

-- the order is kept when a row issues that may
pub keeps-issue : (na : Bool) (j w c : ℕ) (rows : List MemRow) (k : Kind) → kind_of j rows ≡ k → in_order rows ≡ true → list_all (λ (y : MemRow). not (is_plain y.kind)) rows ≡ true → waits j rows ≡ true → keeps_order na rows ≡ true → may_go k na j c rows ≡ true → keeps_order na (with_issue j w rows) ≡ true
keeps-issue na j w c [] k e o r wt kept g = refl
keeps-issue na j w c (x ∷ rows) k e o r wt kept g =
    let ob = and_both (are_above x.row rows) (in_order rows) o in
    let rb = and_both (not (is_plain x.kind)) (list_all (λ (y : MemRow). not (is_plain y.kind)) rows) r in
    let kb = and_both (x.issued || list_all (λ (y : MemRow). not y.issued || overtakes na y.kind x.kind) rows) (keeps_order na rows) kept in
    elim (cases_Bool (nat_eq x.row j)) [
      | inl q ↦ rw (q, issue-above x.row j w rows ob.0 (grind (arith, nat_tests))) kb.1
      | inr n ↦
          let later = rw n at wt in
          let same : kind_of j rows ≡ k = rw n at e in
          let above = waits-above x.row j rows ob.0 later in
          let lt : nat_lt x.row j ≡ true = grind (arith, nat_tests) in
          let gb = and_both (memory_order k x.kind (older_row na j c x rows)) (may_go k na j c rows) (rw lt at g) in
          let r = keeps-issue na j w c rows k same ob.1 rb.1 later kb.1 gb.1 in
          elim (cases_Bool x.issued) [
            | inl i ↦ rw (n, i) r
            | inr i ↦
                let all = rw i at kb.0 in
                let v = over-go k x.kind na (has_fence j rows) (nat_le x.complete c) (rw same at (kind-real j rows later rb.1)) (not-true (is_plain x.kind) rb.0) (rw i at gb.0) in
                rw (n, i, all-issue na x.kind j w rows ob.1 later (rw same v) all) r
          ]
    ]

no-start : (p : MemRow → Bool) (a j : ℕ) (rows : List MemRow) → are_above a rows ≡ true → j ≤ a → starts_at j (nodes_of p rows) ≡ false
no-start p a j [] h l = refl
no-start p a j (x ∷ rows) h l =
    let b = and_both (nat_lt a x.row) (are_above a rows) h in
    let n : nat_eq x.row j ≡ false = grind (arith, nat_tests, b.0) in
    elim (cases_Bool (p x)) [ inl t ↦ rw (t, n) refl | inr f ↦ rw f (no-start p a j rows b.1 l) ]

-- the oldest row is the first of the list of its kind
pub at-first : (p : MemRow → Bool) (x : MemRow) (rows : List MemRow) → in_order (x ∷ rows) ≡ true → starts_at x.row (nodes_of p (x ∷ rows)) ≡ p x
at-first p x rows o =
    let ob = and_both (are_above x.row rows) (in_order rows) o in
    elim (cases_Bool (p x)) [
      | inl t ↦ let q : nat_eq x.row x.row ≡ true = grind (arith, nat_tests) in rw (t, q) refl
      | inr f ↦ rw f (no-start p x.row x.row rows ob.0 (omega arith))
    ]

-- a list whose first row is taken out
pub drop-first : (p : MemRow → Bool) (j : ℕ) (rows : List MemRow) → starts_at j (nodes_of p rows) ≡ true → drop 1 (nodes_of p rows) ≡ remove (nodes_of p rows) (before_value j (nodes_of p rows))
drop-first p j [] s = absurd (cc s)
drop-first p j (x ∷ rows) s = elim (cases_Bool (p x)) [
  | inl t ↦ let q : nat_eq x.row j ≡ true = rw t at s in rw (t, q) refl
  | inr f ↦ rw f (drop-first p j rows (rw f at s))
]
