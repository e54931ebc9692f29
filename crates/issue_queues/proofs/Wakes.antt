-- Rows of which one becomes ready, or leaves.
use Rattle.std.proofs.Common.{inl, inr, zero, suc, ◌≡◌, ◌≢◌, ℕ, ◌+◌, ◌-◌, ◌<◌, ◌≤◌, Bool, true, false, not, ◌&&◌, Option, Some, None, List, [], ◌∷◌, length, get_or, refl, ap, sym, ◌∙◌, cond, eqb, arith, nat_le, nat_lt, nat_eq, append-nil, length-set}
use Rattle.std.specs.List.{list_all, insert, remove, count_by}
use Rattle.std.specs.Option.{option_eq}
use Rattle.std.proofs.lemmas.Bool.{cases_Bool, cases_eq}
use Rattle.std.proofs.lemmas.Bool.Decides.{nat_tests}
use Rattle.std.proofs.lemmas.List.Sums.{sum_by-cons, length-filter, count_by-le-length}
use Rattle.std.proofs.lemmas.List.{take_all, drop_all, length-map}
use Rattle.machine_model.specs.Meaning.{MachineMeaning}
use Rattle.machine_model.specs.declared.facts.Use.{Use}
use Rattle.node_pool.specs.Pool.{Pool, list_of, with_list, place_of, before_value, in_key_order}
use Rattle.node_pool.specs.declared.node.Node.{Node}
use Rattle.issue_queues.specs.Waiting.{Waiting, held_in, name_one, with_ready, without, woken, is_in, first_ready, lane_of, IsIn, none_waiting}
use Rattle.issue_queues.specs.Queues.{node_of, are_above, in_order, in_lane, ready_nodes, AreKept}
use Rattle.issue_queues.proofs.Rows.{and_both, relisted, same-lists}

one-more : (k : ℕ) → 1 + k ≡ suc k
one-more k = omega arith

-- rows above one stay when it is woken or leaves
woken-above : (row : ℕ) (rows : List Waiting) → are_above row rows ≡ true → with_ready row rows ≡ rows
woken-above row [] h = refl
woken-above row (x ∷ rows) h =
    let b = and_both (nat_lt row x.row) (are_above row rows) h in
    let n : nat_eq x.row row ≡ false = grind (arith, nat_tests, b.0) in
    rw (n, woken-above row rows b.1) refl

without-above : (row : ℕ) (rows : List Waiting) → are_above row rows ≡ true → without row rows ≡ rows
without-above row [] h = refl
without-above row (x ∷ rows) h =
    let b = and_both (nat_lt row x.row) (are_above row rows) h in
    let n : nat_eq x.row row ≡ false = grind (arith, nat_tests, b.0) in
    rw (n, without-above row rows b.1) refl

-- and its node would come before theirs
place-above : (p : ℕ → Bool) (row : ℕ) (rows : List Waiting) → are_above row rows ≡ true → place_of (ready_nodes p rows) row ≡ 0
place-above p row [] h = refl
place-above p row (x ∷ rows) h =
    let b = and_both (nat_lt row x.row) (are_above row rows) h in
    elim (cases_Bool (x.ready && p x.row)) [ inl t ↦ rw (t, b.0) refl | inr f ↦ rw f (place-above p row rows b.1) ]

remove-above : (p : ℕ → Bool) (row : ℕ) (rows : List Waiting) → are_above row rows ≡ true → remove (ready_nodes p rows) (before_value row (ready_nodes p rows)) ≡ ready_nodes p rows
remove-above p row [] h = refl
remove-above p row (x ∷ rows) h =
    let b = and_both (nat_lt row x.row) (are_above row rows) h in
    let n : nat_eq x.row row ≡ false = grind (arith, nat_tests, b.0) in
    let e = remove-above p row rows b.1 in
    elim (cases_Bool (x.ready && p x.row)) [ inl t ↦ rw (t, n, one-more) (ap (λ r. node_of x ∷ r) e) | inr f ↦ rw f e ]

before-above : (p : ℕ → Bool) (row : ℕ) (rows : List Waiting) → are_above row rows ≡ true → before_value row (ready_nodes p rows) ≡ length (ready_nodes p rows)
before-above p row [] h = refl
before-above p row (x ∷ rows) h =
    let b = and_both (nat_lt row x.row) (are_above row rows) h in
    let n : nat_eq x.row row ≡ false = grind (arith, nat_tests, b.0) in
    let e = before-above p row rows b.1 in
    elim (cases_Bool (x.ready && p x.row)) [ inl t ↦ rw (t, n, one-more) (ap suc e) | inr f ↦ rw f e ]

-- the list of a row's lane after the row has left
left-ready : (p : ℕ → Bool) (row : ℕ) (rows : List Waiting) → in_order rows ≡ true → remove (ready_nodes p rows) (before_value row (ready_nodes p rows)) ≡ ready_nodes p (without row rows)
left-ready p row [] order = refl
left-ready p row (x ∷ rows) order =
    let o = and_both (are_above x.row rows) (in_order rows) order in
    let e = left-ready p row rows o.1 in
    elim (cases_Bool (nat_eq x.row row)) [
      | inl q ↦
          let same : x.row ≡ row = grind (arith, nat_tests) in
          let above = rw same at o.0 in
          elim (cases_Bool (x.ready && p x.row)) [
            | inl t ↦ rw (q, t, q, without-above row rows above) refl
            | inr f ↦ rw (q, f, without-above row rows above) (remove-above p row rows above)
          ]
      | inr n ↦ elim (cases_Bool (x.ready && p x.row)) [
        | inl t ↦ rw (n, t, n, one-more) (ap (λ r. node_of x ∷ r) e)
        | inr f ↦ rw (n, f) e
      ]
    ]

and-none : (b : Bool) → (b && false) ≡ false
and-none true = refl
and-none false = refl

-- the list of another lane stays
left-other : (p : ℕ → Bool) (row : ℕ) (rows : List Waiting) → p row ≡ false → ready_nodes p (without row rows) ≡ ready_nodes p rows
left-other p row [] f = refl
left-other p row (x ∷ rows) f =
    let e = left-other p row rows f in
    elim (cases_Bool (nat_eq x.row row)) [
      | inl q ↦
          let same : x.row ≡ row = grind (arith, nat_tests) in
          let g : p x.row ≡ false = rw same f in
          rw (q, g, and-none x.ready) e
      | inr n ↦ elim (cases_Bool (x.ready && p x.row)) [ inl t ↦ rw (n, t) (ap (λ r. node_of x ∷ r) e) | inr u ↦ rw (n, u) e ]
    ]

less-suc : (a b : ℕ) → nat_lt (suc a) (suc b) ≡ nat_lt a b
less-suc a b = grind (arith, nat_tests)

less-zero : (n : ℕ) → nat_lt 0 (suc n) ≡ true
less-zero n = grind (arith, nat_tests)

abbrev ready_count : List Waiting → ℕ
ready_count rows = count_by (λ (x : Waiting). x.ready) rows

abbrev is_found : ℕ → List Node → Bool
is_found row ns = nat_lt (before_value row ns) (length ns)

-- one ready row less, if it was ready
left-count : (p : ℕ → Bool) (row : ℕ) (rows : List Waiting) → in_order rows ≡ true → p row ≡ true → ready_count (without row rows) + cond (is_found row (ready_nodes p rows)) 1 0 ≡ ready_count rows
left-count p row [] order t = refl
left-count p row (x ∷ rows) order t =
    let o = and_both (are_above x.row rows) (in_order rows) order in
    let e = left-count p row rows o.1 t in
    let s = sum_by-cons (λ (y : Waiting). cond y.ready 1 0) x rows in
    elim (cases_Bool (nat_eq x.row row)) [
      | inl q ↦
          let same : x.row ≡ row = grind (arith, nat_tests) in
          let above = rw same at o.0 in
          let g : p x.row ≡ true = rw same t in
          elim (cases_Bool x.ready) [
            | inl r ↦
                let y : cond {A = ℕ} x.ready 1 0 ≡ 1 = rw r refl in
                let z : cond {A = ℕ} (is_found row (ready_nodes p (x ∷ rows))) 1 0 ≡ 1 = rw (r, g, q, less-zero (length (ready_nodes p rows))) refl in
                let w : ready_count (without row (x ∷ rows)) ≡ ready_count rows = rw (q, without-above row rows above) refl in
                omega arith
            | inr r ↦
                let y : cond {A = ℕ} x.ready 1 0 ≡ 0 = rw r refl in
                let l : nat_lt (length (ready_nodes p rows)) (length (ready_nodes p rows)) ≡ false = grind (arith, nat_tests) in
                let z : cond {A = ℕ} (is_found row (ready_nodes p (x ∷ rows))) 1 0 ≡ 0 = rw (r, before-above p row rows above, l) refl in
                let w : ready_count (without row (x ∷ rows)) ≡ ready_count rows = rw (q, without-above row rows above) refl in
                omega arith
          ]
      | inr n ↦
          let v = sum_by-cons (λ (y : Waiting). cond y.ready 1 0) x (without row rows) in
          elim (cases_Bool (x.ready && p x.row)) [
            | inl r ↦ rw (n, r, n, one-more, less-suc (before_value row (ready_nodes p rows)) (length (ready_nodes p rows))) (omega arith)
            | inr r ↦ rw (n, r) (omega arith)
          ]
    ]

above-at : (a : ℕ) (rows : List Waiting) (i : ℕ) → are_above a rows ≡ true → i < length rows → a < (get_or rows i none_waiting).row
above-at a [] i h l = absurd (omega arith)
above-at a (x ∷ rows) zero h l = let p = and_both (nat_lt a x.row) (are_above a rows) h in grind (arith, nat_tests, p.0)
above-at a (x ∷ rows) (suc i) h l = let p = and_both (nat_lt a x.row) (are_above a rows) h in above-at a rows i p.1 (omega arith)

above-without : (a row : ℕ) (rows : List Waiting) → are_above a rows ≡ true → are_above a (without row rows) ≡ true
above-without a row [] h = refl
above-without a row (x ∷ rows) h =
    let p = and_both (nat_lt a x.row) (are_above a rows) h in
    let e = above-without a row rows p.1 in
    elim (cases_Bool (nat_eq x.row row)) [ inl t ↦ rw t e | inr f ↦ rw (f, p.0, e) refl ]

order-without : (row : ℕ) (rows : List Waiting) → in_order rows ≡ true → in_order (without row rows) ≡ true
order-without row [] h = refl
order-without row (x ∷ rows) h =
    let p = and_both (are_above x.row rows) (in_order rows) h in
    let e = order-without row rows p.1 in
    elim (cases_Bool (nat_eq x.row row)) [ inl t ↦ rw t e | inr f ↦ rw (f, above-without x.row row rows p.0, e) refl ]

-- the entries that a row gives back
left-held : (row : ℕ) (uses : List Use) (rows : List Waiting) (i r : ℕ) → in_order rows ≡ true → IsIn row uses rows i → held_in (without row rows) r + cond (name_one r uses) 1 0 ≡ held_in rows r
left-held row uses [] i r order at = absurd (let w = at.within in omega arith)
left-held row uses (x ∷ rows) zero r order at =
    let o = and_both (are_above x.row rows) (in_order rows) order in
    let q : nat_eq x.row row ≡ true = let e = at.row_is in grind (arith, nat_tests) in
    let above = rw at.row_is at o.0 in
    let s = sum_by-cons (λ (y : Waiting). cond (name_one r y.uses) 1 0) x rows in
    let u = ap {B = ℕ} (λ (us : List Use). cond (name_one r us) 1 0) at.uses_are in
    rw (q, without-above row rows above) (omega arith)
left-held row uses (x ∷ rows) (suc i) r order at =
    let o = and_both (are_above x.row rows) (in_order rows) order in
    let w = at.within in
    let b = above-at x.row rows i o.0 (omega arith) in
    let n : nat_eq x.row row ≡ false = let e = at.row_is in grind (arith, nat_tests) in
    let e = left-held row uses rows i r o.1 (record { within = omega arith; row_is = at.row_is; uses_are = at.uses_are }) in
    let s = sum_by-cons (λ (y : Waiting). cond (name_one r y.uses) 1 0) x rows in
    let t = sum_by-cons (λ (y : Waiting). cond (name_one r y.uses) 1 0) x (without row rows) in
    rw n (omega arith)

-- the lists of a pool after a node was taken out, where it was in
removed : (pool after : Pool) (l row : ℕ) (found : Bool) (n : ℕ) (to : ℕ → List Node) → found ≡ is_found row (list_of pool l) → after ≡ cond found (with_list pool l (remove (list_of pool l) (before_value row (list_of pool l))) (pool.spare + 1)) pool → l < length pool.lists → remove (list_of pool l) (before_value row (list_of pool l)) ≡ to l → ((k : ℕ) → k < n → k ≢ l → list_of pool k ≡ to k) → (length after.lists ≡ length pool.lists) × (after.spare ≡ pool.spare + cond found 1 0) × ((k : ℕ) → k < n → list_of after k ≡ to k)
removed pool after l row true n to is e ll here there =
    let xs = remove (list_of pool l) (before_value row (list_of pool l)) in
    (rw e (length-set pool.lists l xs), rw e refl, relisted pool after l xs (pool.spare + 1) n to e ll here there)
removed pool after l row false n to is e ll here there =
    let xs = list_of pool l in
    let k = before_value row xs in
    let b : length xs ≤ k = grind (arith, nat_tests) in
    let stays : remove xs k ≡ xs = rw (take_all k xs b, drop_all (suc k) xs (omega arith)) (append-nil xs) in
    let all : (j : ℕ) → j < n → list_of pool j ≡ to j = λ j h. elim (cases_eq j l) [
      | inl q ↦ rw q (sym stays ∙ here)
      | inr q ↦ there j h q
    ] in
    (rw e refl, rw e (omega arith), rw e all)

-- the queues after a row has left
pub left : (m : MachineMeaning) (bounds held new lanes : List ℕ) (count : ℕ) (pool after : Pool) (rows : List Waiting) (row : ℕ) (uses : List Use) (i : ℕ) (found : Bool) → AreKept m bounds held lanes count pool rows → IsIn row uses rows i → length new ≡ length held → ((r : ℕ) → r < length held → get_or new r 0 + cond (name_one r uses) 1 0 ≡ get_or held r 0) → found ≡ is_found row (list_of pool (lane_of lanes row)) → after ≡ cond found (with_list pool (lane_of lanes row) (remove (list_of pool (lane_of lanes row)) (before_value row (list_of pool (lane_of lanes row)))) (pool.spare + 1)) pool → AreKept m bounds new lanes count after (without row rows)
left m bounds held new lanes count pool after rows row uses i found kept at size less is e =
    let lane = lane_of lanes row in
    let p = in_lane lanes lane in
    let here : p row ≡ true = grind (arith, nat_tests) in
    let list = kept.ready lane (kept.lane row) in
    let counted = left-count p row rows kept.order here in
    let found_is : found ≡ is_found row (ready_nodes p rows) = is ∙ ap (is_found row) list in
    let there = removed pool after lane row found count (λ l. ready_nodes (in_lane lanes l) (without row rows)) is e (let a = kept.lane row in let b = kept.lists in omega arith) (rw list (left-ready p row rows kept.order)) (λ k h n.
    let other : in_lane lanes k row ≡ false = grind (arith, nat_tests) in
    kept.ready k h ∙ sym (left-other (in_lane lanes k) row rows other)) in
    record {
      bounds_len = kept.bounds_len;
      held_len = size ∙ kept.held_len;
      bound = kept.bound;
      hold = λ r h.
          let p = less r (let q = kept.held_len in omega arith) in
          let q = kept.hold r h in
          let s = left-held row uses rows i r kept.order at in
          omega arith;
      order = order-without row rows kept.order;
      body = kept.body;
      lane = kept.lane;
      lists = there.0 ∙ kept.lists;
      few = kept.few;
      ready = there.2;
      small = kept.small;
      fit =
          let a = length-filter (λ (x : Waiting). not (nat_eq x.row row)) rows in
          let b = count_by-le-length (λ (x : Waiting). not (nat_eq x.row row)) rows in
          let f = kept.fit in
          omega arith;
      nodes =
          let s = there.1 in
          let n = kept.nodes in
          let c = rw (← found_is) at counted in
          omega arith;
    }

-- rows that are woken hold what they held, and stand as they stood
held-woken : (row : ℕ) (rows : List Waiting) (r : ℕ) → held_in (with_ready row rows) r ≡ held_in rows r
held-woken row [] r = refl
held-woken row (x ∷ rows) r =
    let e = held-woken row rows r in
    let s = sum_by-cons (λ (y : Waiting). cond (name_one r y.uses) 1 0) x rows in
    let t = sum_by-cons (λ (y : Waiting). cond (name_one r y.uses) 1 0) (woken row x) (with_ready row rows) in
    let u : (woken row x).uses ≡ x.uses = elim (cases_Bool (nat_eq x.row row)) [ inl q ↦ rw q refl | inr n ↦ rw n refl ] in
    let v = ap {B = ℕ} (λ (us : List Use). cond (name_one r us) 1 0) u in
    omega arith

row-woken : (row : ℕ) (x : Waiting) → (woken row x).row ≡ x.row
row-woken row x = elim (cases_Bool (nat_eq x.row row)) [ inl q ↦ rw q refl | inr n ↦ rw n refl ]

above-woken : (a row : ℕ) (rows : List Waiting) → are_above a (with_ready row rows) ≡ are_above a rows
above-woken a row [] = refl
above-woken a row (x ∷ rows) = rw (row-woken row x, above-woken a row rows) refl

order-woken : (row : ℕ) (rows : List Waiting) → in_order (with_ready row rows) ≡ in_order rows
order-woken row [] = refl
order-woken row (x ∷ rows) = rw (row-woken row x, above-woken x.row row rows, order-woken row rows) refl

-- the first ready row is none that is below all
ready-above : (p : ℕ → Bool) (row : ℕ) (rows : List Waiting) → are_above row rows ≡ true → first_ready p rows ≡ Some row → ⊥
ready-above p row [] h e = cc
ready-above p row (x ∷ rows) h e =
    let b = and_both (nat_lt row x.row) (are_above row rows) h in
    elim (cases_Bool (p x.row && x.ready)) [
      | inl t ↦
          let f : Some x.row ≡ Some row = rw t at e in
          let g : x.row ≡ row = cc f in
          absurd (grind (arith, nat_tests, b.0))
      | inr f ↦ ready-above p row rows b.1 (rw f at e)
    ]

in-above : (row a : ℕ) (rows : List Waiting) → are_above a rows ≡ true → is_in row rows ≡ true → a < row
in-above row a [] h i = absurd (cc i)
in-above row a (x ∷ rows) h i =
    let p = and_both (nat_lt a x.row) (are_above a rows) h in
    elim (cases_Bool (nat_eq x.row row)) [
      | inl q ↦ grind (arith, nat_tests, p.0)
      | inr n ↦ in-above row a rows p.1 (rw n at i)
    ]

abbrev pub from_in : ℕ → (ℕ → Bool) → ℕ → Bool
from_in from p row = nat_le from row && p row

-- the list of a row's lane after the row has become ready
woken-ready : (p : ℕ → Bool) (row : ℕ) (rows : List Waiting) → in_order rows ≡ true → is_in row rows ≡ true → p row ≡ true → (first_ready (from_in row p) rows ≡ Some row → ⊥) → insert (ready_nodes p rows) (place_of (ready_nodes p rows) row) (record { key = row; value = row }) ≡ ready_nodes p (with_ready row rows)
woken-ready p row [] order in_rows pr fresh = absurd (cc in_rows)
woken-ready p row (x ∷ rows) order in_rows pr fresh =
    let o = and_both (are_above x.row rows) (in_order rows) order in
    elim (cases_Bool (nat_eq x.row row)) [
      | inl q ↦
          let same : x.row ≡ row = grind (arith, nat_tests) in
          let above = rw same at o.0 in
          let l : nat_le row x.row ≡ true = grind (arith, nat_tests) in
          let px : p x.row ≡ true = rw same pr in
          elim (cases_Bool x.ready) [
            | inl t ↦ absurd (fresh (rw (l, px, t) (ap Some same)))
            | inr f ↦ rw (q, f, px, place-above p row rows above, woken-above row rows above, same) refl
          ]
      | inr n ↦
          let later : is_in row rows ≡ true = rw n at in_rows in
          let less = in-above row x.row rows o.0 later in
          let l : nat_le row x.row ≡ false = grind (arith, nat_tests) in
          let g : nat_lt row x.row ≡ false = grind (arith, nat_tests) in
          let e = woken-ready p row rows o.1 later pr (λ h. fresh (rw l h)) in
          elim (cases_Bool (x.ready && p x.row)) [
            | inl t ↦ rw (n, t, g, one-more) (ap (λ r. node_of x ∷ r) e)
            | inr f ↦ rw (n, f) e
          ]
    ]

-- the list of another lane stays
woken-other : (p : ℕ → Bool) (row : ℕ) (rows : List Waiting) → p row ≡ false → ready_nodes p (with_ready row rows) ≡ ready_nodes p rows
woken-other p row [] f = refl
woken-other p row (x ∷ rows) f =
    let e = woken-other p row rows f in
    elim (cases_Bool (nat_eq x.row row)) [
      | inl q ↦
          let same : x.row ≡ row = grind (arith, nat_tests) in
          let g : p x.row ≡ false = rw same f in
          rw (q, g, and-none x.ready) e
      | inr n ↦ elim (cases_Bool (x.ready && p x.row)) [ inl t ↦ rw (n, t) (ap (λ r. node_of x ∷ r) e) | inr u ↦ rw (n, u) e ]
    ]

-- one ready row more
woken-count : (p : ℕ → Bool) (row : ℕ) (rows : List Waiting) → in_order rows ≡ true → is_in row rows ≡ true → p row ≡ true → (first_ready (from_in row p) rows ≡ Some row → ⊥) → ready_count (with_ready row rows) ≡ ready_count rows + 1
woken-count p row [] order in_rows pr fresh = absurd (cc in_rows)
woken-count p row (x ∷ rows) order in_rows pr fresh =
    let o = and_both (are_above x.row rows) (in_order rows) order in
    let s = sum_by-cons (λ (y : Waiting). cond y.ready 1 0) x rows in
    elim (cases_Bool (nat_eq x.row row)) [
      | inl q ↦
          let same : x.row ≡ row = grind (arith, nat_tests) in
          let above = rw same at o.0 in
          let l : nat_le row x.row ≡ true = grind (arith, nat_tests) in
          let px : p x.row ≡ true = rw same pr in
          elim (cases_Bool x.ready) [
            | inl t ↦ absurd (fresh (rw (l, px, t) (ap Some same)))
            | inr f ↦
                let y : cond {A = ℕ} x.ready 1 0 ≡ 0 = rw f refl in
                let v = sum_by-cons (λ (y : Waiting). cond y.ready 1 0) (record x { ready = true }) rows in
                let w : ready_count (with_ready row (x ∷ rows)) ≡ ready_count (record x { ready = true } ∷ rows) = rw (q, woken-above row rows above) refl in
                omega arith
          ]
      | inr n ↦
          let later : is_in row rows ≡ true = rw n at in_rows in
          let less = in-above row x.row rows o.0 later in
          let l : nat_le row x.row ≡ false = grind (arith, nat_tests) in
          let e = woken-count p row rows o.1 later pr (λ h. fresh (rw l h)) in
          let v = sum_by-cons (λ (y : Waiting). cond y.ready 1 0) x (with_ready row rows) in
          rw n (omega arith)
    ]

-- a row that is ready stays so
pub woken-same : (p : ℕ → Bool) (row : ℕ) (rows : List Waiting) → in_order rows ≡ true → is_in row rows ≡ true → first_ready (from_in row p) rows ≡ Some row → with_ready row rows ≡ rows
woken-same p row [] order in_rows e = refl
woken-same p row (x ∷ rows) order in_rows e =
    let o = and_both (are_above x.row rows) (in_order rows) order in
    elim (cases_Bool (nat_eq x.row row)) [
      | inl q ↦
          let same : x.row ≡ row = grind (arith, nat_tests) in
          let above = rw same at o.0 in
          elim (cases_Bool x.ready) [
            | inl t ↦ rw (q, woken-above row rows above, ← t) refl
            | inr f ↦ absurd (ready-above (from_in row p) row rows above (rw (f, and-none (from_in row p x.row)) at e))
          ]
      | inr n ↦
          let later : is_in row rows ≡ true = rw n at in_rows in
          let less = in-above row x.row rows o.0 later in
          let l : nat_le row x.row ≡ false = grind (arith, nat_tests) in
          rw (n, woken-same p row rows o.1 later (rw l at e)) refl
    ]

node-above : (p : ℕ → Bool) (a : ℕ) (rows : List Waiting) → are_above a rows ≡ true → list_all (λ (n : Node). nat_le a n.key) (ready_nodes p rows) ≡ true
node-above p a [] h = refl
node-above p a (x ∷ rows) h =
    let b = and_both (nat_lt a x.row) (are_above a rows) h in
    let e = node-above p a rows b.1 in
    let here : nat_le a x.row ≡ true = grind (arith, nat_tests, b.0) in
    elim (cases_Bool (x.ready && p x.row)) [
      | inl t ↦ rw (t, here) e
      | inr f ↦ rw f e
    ]

pub ready-sorted : (p : ℕ → Bool) (rows : List Waiting) → in_order rows ≡ true → in_key_order (ready_nodes p rows) ≡ true
ready-sorted p [] order = refl
ready-sorted p (x ∷ rows) order =
    let o = and_both (are_above x.row rows) (in_order rows) order in
    let e = ready-sorted p rows o.1 in
    elim (cases_Bool (x.ready && p x.row)) [
      | inl t ↦ rw (t, node-above p x.row rows o.0) e
      | inr f ↦ rw f e
    ]

-- a row that is not ready leaves a node spare
pub spare-for : (m : MachineMeaning) (bounds held lanes : List ℕ) (count : ℕ) (pool : Pool) (rows : List Waiting) (row : ℕ) → AreKept m bounds held lanes count pool rows → is_in row rows ≡ true → (first_ready (from_in row (in_lane lanes (lane_of lanes row))) rows ≡ Some row → ⊥) → 0 < pool.spare
spare-for m bounds held lanes count pool rows row kept in_rows fresh =
    let here : in_lane lanes (lane_of lanes row) row ≡ true = grind (arith, nat_tests) in
    let c = woken-count (in_lane lanes (lane_of lanes row)) row rows kept.order in_rows here fresh in
    let d = count_by-le-length (λ (x : Waiting). x.ready) (with_ready row rows) in
    let f = length-map rows (woken row) in
    let g = kept.fit in
    let k = kept.nodes in
    omega arith

-- the queues after a row has become ready
pub waked : (m : MachineMeaning) (bounds held lanes : List ℕ) (count : ℕ) (pool after : Pool) (rows : List Waiting) (row : ℕ) → AreKept m bounds held lanes count pool rows → is_in row rows ≡ true → (first_ready (from_in row (in_lane lanes (lane_of lanes row))) rows ≡ Some row → ⊥) → after ≡ with_list pool (lane_of lanes row) (insert (list_of pool (lane_of lanes row)) (place_of (list_of pool (lane_of lanes row)) row) (record { key = row; value = row })) (pool.spare - 1) → AreKept m bounds held lanes count after (with_ready row rows)
waked m bounds held lanes count pool after rows row kept in_rows fresh e =
    let lane = lane_of lanes row in
    let p = in_lane lanes lane in
    let here : p row ≡ true = grind (arith, nat_tests) in
    let list = kept.ready lane (kept.lane row) in
    let xs = insert (list_of pool lane) (place_of (list_of pool lane) row) (record { key = row; value = row }) in
    let some = spare-for m bounds held lanes count pool rows row kept in_rows fresh in
    let s = same-lists pool after lane xs (pool.spare - 1) e in
    record {
      bounds_len = kept.bounds_len;
      held_len = kept.held_len;
      bound = kept.bound;
      hold = λ r h. kept.hold r h ∙ sym (held-woken row rows r);
      order = order-woken row rows ∙ kept.order;
      body = kept.body;
      lane = kept.lane;
      lists = s.0 ∙ kept.lists;
      few = kept.few;
      ready = relisted pool after lane xs (pool.spare - 1) count (λ l. ready_nodes (in_lane lanes l) (with_ready row rows)) e (let a = kept.lane row in let b = kept.lists in omega arith) (rw list (woken-ready p row rows kept.order in_rows here fresh)) (λ k h n.
          let other : in_lane lanes k row ≡ false = grind (arith, nat_tests) in
          kept.ready k h ∙ sym (woken-other (in_lane lanes k) row rows other));
      small = kept.small;
      fit = let f = length-map rows (woken row) in let g = kept.fit in omega arith;
      nodes =
          let c = woken-count p row rows kept.order in_rows here fresh in
          let k = kept.nodes in
          let t = s.1 in
          omega arith;
    }

pub other-option : (r : Option ℕ) (row : ℕ) → true ≡ not (option_eq eqb r (Some row)) → r ≡ Some row → ⊥
other-option None row n e = absurd (cc e)
other-option (Some x) row n e = let f : x ≡ row = cc e in grind (arith, nat_tests)

pub same-option : (r : Option ℕ) (row : ℕ) → false ≡ not (option_eq eqb r (Some row)) → r ≡ Some row
same-option None row n = absurd (cc n)
same-option (Some x) row n = let f : x ≡ row = grind (arith, nat_tests) in ap Some f
