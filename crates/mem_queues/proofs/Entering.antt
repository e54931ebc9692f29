-- What the answer for a row that is about to enter is, by what is read of the lists: all rows that are in are below it.
use Rattle.std.proofs.Common.{inl, inr, zero, suc, ◌≡◌, ℕ, ◌≤◌, Bool, true, false, not, ◌&&◌, ◌||◌, List, [], ◌∷◌, ◌++◌, refl, ap, sym, ◌∙◌, arith, nat_lt, nat_le, nat_eq, is_some}
use Rattle.std.specs.List.{list_all, list_any, slice_get}
use Rattle.std.proofs.lemmas.Bool.{cases_Bool}
use Rattle.std.proofs.lemmas.Bool.Decides.{nat_tests}
use Rattle.rv_isa.specs.declared.facts.Kind.{Kind}
use Rattle.rv_isa.specs.declared.facts.Kind.TheVariants.{Plain, Load, Store, Barrier}
use Rattle.node_pool.specs.Pool.{before_key}
use Rattle.node_pool.specs.declared.node.Node.{Node}
use Rattle.cycle_rules.specs.Row.{is_load, is_store, is_barrier}
use Rattle.mem_queues.specs.Order.{MemRow, has_fence, is_fence, may_go, kind_of, waits, are_below}
use Rattle.mem_queues.specs.Queues.{in_order, keeps_order, waits_as, nodes_of}
use Rattle.mem_queues.specs.Firsts.{is_upto, is_free, fenced_first, goes_by}
use Rattle.mem_queues.proofs.Going.{and_both, and-none, or-true, one-more, any_before, fenced, late, no_kind, is_past, rule, go-plain, go-load, go-store, go-barrier}
use Rattle.mem_queues.proofs.Heads.{free-known}
use Rattle.mem_queues.proofs.Rows.{node_at, nodes-in, nodes-out, order-more, keeps-more}
use Rattle.mem_queues.proofs.Told.{is-load-load, is-store-load, none-before}

late-below : (may : Kind → Bool) (j : ℕ) (rows : List MemRow) → are_below j rows ≡ true → late may j rows ≡ true
late-below may j [] h = refl
late-below may j (x ∷ rows) h = let b = and_both (nat_lt x.row j) (are_below j rows) h in rw (b.0, late-below may j rows b.1) refl

-- the rows with the row that is about to enter

fence-more : (j : ℕ) (rows : List MemRow) (x : MemRow) → nat_lt x.row j ≡ false → has_fence j (rows ++ x ∷ []) ≡ has_fence j rows
fence-more j [] x n = rw n refl
fence-more j (y ∷ rows) x n = ap (λ b. (nat_lt y.row j && is_fence y.kind) || b) (fence-more j rows x n)

fenced-more : (j : ℕ) (rows : List MemRow) (x : MemRow) → nat_lt x.row j ≡ false → fenced j (rows ++ x ∷ []) ≡ fenced j rows
unfolding fenced
fenced-more j [] x n = rw (n, and-none (waits_as is_load x)) refl
fenced-more j (y ∷ rows) x n = rw (fence-more j rows x n, fenced-more j rows x n) refl

before-more : (p : MemRow → Bool) (j : ℕ) (rows : List MemRow) (x : MemRow) → nat_lt x.row j ≡ false → any_before p j (rows ++ x ∷ []) ≡ any_before p j rows
before-more p j [] x n = rw (n, and-none (p x)) refl
before-more p j (y ∷ rows) x n = ap (λ b. (p y && nat_lt y.row j) || b) (before-more p j rows x n)

waits-more : (j : ℕ) (rows : List MemRow) (x : MemRow) → nat_eq x.row j ≡ true → x.issued ≡ false → waits j (rows ++ x ∷ []) ≡ true
waits-more j [] x e i = rw (e, i) refl
waits-more j (y ∷ rows) x e i = rw (waits-more j rows x e i) (or-true (nat_eq y.row j && not y.issued))

kind-more : (j : ℕ) (rows : List MemRow) (x : MemRow) → are_below j rows ≡ true → nat_eq x.row j ≡ true → kind_of j (rows ++ x ∷ []) ≡ x.kind
kind-more j [] x h e = rw e refl
kind-more j (y ∷ rows) x h e =
    let b = and_both (nat_lt y.row j) (are_below j rows) h in
    let n : nat_eq y.row j ≡ false = grind (arith, nat_tests, b.0) in
    rw n (kind-more j rows x b.1 e)

-- what is read behind a key

upto-next : (j : ℕ) (x : Node) (xs : List Node) → nat_le x.key j ≡ true → ((i : ℕ) → is_upto j (slice_get xs i) ≡ is_some (slice_get xs i)) → (i : ℕ) → is_upto j (slice_get (x ∷ xs) i) ≡ is_some (slice_get (x ∷ xs) i)
upto-next j x xs le rest zero = le
upto-next j x xs le rest (suc i) = rest i

upto-all : (p : MemRow → Bool) (j : ℕ) (rows : List MemRow) → are_below j rows ≡ true → (i : ℕ) → is_upto j (slice_get (nodes_of p rows) i) ≡ is_some (slice_get (nodes_of p rows) i)
upto-all p j [] h zero = refl
upto-all p j [] h (suc i) = refl
upto-all p j (x ∷ rows) h i =
    let b = and_both (nat_lt x.row j) (are_below j rows) h in
    let le : nat_le x.row j ≡ true = grind (arith, nat_tests, b.0) in
    elim (cases_Bool (p x)) [ inl t ↦ rw t (upto-next j (node_at x.row) (nodes_of p rows) le (λ n. upto-all p j rows b.1 n) i) | inr f ↦ rw f (upto-all p j rows b.1 i) ]

none-behind : (p : MemRow → Bool) (j : ℕ) (rows : List MemRow) → are_below j rows ≡ true → is_some (slice_get (nodes_of p rows) (before_key j (nodes_of p rows))) ≡ false
none-behind p j [] h = refl
none-behind p j (x ∷ rows) h =
    let b = and_both (nat_lt x.row j) (are_below j rows) h in
    let n : nat_le j x.row ≡ false = grind (arith, nat_tests, b.0) in
    elim (cases_Bool (p x)) [ inl t ↦ rw (t, n, one-more) (none-behind p j rows b.1) | inr f ↦ rw f (none-behind p j rows b.1) ]

free-next : (p : MemRow → Bool) (j : ℕ) (rows : List MemRow) (stores : List Node) → are_below j rows ≡ true → ((i : ℕ) → is_upto j (slice_get stores i) ≡ is_some (slice_get stores i)) → is_some (slice_get stores (before_key j stores)) ≡ false → is_free j (nodes_of p rows ++ node_at j ∷ []) stores ≡ not (fenced_first (nodes_of p rows) stores)
free-next p j [] stores h upto none = let le : nat_le j j ≡ true = grind (arith, nat_tests) in rw (le, upto (before_key j stores), none) refl
free-next p j (x ∷ rows) stores h upto none =
    let b = and_both (nat_lt x.row j) (are_below j rows) h in
    let le : nat_le x.row j ≡ true = grind (arith, nat_tests, b.0) in
    elim (cases_Bool (p x)) [ inl t ↦ rw (t, le, upto (before_key x.row stores)) refl | inr f ↦ rw f (free-next p j rows stores b.1 upto none) ]

not-same : (a b : Bool) → not a ≡ not b → a ≡ b
not-same true true e = refl
not-same true false e = absurd (cc e)
not-same false true e = absurd (cc e)
not-same false false e = refl

-- a fence keeps a load from one that waits where a store stands behind the first of those
fenced-known : (na : Bool) (j : ℕ) (rows : List MemRow) → in_order rows ≡ true → keeps_order na rows ≡ true → are_below j rows ≡ true → any_before (waits_as is_barrier) j rows ≡ false → fenced_first (nodes_of (waits_as is_load) rows) (nodes_of (waits_as is_store) rows) ≡ fenced j rows
fenced-known na j rows order kept below none =
    let x : MemRow = record { row = j; kind = Load; issued = false; complete = 0 } in
    let here : nat_eq j j ≡ true = grind (arith, nat_tests) in
    let last : nat_lt j j ≡ false = grind (arith, nat_tests) in
    let load : waits_as is_load x ≡ true = rw is-load-load refl in
    let no_store : waits_as is_store x ≡ false = rw is-store-load refl in
    let free = free-known na j (rows ++ x ∷ []) (order-more rows x order below) (keeps-more na rows x refl ∙ kept) (waits-more j rows x here refl) (ap is_load (kind-more j rows x below here) ∙ is-load-load) (before-more (waits_as is_barrier) j rows x last ∙ none) in
    let told = rw (nodes-in (waits_as is_load) rows x load, nodes-out (waits_as is_store) rows x no_store, fenced-more j rows x last) at free in
    not-same (fenced_first (nodes_of (waits_as is_load) rows) (nodes_of (waits_as is_store) rows)) (fenced j rows)
    (sym (free-next (waits_as is_load) j rows (nodes_of (waits_as is_store) rows) below (upto-all (waits_as is_store) j rows below) (none-behind (waits_as is_store) j rows below)) ∙ told)

load-told : (na b s f g : Bool) → (b ≡ true → f ≡ g) → ((b && (na || s)) && not f) ≡ ((b && (na || s)) && not g)
load-told na true s f g h = rw (h refl) refl
load-told na false s f g h = refl

-- the test of a row that is about to enter, by what is read
pub enter-told : (na : Bool) (j c : ℕ) (rows : List MemRow) (k : Kind) → in_order rows ≡ true → keeps_order na rows ≡ true → are_below j rows ≡ true
    → goes_by k na (is_past is_barrier j c rows) (is_past is_load j c rows) (is_past is_store j c rows) (any_before (waits_as is_load) j rows) (any_before (waits_as is_store) j rows) (fenced_first (nodes_of (waits_as is_load) rows) (nodes_of (waits_as is_store) rows)) ≡ may_go k na j c rows
enter-told na j c rows Plain order kept below = sym (go-plain na j c rows)
enter-told na j c rows Load order kept below = load-told na (is_past is_barrier j c rows) (is_past is_store j c rows) (fenced_first (nodes_of (waits_as is_load) rows) (nodes_of (waits_as is_store) rows)) (fenced j rows)
    (λ past. fenced-known na j rows order kept below (none-before j c rows past)) ∙ sym (go-load na j c rows (late-below is_load j rows below))
enter-told na j c rows Store order kept below = sym (go-store na j c rows (late-below is_load j rows below))
enter-told na j c rows Barrier order kept below = sym (go-barrier na j c rows (late-below no_kind j rows below))
