-- What the answer for a row that waits is, by what is read of the lists.
use Rattle.std.proofs.Common.{◌≡◌, ℕ, ◌≤◌, Bool, true, false, not, ◌&&◌, ◌||◌, List, refl, ap, sym, ◌∙◌, nat_le}
use Rattle.std.specs.List.{list_all}
use Rattle.rv_isa.specs.declared.facts.Kind.{Kind}
use Rattle.rv_isa.specs.declared.facts.Kind.TheVariants.{Plain, Load, Store, Barrier}
use Rattle.node_pool.specs.declared.node.Node.{Node}
use Rattle.cycle_rules.specs.Row.{is_load, is_store, is_barrier}
use Rattle.mem_queues.specs.Order.{MemRow, is_plain, may_go, kind_of, waits}
use Rattle.mem_queues.specs.Queues.{in_order, keeps_order, done_by, waits_as, nodes_of, IsDone}
use Rattle.mem_queues.specs.Firsts.{starts_at, starts_below, is_free}
use Rattle.mem_queues.proofs.Going.{and_both, and-none, and-true, any_before, is_past, rule, go-by, not-true}
use Rattle.mem_queues.proofs.Heads.{below-known, at-kind, at-below, waits-behind, store-held, free-known}
use Rattle.mem_queues.proofs.Rows.{kind-real}

pub is-load-load : is_load Load ≡ true
unfolding is_load
is-load-load = refl

is-store-plain : is_store Plain ≡ false
unfolding is_store
is-store-plain = refl

pub is-store-load : is_store Load ≡ false
unfolding is_store
is-store-load = refl

is-store-store : is_store Store ≡ true
unfolding is_store
is-store-store = refl

is-store-barrier : is_store Barrier ≡ false
unfolding is_store
is-store-barrier = refl

is-barrier-plain : is_barrier Plain ≡ false
unfolding is_barrier
is-barrier-plain = refl

is-barrier-load : is_barrier Load ≡ false
unfolding is_barrier
is-barrier-load = refl

is-barrier-store : is_barrier Store ≡ false
unfolding is_barrier
is-barrier-store = refl

is-barrier-barrier : is_barrier Barrier ≡ true
unfolding is_barrier
is-barrier-barrier = refl

not-false : (b : Bool) → not b ≡ false → b ≡ true
not-false true h = refl
not-false false h = absurd (cc h)

-- no row waits that a barrier holds back
rule-none : (k : Kind) (na : Bool) (j c : ℕ) (rows : List MemRow) → is_plain k ≡ false → is_past is_barrier j c rows ≡ false → rule k na j c rows ≡ false
rule-none Plain na j c rows p h = absurd (cc p)
rule-none Load na j c rows p h = rw h refl
rule-none Store na j c rows p h = rw h refl
rule-none Barrier na j c rows p h = rw h refl

rule-barrier : (k : Kind) (na : Bool) (j c : ℕ) (rows : List MemRow) → is_barrier k ≡ true → is_past is_barrier j c rows ≡ true → rule k na j c rows ≡ (is_past is_load j c rows && is_past is_store j c rows)
rule-barrier Plain na j c rows p h = absurd (let e : true ≡ false = sym p ∙ is-barrier-plain in cc e)
rule-barrier Load na j c rows p h = absurd (let e : true ≡ false = sym p ∙ is-barrier-load in cc e)
rule-barrier Store na j c rows p h = absurd (let e : true ≡ false = sym p ∙ is-barrier-store in cc e)
rule-barrier Barrier na j c rows p h = rw h refl

rule-store : (k : Kind) (na : Bool) (j c : ℕ) (rows : List MemRow) → is_store k ≡ true → is_past is_barrier j c rows ≡ true → any_before (waits_as is_store) j rows ≡ false → rule k na j c rows ≡ not (any_before (waits_as is_load) j rows)
rule-store Plain na j c rows p h s = absurd (let e : true ≡ false = sym p ∙ is-store-plain in cc e)
rule-store Load na j c rows p h s = absurd (let e : true ≡ false = sym p ∙ is-store-load in cc e)
rule-store Barrier na j c rows p h s = absurd (let e : true ≡ false = sym p ∙ is-store-barrier in cc e)
rule-store Store na j c rows p h s = rw (h, s) (and-true (not (any_before (waits_as is_load) j rows)))

-- a row that is neither the first barrier nor the first store that waits
pub record IsBehind (na : Bool) (j c : ℕ) (rows : List MemRow) (k : Kind) (free : Bool) : Type 0 where
  pub kind : kind_of j rows ≡ k
  pub order : in_order rows ≡ true
  pub keeps : keeps_order na rows ≡ true
  pub wait : waits j rows ≡ true
  pub real : is_plain k ≡ false
  pub past : is_past is_barrier j c rows ≡ true
  pub barrier : starts_at j (nodes_of (waits_as is_barrier) rows) ≡ false
  pub store : starts_at j (nodes_of (waits_as is_store) rows) ≡ false
  pub free_is : is_free j (nodes_of (waits_as is_load) rows) (nodes_of (waits_as is_store) rows) ≡ free

pub none-before : (j c : ℕ) (rows : List MemRow) → is_past is_barrier j c rows ≡ true → any_before (waits_as is_barrier) j rows ≡ false
none-before j c rows h = not-true (any_before (waits_as is_barrier) j rows) ((and_both (not (any_before (waits_as is_barrier) j rows)) (done_by is_barrier c rows) h).0)

-- it is no barrier
barrier-first : (na : Bool) (j c : ℕ) (rows : List MemRow) (free : Bool) → IsBehind na j c rows Barrier free → ⊥
barrier-first na j c rows free b =
    let k : is_barrier (kind_of j rows) ≡ true = ap is_barrier b.kind ∙ is-barrier-barrier in
    let some = waits-behind is_barrier j rows b.order b.wait k b.barrier in
    let e : true ≡ false = sym some ∙ none-before j c rows b.past in
    cc e

rule-held : (na : Bool) (j c : ℕ) (rows : List MemRow) (k : Kind) → IsBehind na j c rows k false → rule k na j c rows ≡ false
rule-held na j c rows Plain b = absurd (let e = b.real in cc e)
rule-held na j c rows Load b =
    let k : is_load (kind_of j rows) ≡ true = ap is_load b.kind ∙ is-load-load in
    let f = sym (free-known na j rows b.order b.keeps b.wait k (none-before j c rows b.past)) ∙ b.free_is in
    rw f (and-none (is_past is_barrier j c rows && (na || is_past is_store j c rows)))
rule-held na j c rows Store b =
    let k : is_store (kind_of j rows) ≡ true = ap is_store b.kind ∙ is-store-store in
    let some = waits-behind is_store j rows b.order b.wait k b.store in
    rw some (and-none (is_past is_barrier j c rows && not (any_before (waits_as is_load) j rows)))
rule-held na j c rows Barrier b = absurd (barrier-first na j c rows false b)

rule-free : (na : Bool) (j c : ℕ) (rows : List MemRow) (k : Kind) → IsBehind na j c rows k true → rule k na j c rows ≡ (na || is_past is_store j c rows)
rule-free na j c rows Plain b = absurd (let e = b.real in cc e)
rule-free na j c rows Load b =
    let k : is_load (kind_of j rows) ≡ true = ap is_load b.kind ∙ is-load-load in
    let f = sym (free-known na j rows b.order b.keeps b.wait k (none-before j c rows b.past)) ∙ b.free_is in
    rw (f, b.past) (and-true (na || is_past is_store j c rows))
rule-free na j c rows Store b =
    let k : is_store (kind_of j rows) ≡ true = ap is_store b.kind ∙ is-store-store in
    absurd (let e : true ≡ false = sym b.free_is ∙ store-held j rows (nodes_of (waits_as is_load) rows) b.order b.wait k in cc e)
rule-free na j c rows Barrier b = absurd (barrier-first na j c rows true b)

-- a queue whose rows are past, as it is read
pub past-told : (of_kind : Kind → Bool) (done since j c : ℕ) (list : List Node) (rows : List MemRow) → in_order rows ≡ true → IsDone of_kind done since rows → since ≤ c → list ≡ nodes_of (waits_as of_kind) rows → (not (starts_below j list) && nat_le done c) ≡ is_past of_kind j c rows
past-told of_kind done since j c list rows o d h e = rw (e, below-known (waits_as of_kind) j rows o, d c h) refl

-- the test of a row that waits, by what is read
pub none-told : (na : Bool) (j c : ℕ) (rows : List MemRow) → in_order rows ≡ true → list_all (λ (y : MemRow). not (is_plain y.kind)) rows ≡ true → keeps_order na rows ≡ true → waits j rows ≡ true → is_past is_barrier j c rows ≡ false → false ≡ may_go (kind_of j rows) na j c rows
none-told na j c rows o r k w h = sym (go-by na j c rows (kind_of j rows) o k w refl ∙ rule-none (kind_of j rows) na j c rows (kind-real j rows w r) h)

pub barrier-told : (na : Bool) (j c : ℕ) (rows : List MemRow) → in_order rows ≡ true → keeps_order na rows ≡ true → waits j rows ≡ true → is_past is_barrier j c rows ≡ true → starts_at j (nodes_of (waits_as is_barrier) rows) ≡ true → (is_past is_load j c rows && is_past is_store j c rows) ≡ may_go (kind_of j rows) na j c rows
barrier-told na j c rows o k w h s = sym (go-by na j c rows (kind_of j rows) o k w refl ∙ rule-barrier (kind_of j rows) na j c rows (at-kind is_barrier j rows o s) h)

pub store-told : (na : Bool) (j c : ℕ) (rows : List MemRow) → in_order rows ≡ true → keeps_order na rows ≡ true → waits j rows ≡ true → is_past is_barrier j c rows ≡ true → starts_at j (nodes_of (waits_as is_store) rows) ≡ true → not (any_before (waits_as is_load) j rows) ≡ may_go (kind_of j rows) na j c rows
store-told na j c rows o k w h s = sym (go-by na j c rows (kind_of j rows) o k w refl ∙ rule-store (kind_of j rows) na j c rows (at-kind is_store j rows o s) h (sym (below-known (waits_as is_store) j rows o) ∙ at-below j (nodes_of (waits_as is_store) rows) s))

pub held-told : (na : Bool) (j c : ℕ) (rows : List MemRow) → IsBehind na j c rows (kind_of j rows) false → false ≡ may_go (kind_of j rows) na j c rows
held-told na j c rows b = sym (go-by na j c rows (kind_of j rows) b.order b.keeps b.wait refl ∙ rule-held na j c rows (kind_of j rows) b)

pub free-told : (na : Bool) (j c : ℕ) (rows : List MemRow) → IsBehind na j c rows (kind_of j rows) true → (na || is_past is_store j c rows) ≡ may_go (kind_of j rows) na j c rows
free-told na j c rows b = sym (go-by na j c rows (kind_of j rows) b.order b.keeps b.wait refl ∙ rule-free na j c rows (kind_of j rows) b)

-- a row that may issue and is neither the first barrier nor the first store that waits is a load
pub load-told : (na : Bool) (j c : ℕ) (rows : List MemRow) (k : Kind) → kind_of j rows ≡ k → in_order rows ≡ true → list_all (λ (y : MemRow). not (is_plain y.kind)) rows ≡ true → keeps_order na rows ≡ true → waits j rows ≡ true → may_go k na j c rows ≡ true → starts_at j (nodes_of (waits_as is_barrier) rows) ≡ false → starts_at j (nodes_of (waits_as is_store) rows) ≡ false → is_load k ≡ true
load-told na j c rows Plain e o r k w g b s = absurd (let p : is_plain Plain ≡ false = rw e at (kind-real j rows w r) in cc p)
load-told na j c rows Load e o r k w g b s = is-load-load
load-told na j c rows Store e o r k w g b s =
    let t : is_store (kind_of j rows) ≡ true = ap is_store e ∙ is-store-store in
    let some = waits-behind is_store j rows o w t s in
    absurd (let z : true ≡ false = sym g ∙ (go-by na j c rows Store o k w e ∙ rw some (and-none (is_past is_barrier j c rows && not (any_before (waits_as is_load) j rows)))) in cc z)
load-told na j c rows Barrier e o r k w g b s =
    let t : is_barrier (kind_of j rows) ≡ true = ap is_barrier e ∙ is-barrier-barrier in
    let some = waits-behind is_barrier j rows o w t b in
    absurd (let z : true ≡ false = sym g ∙ (go-by na j c rows Barrier o k w e ∙ rw some refl) in cc z)
