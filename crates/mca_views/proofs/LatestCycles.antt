-- The latest cycles of some rows, one row more at a time, and what the order of memory asks by them.
use Rattle.std.proofs.Common.{zero, suc, ◌≡◌, ℕ, ◌+◌, ◌<◌, arith, refl, sym, ◌∙◌, ap, Bool, true, false, ◌&&◌, ◌||◌}
use Rattle.std.specs.Prelude.{max, nat_lt, if◌then◌else◌}
use Rattle.std.proofs.lemmas.Bool.Decides.{nat_tests}
use Rattle.rv_isa.specs.declared.facts.Kind.{Kind}
use Rattle.rv_isa.specs.declared.facts.Kind.TheVariants.{Plain, Load, Store, Barrier}
use Rattle.cycle_rules.specs.CycleBound.{max_below}
use Rattle.cycle_rules.specs.Row.{Input, Table, is_load, is_store, is_barrier}
use Rattle.cycle_rules.specs.Issue.{is_fenced}
use Rattle.cycle_rules.specs.WaitTimes.{seen_from, by_phase, let_go, pass_time}
use Rattle.mca_views.specs.declared.latest.Latest.{Latest as LatestOf}
use Rattle.mca_views.specs.Past.{done_from, latest, IsLatest}

-- The greatest of some numbers

pub max_more : (n : ℕ) (f : ℕ → ℕ) → max_below (n + 1) f ≡ max (max_below n f) (f n)
unfolding max_below
max_more n f = let e : n + 1 ≡ suc n = omega arith in ap (λ m. max_below m f) e

pub max_same : (n : ℕ) (f h : ℕ → ℕ) → ((k : ℕ) → k < n → f k ≡ h k) → max_below n f ≡ max_below n h
unfolding max_below
max_same zero f h e = refl
max_same (suc n) f h e = λ i. max (max_same n f h (λ k lt. e k (omega (arith, lt))) i) (e n (omega arith) i)

pub max_zero : (n : ℕ) → max_below n (λ k. 0) ≡ 0
unfolding max_below
max_zero zero = refl
max_zero (suc n) = let rest : max_below n (λ k. 0) ≡ 0 = max_zero n in omega (arith, rest)

pub max_two : (n : ℕ) (f h : ℕ → ℕ) → max_below n (λ k. max (f k) (h k)) ≡ max (max_below n f) (max_below n h)
unfolding max_below
max_two zero f h = refl
max_two (suc n) f h = let rest : max_below n (λ k. max (f k) (h k)) ≡ max (max_below n f) (max_below n h) = max_two n f h in omega (arith, rest)

-- One row more

other : (x : ℕ) (b : Bool) (y : ℕ) → b ≡ false → x ≡ max x (if b then y else 0)
other x b y is = rw is (omega arith)

this : (x : ℕ) (b : Bool) (y : ℕ) → b ≡ true → max x y ≡ max x (if b then y else 0)
this x b y is = rw is refl

-- a row of another kind changes nothing, and one of the kind raises it
pub kept : (g : Input) (is : Kind → Bool) (f : ℕ → ℕ) (j x : ℕ) → x ≡ latest g is f j → is (g.row j).kind ≡ false → x ≡ latest g is f (j + 1)
kept g is f j x e no_ = e ∙ other (latest g is f j) (is (g.row j).kind) (f j) no_ ∙ sym (max_more j (λ k. if is (g.row k).kind then f k else 0))

pub raised : (g : Input) (is : Kind → Bool) (f : ℕ → ℕ) (j x y : ℕ) → x ≡ latest g is f j → is (g.row j).kind ≡ true → y ≡ f j → max x y ≡ latest g is f (j + 1)
raised g is f j x y e yes_ at = (λ i. max (e i) (at i)) ∙ this (latest g is f j) (is (g.row j).kind) (f j) yes_ ∙ sym (max_more j (λ k. if is (g.row k).kind then f k else 0))

-- the loads behind which a store or a barrier stands
abbrev pub fenced : Input → (ℕ → ℕ) → ℕ → ℕ
fenced g f j = max_below j (λ k. if is_load (g.row k).kind && is_fenced g k j then f k else 0)

fence_test : (b : Bool) (k j : ℕ) (s w r : Bool) → k < j → s ≡ false → w ≡ false → (b && (nat_lt k j && (s || w || r))) ≡ (b && r)
fence_test b k j s w r lt e f = let at : nat_lt k j ≡ true = grind (arith, nat_tests, lt) in rw (at, e, f) refl

fence_all : (b : Bool) (k j : ℕ) (s w r : Bool) → k < j → (s || w) ≡ true → (b && (nat_lt k j && (s || w || r))) ≡ b
fence_all true k j true w r lt e = let at : nat_lt k j ≡ true = grind (arith, nat_tests, lt) in rw at refl
fence_all true k j false true r lt e = let at : nat_lt k j ≡ true = grind (arith, nat_tests, lt) in rw at refl
fence_all true k j false false r lt e = absurd (cc)
fence_all false k j s w r lt e = refl

fence_self : (b : Bool) (j : ℕ) (s w r : Bool) → (b && (nat_lt j j && (s || w || r))) ≡ false
fence_self true j s w r = let at : nat_lt j j ≡ false = grind (arith, nat_tests) in rw at refl
fence_self false j s w r = refl

fenced_step : (g : Input) (f : ℕ → ℕ) (j : ℕ) → fenced g f (j + 1) ≡ max_below j (λ k. if is_load (g.row k).kind && is_fenced g k (suc j) then f k else 0)
unfolding is_fenced
fenced_step g f j =
    (let e : j + 1 ≡ suc j = omega arith in ap (λ n. fenced g f n) e)
    ∙ (let e : suc j ≡ j + 1 = omega arith in ap (λ n. max_below n (λ k. if is_load (g.row k).kind && is_fenced g k (suc j) then f k else 0)) e)
    ∙ max_more j (λ k. if is_load (g.row k).kind && is_fenced g k (suc j) then f k else 0)
    ∙ sym (other _ _ (f j) (fence_self (is_load (g.row j).kind) j (is_store (g.row j).kind) (is_barrier (g.row j).kind) (is_fenced g j j)))

pub fenced_kept : (g : Input) (f : ℕ → ℕ) (j x : ℕ) → x ≡ fenced g f j → is_store (g.row j).kind ≡ false → is_barrier (g.row j).kind ≡ false → x ≡ fenced g f (j + 1)
unfolding is_fenced
fenced_kept g f j x e s w = e ∙ max_same j _ _ (λ k lt. ap (λ b. if b then f k else 0) (sym (fence_test (is_load (g.row k).kind) k j (is_store (g.row j).kind) (is_barrier (g.row j).kind) (is_fenced g k j) lt s w))) ∙ sym (fenced_step g f j)

pub fenced_all : (g : Input) (f : ℕ → ℕ) (j x : ℕ) → x ≡ latest g is_load f j → (is_store (g.row j).kind || is_barrier (g.row j).kind) ≡ true → x ≡ fenced g f (j + 1)
unfolding is_fenced
fenced_all g f j x e fence = e ∙ max_same j _ _ (λ k lt. ap (λ b. if b then f k else 0) (sym (fence_all (is_load (g.row k).kind) k j (is_store (g.row j).kind) (is_barrier (g.row j).kind) (is_fenced g k j) lt fence))) ∙ sym (fenced_step g f j)

-- What the order of memory asks

load_asks : (b : Kind) (may_pass fence : Bool) (s w : ℕ)
    → let_go Load b may_pass fence s w ≡ max (if is_barrier b then w else 0) (max (if is_load b && fence then s else 0) (if is_store b then (if may_pass then 0 else w) else 0))
unfolding let_go is_load is_store is_barrier
load_asks Plain m f s w = refl
load_asks Load m true s w = omega arith
load_asks Load m false s w = refl
load_asks Store true f s w = refl
load_asks Store false f s w = omega arith
load_asks Barrier m f s w = omega arith

store_asks : (b : Kind) (may_pass fence : Bool) (s w : ℕ)
    → let_go Store b may_pass fence s w ≡ max (if is_barrier b then w else 0) (max (if is_load b then s else 0) (if is_store b then s else 0))
unfolding let_go is_load is_store is_barrier
store_asks Plain m f s w = refl
store_asks Load m f s w = omega arith
store_asks Store m f s w = omega arith
store_asks Barrier m f s w = omega arith

barrier_asks : (b : Kind) (may_pass fence : Bool) (s w : ℕ)
    → let_go Barrier b may_pass fence s w ≡ max (if is_barrier b then w else 0) (max (if is_load b then w else 0) (if is_store b then w else 0))
unfolding let_go is_load is_store is_barrier
barrier_asks Plain m f s w = refl
barrier_asks Load m f s w = omega arith
barrier_asks Store m f s w = omega arith
barrier_asks Barrier m f s w = omega arith

plain_asks : (b : Kind) (may_pass fence : Bool) (s w : ℕ) → let_go Plain b may_pass fence s w ≡ 0
unfolding let_go
plain_asks Plain m f s w = refl
plain_asks Load m f s w = refl
plain_asks Store m f s w = refl
plain_asks Barrier m f s w = refl

three : (n : ℕ) (f h k : ℕ → ℕ) → max_below n (λ x. max (f x) (max (h x) (k x))) ≡ max (max_below n f) (max (max_below n h) (max_below n k))
three n f h k = max_two n f (λ x. max (h x) (k x)) ∙ ap (λ m. max (max_below n f) m) (max_two n h k)

zero_either : (b : Bool) → ◌≡◌ {A = ℕ} (if b then 0 else 0) 0
zero_either true = refl
zero_either false = refl

none_passed : (g : Input) (f : ℕ → ℕ) (n : ℕ) (b : Bool) → max_below n (λ k. if is_store (g.row k).kind then (if b then 0 else f k) else 0) ≡ (if b then 0 else latest g is_store f n)
none_passed g f n false = refl
none_passed g f n true = max_same n _ _ (λ k _. zero_either (is_store (g.row k).kind)) ∙ max_zero n

-- of a row of a kind
abbrev pub order_of : Input → Table → ℕ → Kind → ℕ
order_of g t j a = max_below j (λ k. let_go a (g.row k).kind g.machine.limits.no_alias (is_fenced g k j) (seen_from g t (g.row j).reserved k) (done_from g t (g.row j).reserved k))

order_is : (g : Input) (t : Table) (j : ℕ) (a : Kind) → (g.row j).kind ≡ a → order_of g t j a ≡ max_below j (pass_time g t (by_phase g t j) j)
unfolding pass_time
order_is g t j a kind = ap (order_of g t j) (sym kind)

pub plain_order : (g : Input) (t : Table) (j : ℕ) → (g.row j).kind ≡ Plain → 0 ≡ max_below j (pass_time g t (by_phase g t j) j)
plain_order g t j kind = sym (max_same j _ _ (λ k _. plain_asks (g.row k).kind g.machine.limits.no_alias (is_fenced g k j) _ _) ∙ max_zero j) ∙ order_is g t j Plain kind

pub load_order : (g : Input) (t : Table) (j : ℕ) (l : LatestOf) → IsLatest g t (g.row j).reserved j l → (g.row j).kind ≡ Load
    → max l.barriers (max l.fenced_loads (if g.machine.limits.no_alias then 0 else l.stores)) ≡ max_below j (pass_time g t (by_phase g t j) j)
load_order g t j l is kind =
    (λ i. max (is.barriers i) (max (is.fenced_loads i) (if g.machine.limits.no_alias then 0 else is.stores i)))
    ∙ sym (max_same j _ _ (λ k _. load_asks (g.row k).kind g.machine.limits.no_alias (is_fenced g k j) _ _) ∙ three j _ _ _
    ∙ ap (λ m. max (latest g is_barrier (done_from g t (g.row j).reserved) j) (max (fenced g (seen_from g t (g.row j).reserved) j) m)) (none_passed g (done_from g t (g.row j).reserved) j g.machine.limits.no_alias))
    ∙ order_is g t j Load kind

pub store_order : (g : Input) (t : Table) (j : ℕ) (l : LatestOf) → IsLatest g t (g.row j).reserved j l → (g.row j).kind ≡ Store
    → max l.barriers (max l.issued_loads l.issued_stores) ≡ max_below j (pass_time g t (by_phase g t j) j)
store_order g t j l is kind =
    (λ i. max (is.barriers i) (max (is.issued_loads i) (is.issued_stores i)))
    ∙ sym (max_same j _ _ (λ k _. store_asks (g.row k).kind g.machine.limits.no_alias (is_fenced g k j) _ _) ∙ three j _ _ _)
    ∙ order_is g t j Store kind

pub barrier_order : (g : Input) (t : Table) (j : ℕ) (l : LatestOf) → IsLatest g t (g.row j).reserved j l → (g.row j).kind ≡ Barrier
    → max l.barriers (max l.loads l.stores) ≡ max_below j (pass_time g t (by_phase g t j) j)
barrier_order g t j l is kind =
    (λ i. max (is.barriers i) (max (is.loads i) (is.stores i)))
    ∙ sym (max_same j _ _ (λ k _. barrier_asks (g.row k).kind g.machine.limits.no_alias (is_fenced g k j) _ _) ∙ three j _ _ _)
    ∙ order_is g t j Barrier kind

-- One row more of each kind

abbrev pub cycles : ℕ → ℕ → ℕ → ℕ → ℕ → ℕ → LatestOf
cycles b s l is il fl = record { barriers = b; stores = s; loads = l; issued_stores = is; issued_loads = il; fenced_loads = fl }

pub none_before : (g : Input) (t : Table) (reserved : Bool) → IsLatest g t reserved 0 (cycles 0 0 0 0 0 0)
unfolding max_below
none_before g t reserved = record { barriers = refl; stores = refl; loads = refl; issued_stores = refl; issued_loads = refl; fenced_loads = refl }

pub plain_after : (g : Input) (t : Table) (reserved : Bool) (j : ℕ) (l : LatestOf) → IsLatest g t reserved j l → (g.row j).kind ≡ Plain → IsLatest g t reserved (j + 1) l
unfolding is_load is_store is_barrier
plain_after g t reserved j l is kind = record {
  barriers = kept g is_barrier (done_from g t reserved) j l.barriers is.barriers (ap is_barrier kind);
  stores = kept g is_store (done_from g t reserved) j l.stores is.stores (ap is_store kind);
  loads = kept g is_load (done_from g t reserved) j l.loads is.loads (ap is_load kind);
  issued_stores = kept g is_store (seen_from g t reserved) j l.issued_stores is.issued_stores (ap is_store kind);
  issued_loads = kept g is_load (seen_from g t reserved) j l.issued_loads is.issued_loads (ap is_load kind);
  fenced_loads = fenced_kept g (seen_from g t reserved) j l.fenced_loads is.fenced_loads (ap is_store kind) (ap is_barrier kind);
}

pub load_after : (g : Input) (t : Table) (reserved : Bool) (j i c : ℕ) (l : LatestOf) → IsLatest g t reserved j l → (g.row j).kind ≡ Load → i ≡ seen_from g t reserved j → c ≡ done_from g t reserved j
    → IsLatest g t reserved (j + 1) (cycles l.barriers l.stores (max l.loads c) l.issued_stores (max l.issued_loads i) l.fenced_loads)
unfolding is_load is_store is_barrier
load_after g t reserved j i c l is kind issued completed = record {
  barriers = kept g is_barrier (done_from g t reserved) j l.barriers is.barriers (ap is_barrier kind);
  stores = kept g is_store (done_from g t reserved) j l.stores is.stores (ap is_store kind);
  loads = raised g is_load (done_from g t reserved) j l.loads c is.loads (ap is_load kind) completed;
  issued_stores = kept g is_store (seen_from g t reserved) j l.issued_stores is.issued_stores (ap is_store kind);
  issued_loads = raised g is_load (seen_from g t reserved) j l.issued_loads i is.issued_loads (ap is_load kind) issued;
  fenced_loads = fenced_kept g (seen_from g t reserved) j l.fenced_loads is.fenced_loads (ap is_store kind) (ap is_barrier kind);
}

pub store_after : (g : Input) (t : Table) (reserved : Bool) (j i c : ℕ) (l : LatestOf) → IsLatest g t reserved j l → (g.row j).kind ≡ Store → i ≡ seen_from g t reserved j → c ≡ done_from g t reserved j
    → IsLatest g t reserved (j + 1) (cycles l.barriers (max l.stores c) l.loads (max l.issued_stores i) l.issued_loads l.issued_loads)
unfolding is_load is_store is_barrier
store_after g t reserved j i c l is kind issued completed = record {
  barriers = kept g is_barrier (done_from g t reserved) j l.barriers is.barriers (ap is_barrier kind);
  stores = raised g is_store (done_from g t reserved) j l.stores c is.stores (ap is_store kind) completed;
  loads = kept g is_load (done_from g t reserved) j l.loads is.loads (ap is_load kind);
  issued_stores = raised g is_store (seen_from g t reserved) j l.issued_stores i is.issued_stores (ap is_store kind) issued;
  issued_loads = kept g is_load (seen_from g t reserved) j l.issued_loads is.issued_loads (ap is_load kind);
  fenced_loads = fenced_all g (seen_from g t reserved) j l.issued_loads is.issued_loads (ap (λ k. is_store k || is_barrier k) kind);
}

pub barrier_after : (g : Input) (t : Table) (reserved : Bool) (j c : ℕ) (l : LatestOf) → IsLatest g t reserved j l → (g.row j).kind ≡ Barrier → c ≡ done_from g t reserved j
    → IsLatest g t reserved (j + 1) (cycles (max l.barriers c) l.stores l.loads l.issued_stores l.issued_loads l.issued_loads)
unfolding is_load is_store is_barrier
barrier_after g t reserved j c l is kind completed = record {
  barriers = raised g is_barrier (done_from g t reserved) j l.barriers c is.barriers (ap is_barrier kind) completed;
  stores = kept g is_store (done_from g t reserved) j l.stores is.stores (ap is_store kind);
  loads = kept g is_load (done_from g t reserved) j l.loads is.loads (ap is_load kind);
  issued_stores = kept g is_store (seen_from g t reserved) j l.issued_stores is.issued_stores (ap is_store kind);
  issued_loads = kept g is_load (seen_from g t reserved) j l.issued_loads is.issued_loads (ap is_load kind);
  fenced_loads = fenced_all g (seen_from g t reserved) j l.issued_loads is.issued_loads (ap (λ k. is_store k || is_barrier k) kind);
}
