-- The test of the queues is the rule of the run.
use Rattle.std.proofs.Common.{inl, inr, zero, suc, ◌≡◌, ℕ, ◌+◌, ◌-◌, ◌<◌, ◌≤◌, Bool, true, false, not, ◌&&◌, ◌||◌, refl, ap, sym, ◌∙◌, arith, nat_lt, nat_le}
use Rattle.std.proofs.lemmas.Bool.{cases_Bool, cases_lt}
use Rattle.std.proofs.lemmas.Bool.Decides.{nat_tests}
use Rattle.rv_isa.specs.declared.facts.Kind.{Kind}
use Rattle.rv_isa.specs.declared.facts.Kind.TheVariants.{Plain, Load, Store, Barrier}
use Rattle.cycle_rules.specs.Below.{all_below}
use Rattle.cycle_rules.specs.Row.{Input, Table, is_store, is_barrier}
use Rattle.cycle_rules.specs.Issue.{Older, older_row, is_fenced, memory_order, may_access}
use Rattle.mem_queues.specs.Order.{is_plain, is_fence, has_fence, may_go}
use Rattle.mem_queues.specs.Flight.{row_at, rows_from}
use Rattle.mem_queues.proofs.Going.{or-true, or-false, and-true}

order-plain : (a : Kind) (o : Older) → memory_order a Plain o ≡ true
unfolding memory_order
order-plain Plain o = refl
order-plain Load o = refl
order-plain Store o = refl
order-plain Barrier o = refl

-- an older row that has issued and completed holds nothing back
order-done : (a b : Kind) (may fenced : Bool) → memory_order a b (record { may_pass = may; fenced = fenced; issued = true; completed = true }) ≡ true
unfolding memory_order
order-done Plain b may fenced = refl
order-done Load Plain may fenced = refl
order-done Load Load may fenced = or-true (not fenced)
order-done Load Store may fenced = or-true may
order-done Load Barrier may fenced = refl
order-done Store Plain may fenced = refl
order-done Store Load may fenced = refl
order-done Store Store may fenced = refl
order-done Store Barrier may fenced = refl
order-done Barrier Plain may fenced = refl
order-done Barrier Load may fenced = refl
order-done Barrier Store may fenced = refl
order-done Barrier Barrier may fenced = refl

pub plain-is : (k : Kind) → is_plain k ≡ true → k ≡ Plain
plain-is Plain h = refl
plain-is Load h = absurd (cc h)
plain-is Store h = absurd (cc h)
plain-is Barrier h = absurd (cc h)

plain-free : is_fence Plain ≡ false
unfolding is_store is_barrier
plain-free = refl

abbrev fence-of : Input → ℕ → Bool
fence-of g m = is_fence (g.row m).kind

-- some, and all, of n numbers from one on pass
any_up : ℕ → ℕ → (ℕ → Bool) → Bool
any_up a zero p = false
any_up a (suc n) p = p a || any_up (a + 1) n p

all_up : ℕ → ℕ → (ℕ → Bool) → Bool
all_up a zero p = true
all_up a (suc n) p = p a && all_up (a + 1) n p

or-assoc : (x y z : Bool) → (x || (y || z)) ≡ ((x || y) || z)
or-assoc true y z = refl
or-assoc false y z = refl

or-comm : (x y : Bool) → (x || y) ≡ (y || x)
or-comm true true = refl
or-comm true false = refl
or-comm false true = refl
or-comm false false = refl

and-assoc : (x y z : Bool) → (x && (y && z)) ≡ ((x && y) && z)
and-assoc true y z = refl
and-assoc false y z = refl

any-last : (p : ℕ → Bool) (n a : ℕ) → any_up a (suc n) p ≡ (any_up a n p || p (a + n))
unfolding any_up
any-last p zero a = let e : a + 0 ≡ a = omega arith in rw e (or-false (p a))
any-last p (suc n) a =
    let e : a + 1 + n ≡ a + suc n = omega arith in
    let r = rw e at (any-last p n (a + 1)) in
    ap (λ b. p a || b) r ∙ or-assoc (p a) (any_up (a + 1) n p) (p (a + suc n))

all-last : (p : ℕ → Bool) (n a : ℕ) → all_up a (suc n) p ≡ (all_up a n p && p (a + n))
unfolding all_up
all-last p zero a = let e : a + 0 ≡ a = omega arith in rw e (and-true (p a))
all-last p (suc n) a =
    let e : a + 1 + n ≡ a + suc n = omega arith in
    let r = rw e at (all-last p n (a + 1)) in
    ap (λ b. p a && b) r ∙ and-assoc (p a) (all_up (a + 1) n p) (p (a + suc n))

fenced-up : (g : Input) (k j : ℕ) → is_fenced g k j ≡ any_up (k + 1) (j - (k + 1)) (fence-of g)
unfolding is_fenced any_up
fenced-up g k zero = let e : 0 - (k + 1) ≡ zero = omega arith in rw e refl
fenced-up g k (suc j) = elim (cases_lt k j) [
  | inl l ↦
      let t : nat_lt k j ≡ true = grind (arith, nat_tests) in
      let e : suc j - (k + 1) ≡ suc (j - (k + 1)) = omega arith in
      let f : k + 1 + (j - (k + 1)) ≡ j = omega arith in
      let r = rw f at (any-last (fence-of g) (j - (k + 1)) (k + 1)) in
      rw (t, e) (ap (λ b. fence-of g j || b) (fenced-up g k j) ∙ or-comm (fence-of g j) (any_up (k + 1) (j - (k + 1)) (fence-of g)) ∙ sym r)
  | inr l ↦
      let t : nat_lt k j ≡ false = grind (arith, nat_tests) in
      let e : suc j - (k + 1) ≡ zero = omega arith in
      rw (t, e) refl
]

has-fence-up : (g : Input) (t : Table) (c j n a : ℕ) → j ≤ a + n → has_fence j (rows_from g t c a n) ≡ any_up a (j - a) (fence-of g)
unfolding any_up
has-fence-up g t c j zero a h = let e : j - a ≡ zero = omega arith in rw e refl
has-fence-up g t c j (suc n) a h =
    let r = has-fence-up g t c j n (a + 1) (omega arith) in
    elim (cases_lt a j) [
      | inl l ↦
          let lt : nat_lt a j ≡ true = grind (arith, nat_tests) in
          let e : j - a ≡ suc (j - (a + 1)) = omega arith in
          elim (cases_Bool (is_plain (g.row a).kind)) [
            | inl q ↦
                let f : fence-of g a ≡ false = rw (plain-is (g.row a).kind q) plain-free in
                rw (q, e, f) r
            | inr q ↦ rw (q, e, lt) (ap (λ b. fence-of g a || b) r)
          ]
      | inr l ↦
          let lt : nat_lt a j ≡ false = grind (arith, nat_tests) in
          let e : j - a ≡ zero = omega arith in
          let f : j - (a + 1) ≡ zero = omega arith in
          let s = rw f at r in
          elim (cases_Bool (is_plain (g.row a).kind)) [
            | inl q ↦ rw (q, e) s
            | inr q ↦ rw (q, e, lt) s
          ]
    ]

-- what the rule asks of a row k older than j
abbrev asked : Input → Table → ℕ → ℕ → ℕ → Bool
asked g t j c k = memory_order (g.row j).kind (g.row k).kind (older_row g t j c k)

completed-at : (g : Input) (t : Table) (c k : ℕ) → (t k).issue ≤ (t k).complete → ((row_at g t c k).issued && nat_le (row_at g t c k).complete c) ≡ nat_le (t k).complete c
completed-at g t c k le = elim (cases_Bool (nat_le (t k).issue c)) [
  | inl q ↦ rw q refl
  | inr q ↦ rw q (grind (arith, nat_tests))
]

go-up : (g : Input) (t : Table) (c j n a : ℕ) → ((k : ℕ) → (t k).issue ≤ (t k).complete) → j ≤ a + n → may_go (g.row j).kind g.machine.limits.no_alias j c (rows_from g t c a n) ≡ all_up a n (λ k. not (nat_lt k j) || asked g t j c k)
unfolding all_up
go-up g t c j zero a le h = refl
go-up g t c j (suc n) a le h =
    let r = go-up g t c j n (a + 1) le (omega arith) in
    elim (cases_Bool (is_plain (g.row a).kind)) [
      | inl q ↦
          let p : asked g t j c a ≡ true = rw (plain-is (g.row a).kind q) (order-plain (g.row j).kind (older_row g t j c a)) in
          rw (q, p, or-true (not (nat_lt a j))) r
      | inr q ↦
          let f : has_fence j (rows_from g t c (a + 1) n) ≡ is_fenced g a j = has-fence-up g t c j n (a + 1) (omega arith) ∙ sym (fenced-up g a j) in
          rw (q, f, completed-at g t c a (le a), r) refl
    ]

all-append : (p : ℕ → Bool) (m n a : ℕ) → all_up a (m + n) p ≡ (all_up a m p && all_up (a + m) n p)
unfolding all_up
all-append p zero n a = let e : 0 + n ≡ n = omega arith in let f : a + 0 ≡ a = omega arith in rw (e, f) refl
all-append p (suc m) n a =
    let e : suc m + n ≡ suc (m + n) = omega arith in
    let f : a + 1 + m ≡ a + suc m = omega arith in
    let r = rw f at (all-append p m n (a + 1)) in
    rw e (ap (λ b. p a && b) r ∙ and-assoc (p a) (all_up (a + 1) m p) (all_up (a + suc m) n p))

all-true : (p : ℕ → Bool) (n a : ℕ) → ((k : ℕ) → a ≤ k → k < a + n → p k ≡ true) → all_up a n p ≡ true
unfolding all_up
all-true p zero a h = refl
all-true p (suc n) a h = rw (h a (omega arith) (omega arith), all-true p n (a + 1) (λ k l m. h k (omega arith) (omega arith))) refl

all-same : (p q : ℕ → Bool) (n a : ℕ) → ((k : ℕ) → a ≤ k → k < a + n → p k ≡ q k) → all_up a n p ≡ all_up a n q
unfolding all_up
all-same p q zero a h = refl
all-same p q (suc n) a h = rw (h a (omega arith) (omega arith), all-same p q n (a + 1) (λ k l m. h k (omega arith) (omega arith))) refl

all-below-up : (p : ℕ → Bool) (n : ℕ) → all_below n p ≡ all_up 0 n p
unfolding all_below all_up
all-below-up p zero = refl
all-below-up p (suc n) =
    let e : 0 + n ≡ n = omega arith in
    let r = rw e at (all-last p n 0) in
    ap (λ b. b && p n) (all-below-up p n) ∙ sym r

-- the test of the queues, over the rows in flight, is the rule of the run
pub same-rule : (g : Input) (t : Table) (c front n j : ℕ) → ((k : ℕ) → (t k).issue ≤ (t k).complete) → ((k : ℕ) → k < front → (t k).issue ≤ c) → ((k : ℕ) → k < front → (t k).complete ≤ c) → front ≤ j → j ≤ front + n → may_go (g.row j).kind g.machine.limits.no_alias j c (rows_from g t c front n) ≡ may_access g t j c
unfolding may_access
same-rule g t c front n j le issued completed fj jn =
    let m = j - front in
    let asks = λ (k : ℕ). not (nat_lt k j) || asked g t j c k in
    let e : n ≡ m + (n - m) = omega arith in
    let a : front + m ≡ j = omega arith in
    let split = rw (← e, a) at (all-append asks m (n - m) front) in
    let later : all_up j (n - m) asks ≡ true = all-true asks (n - m) j (λ k l h. let q : nat_lt k j ≡ false = grind (arith, nat_tests) in rw q refl) in
    let older : all_up front m asks ≡ all_up front m (asked g t j c) = all-same asks (asked g t j c) m front (λ k l h. let q : nat_lt k j ≡ true = grind (arith, nat_tests) in rw q refl) in
    let b : front + m ≡ j = omega arith in
    let z : 0 + front ≡ front = omega arith in
    let whole = rw (b, z) at (all-append (asked g t j c) front m 0) in
    let gone : all_up 0 front (asked g t j c) ≡ true = all-true (asked g t j c) front 0 (λ k l h.
    let i : nat_le (t k).issue c ≡ true = let v = issued k (omega arith) in grind (arith, nat_tests) in
    let w : nat_le (t k).complete c ≡ true = let v = completed k (omega arith) in grind (arith, nat_tests) in
    rw (i, w) (order-done (g.row j).kind (g.row k).kind g.machine.limits.no_alias (is_fenced g k j))) in
    go-up g t c j n front le jn ∙ split ∙ rw (later, older, all-below-up (asked g t j c) j, whole, gone) (and-true (all_up front m (asked g t j c)))
