-- How the rows in flight that access memory change with the events of a cycle, and what their queues tell.
use Rattle.std.proofs.Common.{zero, suc, ◌≡◌, ℕ, ◌+◌, ◌-◌, ◌<◌, ◌≤◌, inl, inr, List, [], ◌∷◌, ◌++◌, length, set, drop, arith, sym, ◌∙◌, ap, subst, refl, Bool, true, false, ◌&&◌, cond}
use Rattle.std.specs.Prelude.{nat_lt, nat_le, nat_eq, if◌then◌else◌}
use Rattle.std.specs.List.{sum_by, count_by}
use Rattle.std.proofs.lemmas.Bool.Decides.{nat_tests}
use Rattle.std.proofs.lemmas.Bool.{cases_Bool, cases_eq}
use Rattle.std.proofs.lemmas.List.Sums.{sum_by-cons}
use Rattle.std.proofs.lemmas.List.{append-nil}
use Rattle.rv_isa.specs.declared.facts.Kind.{Kind}
use Rattle.rv_isa.specs.declared.facts.Kind.TheVariants.{Plain, Load, Store, Barrier}
use Rattle.cycle_rules.specs.Below.{sum_below, count_below}
use Rattle.cycle_rules.specs.Row.{Input, Table, is_load, is_store}
use Rattle.cycle_rules.specs.Dispatch.{has_room, is_held, fits_loads, fits_stores}
use Rattle.cycle_rules.specs.Issue.{may_access}
use Rattle.cycle_rules.specs.declared.times.Times.{Times}
use Rattle.mem_queues.specs.Order.{MemRow, is_plain, has_place, kind_of, may_go, with_issue, waits, retires_as}
use Rattle.mem_queues.specs.Flight.{row_at, rows_from}
use Rattle.mem_queues.proofs.Flight.{rows-last, rows-first, rows-same, rows-issue, waits-known, kind-known, few-known}
use Rattle.mem_queues.proofs.SameRule.{plain-is, same-rule}
use Rattle.engine_state.specs.State.{now, at, IsState}
use Rattle.engine_state.specs.Flight.{IsFlow, window}
use Rattle.engine_state.proofs.Taken.{now_other}
use Rattle.engine_state.proofs.Windows.{sum_window, count_sum}
use Rattle.engine_state.proofs.Flow.{flow_free, flow_held}
use Rattle.engine_steps.specs.Others.{fits_memory}
use Rattle.engine_steps.specs.Flight.{accesses}

-- the oldest of them has completed
pub accesses_done : (g : Input) (c front head : ℕ) (xs : List Times) → front < head → is_plain (g.row front).kind ≡ false → (now g c xs front).issue ≤ c → (now g c xs front).complete < c → retires_as front c (accesses g c xs front head) ≡ true
accesses_done g c front head xs lt kind issued completed =
    let count : suc (head - (front + 1)) ≡ head - front = omega arith in
    let a : nat_le (now g c xs front).issue c ≡ true = grind (arith, nat_tests, issued) in
    let b : nat_lt (now g c xs front).complete c ≡ true = grind (arith, nat_tests, completed) in
    let same : nat_eq front front ≡ true = grind (arith, nat_tests) in
    subst (λ n. retires_as front c (rows_from g (now g c xs) c front n) ≡ true) count (rw (kind, a, b, same) refl)

-- and leaves them as it retires
pub accesses_leave : (g : Input) (c front head : ℕ) (xs : List Times) (v : Times) → front < head → head ≤ g.rows
    → (if is_plain (g.row front).kind then accesses g c xs front head else drop 1 (accesses g c xs front head)) ≡ accesses g c (set xs front v) (front + 1) head
accesses_leave g c front head xs v lt within =
    let count : head - (front + 1) + 1 ≡ head - front = omega arith in
    let rest : List MemRow = rows_from g (now g c xs) c (front + 1) (head - (front + 1)) in
    let first : rows_from g (now g c xs) c front (head - front) ≡ cond (is_plain (g.row front).kind) rest (row_at g (now g c xs) c front ∷ rest) =
    subst (λ n. rows_from g (now g c xs) c front n ≡ cond (is_plain (g.row front).kind) rest (row_at g (now g c xs) c front ∷ rest)) count (rows-first g (now g c xs) c front (head - (front + 1))) in
    let same : rest ≡ rows_from g (now g c (set xs front v)) c (front + 1) (head - (front + 1)) =
    rows-same g (now g c xs) (now g c (set xs front v)) c c (front + 1) (head - (front + 1))
    (λ i le low. ap (λ (t : Times). record { row = i; kind = (g.row i).kind; issued = nat_le t.issue c; complete = if nat_le t.issue c then t.complete else 0 }) (sym (now_other g c front i xs v (omega (arith, low, lt, within)) (λ e. omega (arith, e, le))))) in
    rw first (less (is_plain (g.row front).kind) rest (row_at g (now g c xs) c front) ∙ same)
  where
    less : (b : Bool) (rows : List MemRow) (x : MemRow) → (if b then cond b rows (x ∷ rows) else drop 1 (cond b rows (x ∷ rows))) ≡ rows
    less true rows x = refl
    less false rows x = refl

-- a row that accesses no memory is not among them
still : (g : Input) (t : Table) (c a n j w : ℕ) → is_plain (g.row j).kind ≡ true → with_issue j w (rows_from g t c a n) ≡ rows_from g t c a n
still g t c a zero j w plain = refl
still g t c a (suc n) j w plain = elim (cases_Bool (is_plain (g.row a).kind)) [
  | inl q ↦ rw q (still g t c (a + 1) n j w plain)
  | inr q ↦ (let ne : a ≡ j → ⊥ = λ e. apart (sym plain ∙ ap (λ k. is_plain (g.row k).kind) (sym e) ∙ q) in
      let test : nat_eq a j ≡ false = grind (arith, nat_tests, ne) in
      rw (q, test) (ap (λ (xs : List MemRow). row_at g t c a ∷ xs) (still g t c (a + 1) n j w plain)))
]
  where
    apart : true ≡ false → ⊥
    apart e = cc

-- a row issues
pub accesses_issue : (g : Input) (c front head j w : ℕ) (xs : List Times) (v : Times) → front ≤ head → head ≤ g.rows → (now g c (set xs j v) j).issue ≤ c → (now g c (set xs j v) j).complete ≡ w
    → (if is_plain (g.row j).kind then accesses g c xs front head else with_issue j w (accesses g c xs front head)) ≡ accesses g c (set xs j v) front head
accesses_issue g c front head j w xs v order within issued is =
    let all : with_issue j w (accesses g c xs front head) ≡ accesses g c (set xs j v) front head =
    subst (λ n. with_issue j n (accesses g c xs front head) ≡ accesses g c (set xs j v) front head) is (rows-issue g (now g c xs) (now g c (set xs j v)) c c front (head - front) j issued
    (λ i le low ne. ap (λ (t : Times). record { row = i; kind = (g.row i).kind; issued = nat_le t.issue c; complete = if nat_le t.issue c then t.complete else 0 }) (sym (now_other g c j i xs v (omega (arith, low, order, within)) ne)))) in
    elim (cases_Bool (is_plain (g.row j).kind)) [
      | inl q ↦ rw q (sym (still g (now g c xs) c front (head - front) j w q) ∙ all)
      | inr q ↦ rw q all
    ]

-- the next row enters them
pub accesses_enter : (g : Input) (c front head : ℕ) (xs : List Times) → front ≤ head → c < (now g c xs head).issue
    → (if is_plain (g.row head).kind then accesses g c xs front head else accesses g c xs front head ++ record { row = head; kind = (g.row head).kind; issued = false; complete = 0 } ∷ []) ≡ accesses g c xs front (head + 1)
accesses_enter g c front head xs order waits =
    let count : head - front + 1 ≡ head + 1 - front = omega arith in
    let last : front + (head - front) ≡ head = omega arith in
    let t : Table = now g c xs in
    let here : accesses g c xs front (head + 1) ≡ accesses g c xs front head ++ cond (is_plain (g.row head).kind) [] (row_at g t c head ∷ []) =
    subst (λ n. rows_from g t c front n ≡ accesses g c xs front head ++ cond (is_plain (g.row head).kind) [] (row_at g t c head ∷ [])) count
    (subst (λ k. rows_from g t c front (head - front + 1) ≡ accesses g c xs front head ++ cond (is_plain (g.row k).kind) [] (row_at g t c k ∷ [])) last (rows-last g t c front (head - front))) in
    let late : nat_le (t head).issue c ≡ false = grind (arith, nat_tests, waits) in
    let row : ◌≡◌ {A = MemRow} (record { row = head; kind = (g.row head).kind; issued = false; complete = 0 }) (row_at g t c head) = rw late refl in
    choose (is_plain (g.row head).kind) (accesses g c xs front head) (record { row = head; kind = (g.row head).kind; issued = false; complete = 0 })
    ∙ ap (λ (x : MemRow). accesses g c xs front head ++ cond (is_plain (g.row head).kind) [] (x ∷ [])) row ∙ sym here
  where
    choose : (b : Bool) (rows : List MemRow) (x : MemRow) → (if b then rows else rows ++ x ∷ []) ≡ rows ++ cond b [] (x ∷ [])
    choose true rows x = simp append-nil
    choose false rows x = refl

-- and they stay the same where it does not issue
pub accesses_stay : (g : Input) (c front head : ℕ) (xs : List Times) (v : Times) → front ≤ head → head < g.rows → c < (now g c xs head).issue → c < (now g c (set xs head v) head).issue
    → accesses g c xs front (head + 1) ≡ accesses g c (set xs head v) front (head + 1)
accesses_stay g c front head xs v order lt before after = rows-same g (now g c xs) (now g c (set xs head v)) c c front (head + 1 - front) (λ i le low. elim (cases_eq i head) [
  | inl here ↦ subst (λ k. row_at g (now g c xs) c k ≡ row_at g (now g c (set xs head v)) c k) (sym here)
      (let a : nat_le (now g c xs head).issue c ≡ false = grind (arith, nat_tests, before) in
      let b : nat_le (now g c (set xs head v) head).issue c ≡ false = grind (arith, nat_tests, after) in rw (a, b) refl)
  | inr ne ↦ ap (λ (t : Times). record { row = i; kind = (g.row i).kind; issued = nat_le t.issue c; complete = if nat_le t.issue c then t.complete else 0 }) (sym (now_other g c head i xs v (omega (arith, low, order, lt)) ne))
])

-- What the queues tell is what the rules ask

pub access_tie : (g : Input) (c front head j : ℕ) (xs : List Times) → front ≤ j → j ≤ head → ((k : ℕ) → k < front → (now g c xs k).complete ≤ c)
    → may_go (g.row j).kind g.machine.limits.no_alias j c (accesses g c xs front head) ≡ may_access g (now g c xs) j c
access_tie g c front head j xs le low done = same-rule g (now g c xs) c front (head - front) j (λ k. omega arith) (λ k lt. (let d : (now g c xs k).complete ≤ c = done k lt in omega (arith, d))) done le (omega (arith, low, le))

-- how many of a kind they are
count_kind : (p : Kind → Bool) (g : Input) (t : Table) (c a n : ℕ) → p Plain ≡ false → count_by (λ x. p x.kind) (rows_from g t c a n) ≡ sum_by (λ k. if p (g.row k).kind then 1 else 0) (window (λ k. k) a n)
count_kind p g t c a zero plain = refl
count_kind p g t c a (suc n) plain =
    let rest : count_by (λ x. p x.kind) (rows_from g t c (a + 1) n) ≡ sum_by (λ k. if p (g.row k).kind then 1 else 0) (window (λ k. k) (a + 1) n) = count_kind p g t c (a + 1) n plain in
    let sum : sum_by (λ k. if p (g.row k).kind then 1 else 0) (a ∷ window (λ k. k) (a + 1) n) ≡ (if p (g.row a).kind then 1 else 0) + sum_by (λ k. if p (g.row k).kind then 1 else 0) (window (λ k. k) (a + 1) n) = sum_by-cons (λ k. if p (g.row k).kind then 1 else 0) a (window (λ k. k) (a + 1) n) in
    elim (cases_Bool (is_plain (g.row a).kind)) [
      | inl q ↦ (let none : p (g.row a).kind ≡ false = ap p (plain-is (g.row a).kind q) ∙ plain in
          rw q (rest ∙ sym (sum ∙ ap (λ b. (if b then 1 else 0) + sum_by (λ k. if p (g.row k).kind then 1 else 0) (window (λ k. k) (a + 1) n)) none ∙ (let z : 0 + sum_by (λ k. if p (g.row k).kind then 1 else 0) (window (λ k. k) (a + 1) n) ≡ sum_by (λ k. if p (g.row k).kind then 1 else 0) (window (λ k. k) (a + 1) n) = omega arith in z))))
      | inr q ↦ rw q (sum_by-cons (λ (x : MemRow). if p x.kind then 1 else 0) (row_at g t c a) (rows_from g t c (a + 1) n) ∙ ap (λ x. (if p (g.row a).kind then 1 else 0) + x) rest ∙ sym sum)
    ]

-- and how many older rows of a kind the rules count
count_held : (p : Kind → Bool) (g : Input) (c front head : ℕ) (xs : List Times) → IsState g (at g c 2 head) xs → IsFlow g xs front head → head < g.rows
    → count_below head (λ k. p (g.row k).kind && is_held (now g c xs) c k) ≡ sum_by (λ k. if p (g.row k).kind then 1 else 0) (window (λ k. k) front (head - front))
count_held p g c front head xs s flow lt =
    let sum : front + (head - front) ≡ head = omega (arith, flow.order) in
    count_sum head (λ k. p (g.row k).kind && is_held (now g c xs) c k)
    ∙ subst (λ n. sum_below n (λ k. if p (g.row k).kind && is_held (now g c xs) c k then 1 else 0) ≡ sum_by (λ k. if p (g.row k).kind then 1 else 0) (window (λ k. k) front (head - front))) sum
    (sum_window (λ k. if p (g.row k).kind && is_held (now g c xs) c k then 1 else 0) (λ k. if p (g.row k).kind then 1 else 0) (λ k. k) front (head - front)
    (λ k low. ap (λ b. if p (g.row k).kind && b then 1 else 0) (flow_free g c 2 head front head k xs s (omega arith) (omega (arith, lt)) flow low) ∙ none (p (g.row k).kind))
    (λ k le low. ap (λ b. if p (g.row k).kind && b then 1 else 0) (flow_held g c 2 head front head k xs s (omega arith) (omega (arith, lt)) flow le (omega (arith, low, flow.order, lt))) ∙ some (p (g.row k).kind)))
  where
    none : (b : Bool) → ◌≡◌ {A = ℕ} (if b && false then 1 else 0) 0
    none true = refl
    none false = refl

    some : (b : Bool) → ◌≡◌ {A = ℕ} (if b && true then 1 else 0) (if b then 1 else 0)
    some true = refl
    some false = refl

plain_loads : is_load Plain ≡ false
unfolding is_load
plain_loads = refl

plain_stores : is_store Plain ≡ false
unfolding is_store
plain_stores = refl

pub memory_tie : (g : Input) (c front head : ℕ) (xs : List Times) → IsState g (at g c 2 head) xs → IsFlow g xs front head → head < g.rows
    → has_place g.machine.limits (accesses g c xs front head) (g.row head).kind ≡ fits_memory g (now g c xs) head c
unfolding fits_loads fits_stores is_load is_store
memory_tie g c front head xs s flow lt = go (g.row head).kind refl
  where
    loads : count_by (λ x. is_load x.kind) (accesses g c xs front head) ≡ count_below head (λ k. is_load (g.row k).kind && is_held (now g c xs) c k)
    loads = count_kind is_load g (now g c xs) c front (head - front) plain_loads ∙ sym (count_held is_load g c front head xs s flow lt)

    stores : count_by (λ x. is_store x.kind) (accesses g c xs front head) ≡ count_below head (λ k. is_store (g.row k).kind && is_held (now g c xs) c k)
    stores = count_kind is_store g (now g c xs) c front (head - front) plain_stores ∙ sym (count_held is_store g c front head xs s flow lt)

    and_true : (b : Bool) → b ≡ (b && true)
    and_true true = refl
    and_true false = refl

    go : (k : Kind) → (g.row head).kind ≡ k → has_place g.machine.limits (accesses g c xs front head) k ≡ fits_memory g (now g c xs) head c
    go Load is = rw is (ap (has_room g.machine.limits.loads) loads ∙ and_true (has_room g.machine.limits.loads (count_below head (λ k. is_load (g.row k).kind && is_held (now g c xs) c k))))
    go Store is = rw is (ap (has_room g.machine.limits.stores) stores)
    go Barrier is = rw is refl
    go Plain is = rw is refl

-- a row in flight that accesses memory and has not issued waits among them
pub access_waits : (g : Input) (c front head j : ℕ) (xs : List Times) → front ≤ j → j < head → is_plain (g.row j).kind ≡ false → c < (now g c xs j).issue → waits j (accesses g c xs front head) ≡ true
access_waits g c front head j xs le lt kind late =
    let test : nat_le (now g c xs j).issue c ≡ false = grind (arith, nat_tests, late) in
    waits-known g (now g c xs) c front (head - front) j le (omega (arith, le, lt)) ∙ rw (kind, test) refl

-- and may go where the rules let it
pub access_goes : (g : Input) (c front head j : ℕ) (xs : List Times) → front ≤ j → j < head → ((k : ℕ) → k < front → (now g c xs k).complete ≤ c) → may_access g (now g c xs) j c ≡ true
    → may_go (kind_of j (accesses g c xs front head)) g.machine.limits.no_alias j c (accesses g c xs front head) ≡ true
access_goes g c front head j xs le lt done may =
    ap (λ (k : Kind). may_go k g.machine.limits.no_alias j c (accesses g c xs front head)) (kind-known g (now g c xs) c front (head - front) j le (omega (arith, le, lt)))
    ∙ access_tie g c front head j xs le (omega (arith, lt)) done ∙ may

-- no more of them than rows in flight
pub accesses_few : (g : Input) (t : Table) (c a n most : ℕ) → n < most → length (rows_from g t c a n) < most
accesses_few g t c a n most lt = omega (arith, few-known g t c a n, lt)
