-- The rows of a run that wait, one more of them, and what they hold.
use Rattle.std.proofs.Common.{inl, inr, zero, suc, ◌≡◌, ◌≢◌, ℕ, ◌+◌, ◌<◌, ◌≤◌, Bool, true, false, ◌&&◌, List, [], ◌∷◌, ◌++◌, refl, ap, cond, arith, nat_lt, nat_eq, length}
use Rattle.std.specs.List.{list_all}
use Rattle.std.proofs.lemmas.Bool.{cases_Bool, cases_eq}
use Rattle.std.proofs.lemmas.Bool.Decides.{nat_tests}
use Rattle.std.proofs.lemmas.List.Sums.{sum_by_push}
use Rattle.std.proofs.lemmas.List.{append-nil}
use Rattle.machine_model.specs.declared.facts.Use.{Use}
use Rattle.cycle_rules.specs.Below.{count_below}
use Rattle.cycle_rules.specs.Row.{Input, Table, names, entries}
use Rattle.cycle_rules.specs.Dispatch.{has_room, fits_buffers}
use Rattle.issue_queues.specs.Waiting.{Waiting, name_one, held_in, has_entries, with_ready, without, is_in, IsIn, are_below}
use Rattle.issue_queues.specs.Flight.{row_at, rows_from, also}

rows-one : (g : Input) (t : Table) (ready : ℕ → Bool) (c a n : ℕ) → rows_from g t ready c a (suc n) ≡ rows_from g t ready c a n ++ cond (nat_lt c (t (a + n)).issue) (row_at g ready (a + n) ∷ []) []
rows-one g t ready c a zero = let e : a + 0 ≡ a = omega arith in rw e refl
rows-one g t ready c a (suc n) =
    let e : a + 1 + n ≡ a + suc n = omega arith in
    let r = rw e at (rows-one g t ready c (a + 1) n) in
    elim (cases_Bool (nat_lt c (t a).issue)) [
      | inl q ↦ rw q (ap (λ xs. row_at g ready a ∷ xs) r)
      | inr q ↦ rw q r
    ]

pub rows-last : (g : Input) (t : Table) (ready : ℕ → Bool) (c a n : ℕ) → rows_from g t ready c a (n + 1) ≡ rows_from g t ready c a n ++ cond (nat_lt c (t (a + n)).issue) (row_at g ready (a + n) ∷ []) []
rows-last g t ready c a n = let e : n + 1 ≡ suc n = omega arith in rw e (rows-one g t ready c a n)

pub rows-retire : (g : Input) (t : Table) (ready : ℕ → Bool) (c a n : ℕ) → (t a).issue ≤ c → rows_from g t ready c a (n + 1) ≡ rows_from g t ready c (a + 1) n
rows-retire g t ready c a n h =
    let e : n + 1 ≡ suc n = omega arith in
    let q : nat_lt c (t a).issue ≡ false = grind (arith, nat_tests) in
    rw (e, q) refl

pub rows-wake : (g : Input) (t : Table) (ready : ℕ → Bool) (c a n k : ℕ) → with_ready k (rows_from g t ready c a n) ≡ rows_from g t (also ready k) c a n
rows-wake g t ready c a zero k = refl
rows-wake g t ready c a (suc n) k =
    let r = rows-wake g t ready c (a + 1) n k in
    elim (cases_Bool (nat_lt c (t a).issue)) [
      | inl q ↦ elim (cases_Bool (nat_eq a k)) [ inl e ↦ rw (q, e, r) refl | inr e ↦ rw (q, e, r) refl ]
      | inr q ↦ rw q r
    ]

pub rows-issue : (g : Input) (s t : Table) (ready : ℕ → Bool) (b c a n k : ℕ) → (t k).issue ≤ c → ((i : ℕ) → a ≤ i → i < a + n → i ≢ k → nat_lt c (t i).issue ≡ nat_lt b (s i).issue) → without k (rows_from g s ready b a n) ≡ rows_from g t ready c a n
rows-issue g s t ready b c a zero k h same = refl
rows-issue g s t ready b c a (suc n) k h same =
    let r = rows-issue g s t ready b c (a + 1) n k h (λ i l m. same i (omega arith) (omega arith)) in
    elim (cases_Bool (nat_eq a k)) [
      | inl e ↦
          let i : a ≡ k = grind (arith, nat_tests) in
          let f : nat_lt c (t a).issue ≡ false = rw i (grind (arith, nat_tests)) in
          elim (cases_Bool (nat_lt b (s a).issue)) [ inl q ↦ rw (q, f, e) r | inr q ↦ rw (q, f) r ]
      | inr e ↦
          let n : a ≢ k = grind (arith, nat_tests) in
          let f = same a (omega arith) (omega arith) n in
          elim (cases_Bool (nat_lt b (s a).issue)) [ inl q ↦ rw (f, q, e, r) refl | inr q ↦ rw (f, q) r ]
    ]

pub rows-same : (g : Input) (s t : Table) (ready now : ℕ → Bool) (b c a n : ℕ) → ((i : ℕ) → a ≤ i → i < a + n → nat_lt c (t i).issue ≡ nat_lt b (s i).issue) → ((i : ℕ) → a ≤ i → i < a + n → ready i ≡ now i) → rows_from g s ready b a n ≡ rows_from g t now c a n
rows-same g s t ready now b c a zero same marks = refl
rows-same g s t ready now b c a (suc n) same marks =
    let r = rows-same g s t ready now b c (a + 1) n (λ i l m. same i (omega arith) (omega arith)) (λ i l m. marks i (omega arith) (omega arith)) in
    let f = same a (omega arith) (omega arith) in
    let m = marks a (omega arith) (omega arith) in
    rw (f, m, r) refl

-- row k names a resource and has not issued
abbrev waits-for : Input → Table → ℕ → ℕ → ℕ → Bool
waits-for g t c r k = names r (g.row k) && nat_lt c (t k).issue

and-false : (b : Bool) → (b && false) ≡ false
and-false true = refl
and-false false = refl

count-none : (p : ℕ → Bool) (n : ℕ) → ((k : ℕ) → k < n → p k ≡ false) → count_below n p ≡ 0
unfolding count_below
count-none p zero h = refl
count-none p (suc n) h = rw (h n (omega arith), count-none p n (λ k l. h k (omega arith))) refl

held-more : (g : Input) (t : Table) (ready : ℕ → Bool) (c r k : ℕ) (rows : List Waiting) → held_in (rows ++ cond (nat_lt c (t k).issue) (row_at g ready k ∷ []) []) r ≡ held_in rows r + cond (waits-for g t c r k) 1 0
unfolding names
held-more g t ready c r k rows = elim (cases_Bool (nat_lt c (t k).issue)) [
  | inl q ↦ elim (cases_Bool (name_one r (g.row k).uses)) [
    | inl m ↦ rw (q, m, sum_by_push (λ (x : Waiting). cond (name_one r x.uses) 1 0) rows (row_at g ready k), m) refl
    | inr m ↦ rw (q, m, sum_by_push (λ (x : Waiting). cond (name_one r x.uses) 1 0) rows (row_at g ready k), m) refl
  ]
  | inr q ↦ elim (cases_Bool (name_one r (g.row k).uses)) [
    | inl m ↦ rw (q, m, append-nil) (omega arith)
    | inr m ↦ rw (q, m, append-nil) (omega arith)
  ]
]

held-count : (g : Input) (t : Table) (ready : ℕ → Bool) (c r a n : ℕ) → held_in (rows_from g t ready c a n) r + count_below a (waits-for g t c r) ≡ count_below (a + n) (waits-for g t c r)
unfolding count_below
held-count g t ready c r a zero = let e : a + 0 ≡ a = omega arith in rw e (omega arith)
held-count g t ready c r a (suc n) =
    let e : a + suc n ≡ suc (a + n) = omega arith in
    let i = held-count g t ready c r a n in
    let m = held-more g t ready c r (a + n) (rows_from g t ready c a n) in
    rw (e, rows-one g t ready c a n, m, ← i) (omega arith)

-- what the rows in flight that wait leave free is what the rules of the run see
pub entries-same : (g : Input) (t : Table) (ready : ℕ → Bool) (c front n : ℕ) → ((k : ℕ) → k < front → (t k).issue ≤ c) → has_entries g.machine (rows_from g t ready c front n) (g.row (front + n)).uses ≡ fits_buffers g t (front + n) c
unfolding fits_buffers
entries-same g t ready c front n gone =
    let held : (w : Use) → has_room (entries (g.machine.buffer w.resource)) (held_in (rows_from g t ready c front n) w.resource) ≡ has_room (entries (g.machine.buffer w.resource)) (count_below (front + n) (waits-for g t c w.resource)) = λ w.
    let z : count_below front (waits-for g t c w.resource) ≡ 0 = count-none (waits-for g t c w.resource) front (λ k l. let i = gone k l in let q : nat_lt c (t k).issue ≡ false = grind (arith, nat_tests) in rw q (and-false (names w.resource (g.row k)))) in
    let h = held-count g t ready c w.resource front n in
    ap (has_room (entries (g.machine.buffer w.resource))) (omega arith) in
    ap (λ p. list_all p (g.row (front + n)).uses) (λ i w. held w i)

pub in-known : (g : Input) (t : Table) (ready : ℕ → Bool) (c a n k : ℕ) → a ≤ k → k < a + n → c < (t k).issue → is_in k (rows_from g t ready c a n) ≡ true
in-known g t ready c a zero k l h w = absurd (omega arith)
in-known g t ready c a (suc n) k l h w = elim (cases_eq a k) [
  | inl e ↦
      let q : nat_lt c (t a).issue ≡ true = rw e (grind (arith, nat_tests)) in
      let y : nat_eq a k ≡ true = grind (arith, nat_tests) in
      rw (q, y) refl
  | inr e ↦
      let r = in-known g t ready c (a + 1) n k (omega arith) (omega arith) w in
      let y : nat_eq a k ≡ false = grind (arith, nat_tests) in
      elim (cases_Bool (nat_lt c (t a).issue)) [ inl q ↦ rw (q, y) r | inr q ↦ rw q r ]
]

later : (k : ℕ) (uses : List Use) (x : Waiting) (rows : List Waiting) → (i : ℕ) × IsIn k uses rows i → (i : ℕ) × IsIn k uses (x ∷ rows) i
later k uses x rows p = (suc p.0, record { within = let w = p.1.within in omega arith; row_is = p.1.row_is; uses_are = p.1.uses_are })

pub at-known : (g : Input) (t : Table) (ready : ℕ → Bool) (c a n k : ℕ) → a ≤ k → k < a + n → c < (t k).issue → (i : ℕ) × IsIn k (g.row k).uses (rows_from g t ready c a n) i
at-known g t ready c a zero k l h w = absurd (omega arith)
at-known g t ready c a (suc n) k l h w = elim (cases_eq a k) [
  | inl e ↦
      let q : nat_lt c (t a).issue ≡ true = rw e (grind (arith, nat_tests)) in
      rw q (zero, record { within = omega arith; row_is = e; uses_are = ap (λ j. (g.row j).uses) e })
  | inr e ↦
      let r = at-known g t ready c (a + 1) n k (omega arith) (omega arith) w in
      elim (cases_Bool (nat_lt c (t a).issue)) [ inl q ↦ rw q (later k (g.row k).uses (row_at g ready a) (rows_from g t ready c (a + 1) n) r) | inr q ↦ rw q r ]
]

pub below-known : (g : Input) (t : Table) (ready : ℕ → Bool) (c a n k : ℕ) → a + n ≤ k → are_below k (rows_from g t ready c a n) ≡ true
below-known g t ready c a zero k h = refl
below-known g t ready c a (suc n) k h =
    let r = below-known g t ready c (a + 1) n k (omega arith) in
    let y : nat_lt a k ≡ true = grind (arith, nat_tests) in
    elim (cases_Bool (nat_lt c (t a).issue)) [ inl q ↦ rw (q, y) r | inr q ↦ rw q r ]

pub few-known : (g : Input) (t : Table) (ready : ℕ → Bool) (c a n : ℕ) → length (rows_from g t ready c a n) ≤ n
few-known g t ready c a zero = omega arith
few-known g t ready c a (suc n) =
    let r = few-known g t ready c (a + 1) n in
    elim (cases_Bool (nat_lt c (t a).issue)) [ inl q ↦ rw q (omega arith) | inr q ↦ rw q (omega arith) ]
