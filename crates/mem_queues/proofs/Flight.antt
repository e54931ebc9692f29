-- The rows of a run that the queues hold, from one event to the next.
use Rattle.std.proofs.Common.{inl, inr, zero, suc, ◌≡◌, ◌≢◌, ℕ, ◌+◌, ◌<◌, ◌≤◌, true, false, not, ◌&&◌, [], ◌∷◌, ◌++◌, length, refl, ap, sym, ◌∙◌, cond, subst, arith, nat_lt, nat_le, nat_eq}
use Rattle.std.proofs.lemmas.Bool.{cases_Bool}
use Rattle.std.proofs.lemmas.Bool.Decides.{nat_tests}
use Rattle.rv_isa.specs.declared.facts.Kind.TheVariants.{Plain}
use Rattle.cycle_rules.specs.Row.{Input, Table}
use Rattle.mem_queues.specs.Order.{MemRow, is_plain, kind_of, waits, are_below, with_issue, moved}
use Rattle.mem_queues.specs.Flight.{row_at, rows_from}
use Rattle.mem_queues.proofs.SameRule.{plain-is}
use Rattle.mem_queues.proofs.Going.{or-false}

rows-one : (g : Input) (t : Table) (c a n : ℕ) → rows_from g t c a (suc n) ≡ rows_from g t c a n ++ cond (is_plain (g.row (a + n)).kind) [] (row_at g t c (a + n) ∷ [])
rows-one g t c a zero = let e : a + 0 ≡ a = omega arith in rw e refl
rows-one g t c a (suc n) =
    let e : a + 1 + n ≡ a + suc n = omega arith in
    let r = rw e at (rows-one g t c (a + 1) n) in
    elim (cases_Bool (is_plain (g.row a).kind)) [
      | inl q ↦ rw q r
      | inr q ↦ rw q (ap (λ xs. row_at g t c a ∷ xs) r)
    ]

pub rows-last : (g : Input) (t : Table) (c a n : ℕ) → rows_from g t c a (n + 1) ≡ rows_from g t c a n ++ cond (is_plain (g.row (a + n)).kind) [] (row_at g t c (a + n) ∷ [])
rows-last g t c a n = let e : n + 1 ≡ suc n = omega arith in rw e (rows-one g t c a n)

pub rows-first : (g : Input) (t : Table) (c a n : ℕ) → rows_from g t c a (n + 1) ≡ cond (is_plain (g.row a).kind) (rows_from g t c (a + 1) n) (row_at g t c a ∷ rows_from g t c (a + 1) n)
rows-first g t c a n = let e : n + 1 ≡ suc n = omega arith in rw e refl

pub rows-same : (g : Input) (s t : Table) (b c a n : ℕ) → ((i : ℕ) → a ≤ i → i < a + n → row_at g s b i ≡ row_at g t c i) → rows_from g s b a n ≡ rows_from g t c a n
rows-same g s t b c a zero same = refl
rows-same g s t b c a (suc n) same =
    let r = rows-same g s t b c (a + 1) n (λ i l m. same i (omega arith) (omega arith)) in
    let x = same a (omega arith) (omega arith) in
    elim (cases_Bool (is_plain (g.row a).kind)) [ inl q ↦ rw q r | inr q ↦ rw q (λ i. x i ∷ r i) ]

moved-other : (k w : ℕ) (x : MemRow) → x.row ≢ k → moved k w x ≡ x
moved-other k w x n = let f : nat_eq x.row k ≡ false = grind (arith, nat_tests) in rw f refl

moved-at : (g : Input) (s t : Table) (b c k : ℕ) → (t k).issue ≤ c → moved k (t k).complete (row_at g s b k) ≡ row_at g t c k
moved-at g s t b c k h =
    let f : nat_eq k k ≡ true = grind (arith, nat_tests) in
    let e : nat_le (t k).issue c ≡ true = grind (arith, nat_tests) in
    rw (f, e) refl

pub rows-issue : (g : Input) (s t : Table) (b c a n k : ℕ) → (t k).issue ≤ c → ((i : ℕ) → a ≤ i → i < a + n → i ≢ k → row_at g s b i ≡ row_at g t c i) → with_issue k (t k).complete (rows_from g s b a n) ≡ rows_from g t c a n
rows-issue g s t b c a zero k h same = refl
rows-issue g s t b c a (suc n) k h same =
    let r = rows-issue g s t b c (a + 1) n k h (λ i l m. same i (omega arith) (omega arith)) in
    elim (cases_Bool (is_plain (g.row a).kind)) [
      | inl q ↦ rw q r
      | inr q ↦
          let x : moved k (t k).complete (row_at g s b a) ≡ row_at g t c a = elim (cases_Bool (nat_eq a k)) [
            | inl y ↦ let e : a ≡ k = grind (arith, nat_tests) in rw e (moved-at g s t b c k h)
            | inr y ↦ let e : a ≢ k = grind (arith, nat_tests) in moved-other k (t k).complete (row_at g s b a) e ∙ same a (omega arith) (omega arith) e
          ] in
          rw q (λ i. x i ∷ r i)
    ]

kind-before : (g : Input) (t : Table) (c a n j : ℕ) → j < a → kind_of j (rows_from g t c a n) ≡ Plain
kind-before g t c a zero j h = refl
kind-before g t c a (suc n) j h =
    let r = kind-before g t c (a + 1) n j (omega arith) in
    let f : nat_eq a j ≡ false = grind (arith, nat_tests) in
    elim (cases_Bool (is_plain (g.row a).kind)) [ inl q ↦ rw q r | inr q ↦ rw (q, f) r ]

pub kind-known : (g : Input) (t : Table) (c a n j : ℕ) → a ≤ j → j < a + n → kind_of j (rows_from g t c a n) ≡ (g.row j).kind
kind-known g t c a zero j l h = absurd (omega arith)
kind-known g t c a (suc n) j l h = elim (cases_Bool (nat_eq a j)) [
  | inl y ↦
      let e : a ≡ j = grind (arith, nat_tests) in
      elim (cases_Bool (is_plain (g.row a).kind)) [
        | inl q ↦ rw q (kind-before g t c (a + 1) n j (omega arith) ∙ sym (plain-is (g.row j).kind (rw e at q)))
        | inr q ↦ rw (q, y) (ap (λ k. (g.row k).kind) e)
      ]
  | inr y ↦
      let e : a ≢ j = grind (arith, nat_tests) in
      let r = kind-known g t c (a + 1) n j (omega arith) (omega arith) in
      elim (cases_Bool (is_plain (g.row a).kind)) [ inl q ↦ rw q r | inr q ↦ rw (q, y) r ]
]

waits-before : (g : Input) (t : Table) (c a n j : ℕ) → j < a → waits j (rows_from g t c a n) ≡ false
waits-before g t c a zero j h = refl
waits-before g t c a (suc n) j h =
    let r = waits-before g t c (a + 1) n j (omega arith) in
    let f : nat_eq a j ≡ false = grind (arith, nat_tests) in
    elim (cases_Bool (is_plain (g.row a).kind)) [ inl q ↦ rw q r | inr q ↦ rw (q, f) r ]

pub waits-known : (g : Input) (t : Table) (c a n j : ℕ) → a ≤ j → j < a + n → waits j (rows_from g t c a n) ≡ (not (is_plain (g.row j).kind) && not (nat_le (t j).issue c))
waits-known g t c a zero j l h = absurd (omega arith)
waits-known g t c a (suc n) j l h = elim (cases_Bool (nat_eq a j)) [
  | inl y ↦
      let e : a ≡ j = grind (arith, nat_tests) in
      let r = waits-before g t c (a + 1) n j (omega arith) in
      subst (λ k. waits j (rows_from g t c a (suc n)) ≡ (not (is_plain (g.row k).kind) && not (nat_le (t k).issue c))) e (elim (cases_Bool (is_plain (g.row a).kind)) [
        | inl q ↦ rw q r
        | inr q ↦ rw (q, y, r) (or-false (not (nat_le (t a).issue c)))
      ])
  | inr y ↦
      let e : a ≢ j = grind (arith, nat_tests) in
      let r = waits-known g t c (a + 1) n j (omega arith) (omega arith) in
      elim (cases_Bool (is_plain (g.row a).kind)) [ inl q ↦ rw q r | inr q ↦ rw (q, y) r ]
]

pub below-known : (g : Input) (t : Table) (c a n j : ℕ) → a + n ≤ j → are_below j (rows_from g t c a n) ≡ true
below-known g t c a zero j h = refl
below-known g t c a (suc n) j h =
    let r = below-known g t c (a + 1) n j (omega arith) in
    let f : nat_lt a j ≡ true = grind (arith, nat_tests) in
    elim (cases_Bool (is_plain (g.row a).kind)) [ inl q ↦ rw q r | inr q ↦ rw (q, f) r ]

pub few-known : (g : Input) (t : Table) (c a n : ℕ) → length (rows_from g t c a n) ≤ n
few-known g t c a zero = omega arith
few-known g t c a (suc n) =
    let r = few-known g t c (a + 1) n in
    elim (cases_Bool (is_plain (g.row a).kind)) [ inl q ↦ rw q (omega arith) | inr q ↦ rw q (omega arith) ]
