-- Counts of cycles by the first condition that fails, where each condition but the last, once it holds, keeps holding.
use Rattle.std.proofs.Common.{zero, suc, ◌≡◌, ℕ, ◌+◌, ◌-◌, ◌<◌, ◌≤◌, inl, inr, arith, refl, sym, ◌∙◌, ap, subst, Bool, true, false, ◌&&◌, not}
use Rattle.std.specs.Prelude.{nat_eq, nat_le, nat_lt, if◌then◌else◌}
use Rattle.std.proofs.lemmas.Bool.{cases_lt, cases_eq, cases_Bool, and_parts, false≢true, not-true}
use Rattle.std.proofs.lemmas.Bool.Decides.{nat_tests}
use Rattle.cycle_rules.specs.Below.{sum_below, count_below}
use Rattle.cycle_rules.specs.Waits.{least_from}
use Rattle.dep_graph.specs.Stalls.{first_failing}
use Rattle.dep_graph.specs.Thresholds.{counted, threshold, mark}

-- The least of some numbers that passes

pub least_ge : (n a : ℕ) (p : ℕ → Bool) → a ≤ least_from a n p
least_ge zero a p = omega arith
least_ge (suc n) a p = elim (cases_Bool (p a)) [ inl h ↦ rw h (omega arith) | inr h ↦ rw h (omega (arith, least_ge n (a + 1) p)) ]

pub least_le : (n a : ℕ) (p : ℕ → Bool) → least_from a n p ≤ a + n
least_le zero a p = omega arith
least_le (suc n) a p = elim (cases_Bool (p a)) [ inl h ↦ rw h (omega arith) | inr h ↦ rw h (omega (arith, least_le n (a + 1) p)) ]

pub least_below : (n a : ℕ) (p : ℕ → Bool) (x : ℕ) → a ≤ x → x < least_from a n p → p x ≡ false
least_below zero a p x le lt = absurd (omega (arith, le, lt))
least_below (suc n) a p x le lt = elim (cases_Bool (p a)) [
  | inl h ↦ absurd (omega (arith, le, rw h at lt))
  | inr h ↦ elim (cases_eq x a) [ inl is ↦ rw is h | inr other ↦ least_below n (a + 1) p x (omega (arith, le, other)) (rw h at lt) ]
]

pub least_holds : (n a : ℕ) (p : ℕ → Bool) → least_from a n p < a + n → p (least_from a n p) ≡ true
least_holds zero a p lt = absurd (omega (arith, lt))
least_holds (suc n) a p lt = elim (cases_Bool (p a)) [
  | inl h ↦ (let e : a ≡ least_from a (suc n) p = rw h refl in subst (λ x. p x ≡ true) e h)
  | inr h ↦ (let e : least_from (a + 1) n p ≡ least_from a (suc n) p = rw h refl in subst (λ x. p x ≡ true) e (least_holds n (a + 1) p (omega (arith, lt, e))))
]

-- where all before fail and it passes, it is the least
pub least_is : (n a x : ℕ) (p : ℕ → Bool) → a ≤ x → x < a + n → ((y : ℕ) → a ≤ y → y < x → p y ≡ false) → p x ≡ true → least_from a n p ≡ x
least_is n a x p le lt below at =
    let l : ℕ = least_from a n p in
    elim (cases_lt l x) [
      | inl early ↦ absurd (false≢true (sym (below l (least_ge n a p) early) ∙ least_holds n a p (omega (arith, early, lt))))
      | inr not_early ↦ elim (cases_lt x l) [ inl late ↦ absurd (false≢true (sym (least_below n a p x le late) ∙ at)) | inr not_late ↦ omega (arith, not_early, not_late) ]
    ]

-- The first condition that fails

-- those before it hold
pub before_failing : (p : ℕ → Bool) (k q : ℕ) → first_failing p ≡ k → q < k → p q ≡ true
before_failing p k q is lt =
    let f : not (p q) ≡ false = least_below 7 0 (λ x. not (p x)) q (omega arith) (omega (arith, is, lt)) in
    elim (cases_Bool (p q)) [ inl h ↦ h | inr h ↦ absurd (false≢true (sym f ∙ ap not h)) ]

pub failing_fails : (p : ℕ → Bool) (k : ℕ) → first_failing p ≡ k → k < 7 → p k ≡ false
failing_fails p k is lt =
    let f : not (p (first_failing p)) ≡ true = least_holds 7 0 (λ x. not (p x)) (omega (arith, is, lt)) in
    not-true (p k) (subst (λ x. not (p x) ≡ true) is f)

pub failing_is : (p : ℕ → Bool) (k : ℕ) → k < 7 → ((q : ℕ) → q < k → p q ≡ true) → p k ≡ false → first_failing p ≡ k
failing_is p k lt before at = least_is 7 0 k (λ x. not (p x)) (omega arith) (omega (arith, lt)) (λ y _ l. ap not (before y l)) (ap not at)

-- Marks

pub mark_ge : (a n : ℕ) (p : ℕ → ℕ → Bool) (k : ℕ) → a ≤ mark a n p k
mark_ge a n p zero = omega arith
mark_ge a n p (suc k) = omega (arith, mark_ge a n p k)

pub mark_le : (a n : ℕ) (p : ℕ → ℕ → Bool) (k : ℕ) → mark a n p k ≤ a + n
mark_le a n p zero = omega arith
mark_le a n p (suc k) = omega (arith, mark_le a n p k, least_le n a (p k))

-- each of the first six, once it holds, keeps holding
abbrev pub Keeps : ℕ → ℕ → (ℕ → ℕ → Bool) → Type 0
Keeps a n p = (k x y : ℕ) → k < 6 → a ≤ x → x ≤ y → y < a + n → p k x ≡ true → p k y ≡ true

-- from its threshold on a condition holds, before it does not
holds_from : (a n : ℕ) (p : ℕ → ℕ → Bool) (k x : ℕ) → Keeps a n p → k < 6 → x < a + n → threshold a n p k ≤ x → p k x ≡ true
holds_from a n p k x keeps lt within le =
    keeps k (threshold a n p k) x lt (least_ge n a (p k)) le within (least_holds n a (p k) (omega (arith, le, within)))

-- at the mark all before hold
all_hold : (a n : ℕ) (p : ℕ → ℕ → Bool) (k x : ℕ) → Keeps a n p → k ≤ 6 → x < a + n → mark a n p k ≤ x → (q : ℕ) → q < k → p q x ≡ true
all_hold a n p zero x keeps few within le q lt = absurd (omega arith)
all_hold a n p (suc k) x keeps few within le q lt = elim (cases_lt q k) [
  | inl low ↦ all_hold a n p k x keeps (omega (arith, few)) within (omega (arith, le)) q low
  | inr here ↦ (let e : k ≡ q = omega (arith, here, lt) in subst (λ m. p m x ≡ true) e (holds_from a n p k x keeps (omega (arith, few)) within (omega (arith, le))))
]

-- where all before hold, the mark is reached
mark_reached : (a n : ℕ) (p : ℕ → ℕ → Bool) (k x : ℕ) → a ≤ x → ((q : ℕ) → q < k → p q x ≡ true) → mark a n p k ≤ x
mark_reached a n p zero x le h = le
mark_reached a n p (suc k) x le h =
    let rest : mark a n p k ≤ x = mark_reached a n p k x le (λ q lt. h q (omega (arith, lt))) in
    let at : threshold a n p k ≤ x = elim (cases_lt x (threshold a n p k)) [ inl early ↦ absurd (false≢true (sym (least_below n a (p k) x le early) ∙ h k (omega arith))) | inr late ↦ late ] in
    omega (arith, rest, at)

-- Counts

pub count_same : (n : ℕ) (p q : ℕ → Bool) → ((k : ℕ) → k < n → p k ≡ q k) → count_below n p ≡ count_below n q
unfolding count_below
count_same zero p q h = refl
count_same (suc n) p q h = let rest : count_below n p ≡ count_below n q = count_same n p q (λ k lt. h k (omega (arith, lt))) in rw (rest, h n (omega arith)) refl

-- the numbers below n from a number to another
pub count_between : (n lo hi : ℕ) → count_below n (λ x. nat_le lo x && nat_lt x hi) ≡ (if nat_lt n hi then n else hi) - lo
unfolding count_below
count_between zero lo hi = elim (cases_lt 0 hi) [ inl some ↦ (let t : nat_lt 0 hi ≡ true = grind (arith, nat_tests, some) in rw t (omega arith)) | inr none ↦ (let t : nat_lt 0 hi ≡ false = grind (arith, nat_tests, none) in rw t (omega (arith, none))) ]
count_between (suc n) lo hi =
    let rest = count_between n lo hi in
    grind (arith, nat_tests, rest)

pub same_bool : (x y : Bool) → (x ≡ true → y ≡ true) → (y ≡ true → x ≡ true) → x ≡ y
same_bool true y f g = sym (f refl)
same_bool false true f g = g refl
same_bool false false f g = refl

-- a cycle in which condition k is the first that fails lies between its mark and its threshold
failing_between : (a n : ℕ) (p : ℕ → ℕ → Bool) (k x : ℕ) → Keeps a n p → k < 6 → a ≤ x → x < a + n → nat_eq (first_failing (λ q. p q x)) k ≡ (nat_le (mark a n p k) x && nat_lt x (threshold a n p k))
failing_between a n p k x keeps few le lt = same_bool _ _
    (λ is.
    let f : first_failing (λ q. p q x) ≡ k = grind (arith, nat_tests, is) in
    let low : mark a n p k ≤ x = mark_reached a n p k x le (λ q l. before_failing (λ q. p q x) k q f l) in
    let high : x < threshold a n p k = elim (cases_lt x (threshold a n p k)) [ inl early ↦ early | inr late ↦ absurd (false≢true (sym (failing_fails (λ q. p q x) k f (omega (arith, few))) ∙ holds_from a n p k x keeps few lt late)) ] in
    grind (arith, nat_tests, low, high))
    (λ is.
    let parts : (nat_le (mark a n p k) x ≡ true) × (nat_lt x (threshold a n p k) ≡ true) = and_parts _ _ is in
    let low : mark a n p k ≤ x = grind (arith, nat_tests, parts.0) in
    let high : x < threshold a n p k = grind (arith, nat_tests, parts.1) in
    let f : first_failing (λ q. p q x) ≡ k = failing_is (λ q. p q x) k (omega (arith, few)) (all_hold a n p k x keeps (omega (arith, few)) lt low) (least_below n a (p k) x le high) in
    grind (arith, nat_tests, f))

-- the first six
pub counted_is : (a n : ℕ) (p : ℕ → ℕ → Bool) (k : ℕ) → Keeps a n p → k < 6 → counted a n p k ≡ mark a n p (suc k) - mark a n p k
counted_is a n p k keeps few =
    let m : ℕ = mark a n p k in
    let h : ℕ = threshold a n p k in
    let ge : a ≤ m = mark_ge a n p k in
    let le : m ≤ a + n = mark_le a n p k in
    let hge : a ≤ h = least_ge n a (p k) in
    let hle : h ≤ a + n = least_le n a (p k) in
    let each : (x : ℕ) → x < n → nat_eq (first_failing (λ q. p q (a + x))) k ≡ (nat_le (m - a) x && nat_lt x (h - a)) = λ x lt. failing_between a n p k (a + x) keeps few (omega arith) (omega (arith, lt)) ∙ shifted a m h x ge hge in
    let count : counted a n p k ≡ (if nat_lt n (h - a) then n else h - a) - (m - a) = count_same n _ _ each ∙ count_between n (m - a) (h - a) in
    let cut : (if nat_lt n (h - a) then n else h - a) ≡ h - a = (let t : nat_lt n (h - a) ≡ false = grind (arith, nat_tests, hle, hge) in rw t refl) in
    omega (arith, count, cut, ge, hge)
  where
    shifted : (a m h x : ℕ) → a ≤ m → a ≤ h → (nat_le m (a + x) && nat_lt (a + x) h) ≡ (nat_le (m - a) x && nat_lt x (h - a))
    shifted a m h x le hle = grind (arith, nat_tests)

-- what is left is the seventh, where in each cycle some condition fails
pub counted_last : (a n : ℕ) (p : ℕ → ℕ → Bool) → Keeps a n p → ((x : ℕ) → a ≤ x → x < a + n → first_failing (λ q. p q x) < 7) → counted a n p 6 ≡ (a + n) - mark a n p 6
counted_last a n p keeps fails =
    let m : ℕ = mark a n p 6 in
    let ge : a ≤ m = mark_ge a n p 6 in
    let le : m ≤ a + n = mark_le a n p 6 in
    let each : (x : ℕ) → x < n → nat_eq (first_failing (λ q. p q (a + x))) 6 ≡ (nat_le (m - a) x && nat_lt x n) = λ x lt. last_between a n p (a + x) x refl keeps lt (fails (a + x) (omega arith) (omega (arith, lt))) in
    let count : counted a n p 6 ≡ (if nat_lt n n then n else n) - (m - a) = count_same n _ _ each ∙ count_between n (m - a) n in
    let cut : (if nat_lt n n then n else n) ≡ n = (let t : nat_lt n n ≡ false = grind (arith, nat_tests) in rw t refl) in
    omega (arith, count, cut, ge, le)
  where
    last_between : (a n : ℕ) (p : ℕ → ℕ → Bool) (y x : ℕ) → y ≡ a + x → Keeps a n p → x < n → first_failing (λ q. p q y) < 7 → nat_eq (first_failing (λ q. p q y)) 6 ≡ (nat_le (mark a n p 6 - a) x && nat_lt x n)
    last_between a n p y x at keeps lt some = same_bool _ _
        (λ is.
        let f : first_failing (λ q. p q y) ≡ 6 = grind (arith, nat_tests, is) in
        let low : mark a n p 6 ≤ y = mark_reached a n p 6 y (omega (arith, at)) (λ q l. before_failing (λ q. p q y) 6 q f l) in
        let lower : mark a n p 6 - a ≤ x = omega (arith, low, at) in
        grind (arith, nat_tests, lower, lt))
        (λ is.
        let parts : (nat_le (mark a n p 6 - a) x ≡ true) × (nat_lt x n ≡ true) = and_parts _ _ is in
        let low : mark a n p 6 - a ≤ x = grind (arith, nat_tests, parts.0) in
        let all : (q : ℕ) → q < 6 → p q y ≡ true = all_hold a n p 6 y keeps (omega arith) (omega (arith, at, lt)) (omega (arith, low, at, mark_ge a n p 6)) in
        let f : first_failing (λ q. p q y) ≡ 6 = elim (cases_lt (first_failing (λ q. p q y)) 6) [
          | inl early ↦ absurd (false≢true (sym (failing_fails (λ q. p q y) (first_failing (λ q. p q y)) refl some) ∙ all (first_failing (λ q. p q y)) early))
          | inr late ↦ omega (arith, late, some)
        ] in
        grind (arith, nat_tests, f))

-- together they are all n
pub counted_all : (a n : ℕ) (p : ℕ → ℕ → Bool) → Keeps a n p → ((x : ℕ) → a ≤ x → x < a + n → first_failing (λ q. p q x) < 7) → sum_below 7 (counted a n p) ≡ n
unfolding sum_below
counted_all a n p keeps fails =
    let up : (k : ℕ) → mark a n p k ≤ mark a n p (suc k) = λ k. omega arith in
    omega (
      arith,
      counted_is a n p 0 keeps (omega arith),
      counted_is a n p 1 keeps (omega arith),
      counted_is a n p 2 keeps (omega arith),
      counted_is a n p 3 keeps (omega arith),
      counted_is a n p 4 keeps (omega arith),
      counted_is a n p 5 keeps (omega arith),
      counted_last a n p keeps fails,
      mark_ge a n p 0,
      mark_le a n p 6,
      up 0,
      up 1,
      up 2,
      up 3,
      up 4,
      up 5,
    )
