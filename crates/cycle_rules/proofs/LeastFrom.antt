-- The least of some numbers that passes.
use Rattle.std.proofs.Common.{zero, suc, ◌≡◌, ℕ, ◌+◌, ◌-◌, ◌<◌, ◌≤◌, inl, inr, arith, refl, sym, ◌∙◌, subst, Bool, true, false}
use Rattle.std.specs.Prelude.{nat_le, min, max}
use Rattle.std.proofs.lemmas.Bool.{cases_lt, cases_eq, cases_Bool}
use Rattle.std.proofs.lemmas.Bool.Decides.{nat_tests}
use Rattle.cycle_rules.specs.Waits.{least_from}

pub least_ge : (n a : ℕ) (p : ℕ → Bool) → a ≤ least_from a n p
least_ge zero a p = omega arith
least_ge (suc n) a p = elim (cases_Bool (p a)) [ inl h ↦ rw h (omega arith) | inr h ↦ rw h (omega (arith, least_ge n (a + 1) p)) ]

pub least_le : (n a : ℕ) (p : ℕ → Bool) → least_from a n p ≤ a + n
least_le zero a p = omega arith
least_le (suc n) a p = elim (cases_Bool (p a)) [ inl h ↦ rw h (omega arith) | inr h ↦ rw h (omega (arith, least_le n (a + 1) p)) ]

pub least_below : (n a : ℕ) (p : ℕ → Bool) (x : ℕ) → a ≤ x → x < least_from a n p → p x ≡ false
least_below zero a p x le lt = absurd (omega (arith, le, lt))
least_below (suc n) a p x le lt = elim (cases_Bool (p a)) [
  | inl h ↦ absurd (omega (arith, le, rw h at lt))
  | inr h ↦ elim (cases_eq x a) [ inl is ↦ rw is h | inr other ↦ least_below n (a + 1) p x (omega (arith, le, other)) (rw h at lt) ]
]

pub least_holds : (n a : ℕ) (p : ℕ → Bool) → least_from a n p < a + n → p (least_from a n p) ≡ true
least_holds zero a p lt = absurd (omega (arith, lt))
least_holds (suc n) a p lt = elim (cases_Bool (p a)) [
  | inl h ↦ (let e : a ≡ least_from a (suc n) p = rw h refl in subst (λ x. p x ≡ true) e h)
  | inr h ↦ (let e : least_from (a + 1) n p ≡ least_from a (suc n) p = rw h refl in subst (λ x. p x ≡ true) e (least_holds n (a + 1) p (omega (arith, lt, e))))
]

-- where the test passes exactly from m on
pub least_time : (n a m : ℕ) (p : ℕ → Bool) → ((c : ℕ) → a ≤ c → p c ≡ nat_le m c) → least_from a n p ≡ max a (min (a + n) m)
least_time n a m p h =
    let x : ℕ = least_from a n p in
    let low : a ≤ x = least_ge n a p in
    let high : x ≤ a + n = least_le n a p in
    elim (cases_lt x (a + n)) [
      | inl early ↦ (let at : nat_le m x ≡ true = sym (h x low) ∙ least_holds n a p early in let reached : m ≤ x = grind (arith, nat_tests, at) in
          elim (cases_lt (max a m) x) [
            | inl sooner ↦ (let not_yet : nat_le m (max a m) ≡ false = sym (h (max a m) (omega arith)) ∙ least_below n a p (max a m) (omega arith) sooner in absurd (grind (arith, nat_tests, not_yet)))
            | inr not_sooner ↦ omega (arith, reached, low, early, not_sooner)
          ])
      | inr end ↦ elim (cases_lt (max a m) x) [
        | inl sooner ↦ (let not_yet : nat_le m (max a m) ≡ false = sym (h (max a m) (omega arith)) ∙ least_below n a p (max a m) (omega arith) sooner in absurd (grind (arith, nat_tests, not_yet)))
        | inr not_sooner ↦ omega (arith, low, high, end, not_sooner)
      ]
    ]

-- the same, no later than a bound
pub least_until : (a end m : ℕ) (p : ℕ → Bool) → ((c : ℕ) → a ≤ c → p c ≡ nat_le m c) → least_from a (end - a) p ≡ max a (min end m)
least_until a end m p h = least_time (end - a) a m p h ∙ (let e : max a (min (a + (end - a)) m) ≡ max a (min end m) = omega arith in e)
