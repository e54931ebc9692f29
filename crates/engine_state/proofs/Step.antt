-- What is known after one more key of a schedule.
use Rattle.std.proofs.Common.{suc, ◌≡◌, ℕ, ◌/◌, ◌%◌, ◌<◌, inl, inr, arith, sym, ◌∙◌, ap, subst, refl, Some, None, nat_eq, true, false}
use Rattle.std.proofs.lemmas.Bool.Decides.{nat_tests}
use Rattle.std.proofs.lemmas.Bool.{cases_eq}
use Rattle.std.proofs.lemmas.Nat.{div-mul-add, mod-mul-add}
use Rattle.std.specs.declared.option.Option.{Option}
use Rattle.std.specs.Prelude.{if◌then◌else◌}
use Rattle.cycle_rules.specs.Schedule.{Fall, Known, key, Rules, next, known_at}

-- one event comes to be known
abbrev pub put : {P : Type 0} → Known P → ℕ → Option (Fall P) → Known P
put v e o x = if nat_eq x e then o else v x

next_other : {P : Type 0} (r : Rules P) (m k x : ℕ) (known : Known P) (o : Option (Fall P)) → (x ≡ k % m → ⊥) → next r m known k x o ≡ o
next_other r m k x known None ne = let none : nat_eq x (k % m) ≡ false = grind (arith, nat_tests, ne) in rw none refl
next_other r m k x known (Some f) ne = refl

next_refused : {P : Type 0} (r : Rules P) (m k x : ℕ) (known : Known P) (o : Option (Fall P)) → r.allowed known (k / m) x ≡ false → next r m known k x o ≡ o
next_refused r m k x known None no_more = grind (arith, no_more)
next_refused r m k x known (Some f) no_more = refl

-- an event that is known, or is not allowed, changes nothing at its key
pub step_known : {P : Type 0} (r : Rules P) (m c e : ℕ) (f : Fall P) → e < m → known_at r m (key m c e) e ≡ Some f → known_at r m (suc (key m c e)) ≡ known_at r m (key m c e)
step_known {P} r m c e f lt is = λ i x. same x i
  where
    same : (x : ℕ) → known_at r m (suc (key m c e)) x ≡ known_at r m (key m c e) x
    same x = elim (cases_eq x e) [
      | inl here ↦ subst (λ y. known_at r m (suc (key m c e)) y ≡ known_at r m (key m c e) y) (sym here) (ap (next r m (known_at r m (key m c e)) (key m c e) e) is ∙ sym is)
      | inr ne ↦ next_other r m (key m c e) x (known_at r m (key m c e)) (known_at r m (key m c e) x) (rw (mod-mul-add c m e lt) ne)
    ]

pub step_refused : {P : Type 0} (r : Rules P) (m c e : ℕ) → e < m → r.allowed (known_at r m (key m c e)) c e ≡ false → known_at r m (suc (key m c e)) ≡ known_at r m (key m c e)
step_refused {P} r m c e lt refused = λ i x. same x i
  where
    same : (x : ℕ) → known_at r m (suc (key m c e)) x ≡ known_at r m (key m c e) x
    same x = elim (cases_eq x e) [
      | inl here ↦ subst (λ y. known_at r m (suc (key m c e)) y ≡ known_at r m (key m c e) y) (sym here)
          (next_refused r m (key m c e) e (known_at r m (key m c e)) (known_at r m (key m c e) e) (rw (div-mul-add c m e lt) refused))
      | inr ne ↦ next_other r m (key m c e) x (known_at r m (key m c e)) (known_at r m (key m c e) x) (rw (mod-mul-add c m e lt) ne)
    ]

-- an event that is allowed and was not known comes to be known
pub step_falls : {P : Type 0} (r : Rules P) (m c e : ℕ) → e < m → known_at r m (key m c e) e ≡ None → r.allowed (known_at r m (key m c e)) c e ≡ true
    → known_at r m (suc (key m c e)) ≡ put (known_at r m (key m c e)) e (Some (record { cycle = c; what = r.takes (known_at r m (key m c e)) c e }))
step_falls {P} r m c e lt open_now can = λ i x. same x i
  where
    falls : known_at r m (suc (key m c e)) e ≡ Some (record { cycle = c; what = r.takes (known_at r m (key m c e)) c e })
    falls = ap (next r m (known_at r m (key m c e)) (key m c e) e) open_now ∙ (let here : nat_eq e e ≡ true = grind (arith, nat_tests) in rw (div-mul-add c m e lt, mod-mul-add c m e lt, here, can) refl)

    same : (x : ℕ) → known_at r m (suc (key m c e)) x ≡ put (known_at r m (key m c e)) e (Some (record { cycle = c; what = r.takes (known_at r m (key m c e)) c e })) x
    same x = elim (cases_eq x e) [
      | inl here ↦ (let test : nat_eq x e ≡ true = grind (arith, nat_tests) in rw test (subst (λ y. known_at r m (suc (key m c e)) y ≡ Some (record { cycle = c; what = r.takes (known_at r m (key m c e)) c e })) (sym here) falls))
      | inr ne ↦ (let test : nat_eq x e ≡ false = grind (arith, nat_tests, ne) in rw test (next_other r m (key m c e) x (known_at r m (key m c e)) (known_at r m (key m c e) x) (rw (mod-mul-add c m e lt) ne)))
    ]
