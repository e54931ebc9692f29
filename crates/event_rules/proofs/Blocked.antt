-- A use that finds no unit finds none after more uses have taken units in the same cycle.
use Rattle.std.proofs.Common.{zero, suc, ◌≡◌, ℕ, ◌+◌, ◌-◌, ◌<◌, ◌≤◌, inl, inr, List, ◌++◌, arith, ◌∙◌, ap, refl, Bool, true, false, ◌&&◌, ◌||◌, not, subst}
use Rattle.std.specs.Prelude.{nat_eq, Option, Some, None}
use Rattle.std.specs.List.{list_any}
use Rattle.std.proofs.lemmas.Bool.{cases_Bool, cases_lt}
use Rattle.std.proofs.lemmas.List.Folds.{list_any-append}
use Rattle.unit_sets.specs.Below.{first_from, cyclic_from, or_else}
use Rattle.machine_model.specs.Meaning.{MachineMeaning}
use Rattle.cycle_rules.specs.Pick.{Taken, holds_at, is_free, place_after, pick_unit}

first_less : (a n : ℕ) (p q : ℕ → Bool) → ((u : ℕ) → p u ≡ false → q u ≡ false) → first_from a n p ≡ None → first_from a n q ≡ None
unfolding first_from
first_less a zero p q less gone_p = refl
first_less a (suc n) p q less gone_p = elim (cases_Bool (p a)) [
  | inl here ↦ absurd (found (rw here at gone_p))
  | inr gone ↦ rw (less a gone) (first_less (a + 1) n p q less (rw gone at gone_p))
]
  where
    found : Some a ≡ None → ⊥
    found e = cc

all_none : (a n : ℕ) (p : ℕ → Bool) → first_from a n p ≡ None → (u : ℕ) → a ≤ u → u < a + n → p u ≡ false
unfolding first_from
all_none a zero p e u le lt = absurd (omega (arith, le, lt))
all_none a (suc n) p e u le lt = elim (cases_Bool (p a)) [
  | inl here ↦ absurd (found (rw here at e))
  | inr gone ↦ elim (cases_lt a u) [ inl more ↦ all_none (a + 1) n p (rw gone at e) u (omega (arith, more)) (omega (arith, lt)) | inr same ↦ (let s : a ≡ u = omega (arith, le, same) in subst (λ v. p v ≡ false) s gone) ]
]
  where
    found : Some a ≡ None → ⊥
    found e = cc

none_of_all : (a n : ℕ) (p : ℕ → Bool) → ((u : ℕ) → a ≤ u → u < a + n → p u ≡ false) → first_from a n p ≡ None
unfolding first_from
none_of_all a zero p h = refl
none_of_all a (suc n) p h = rw (h a (omega arith) (omega arith)) (none_of_all (a + 1) n p (λ u lo hi. h u (omega (arith, lo)) (omega (arith, hi))))

pub blocked_stays : (m : MachineMeaning) (earlier more : List Taken) (c r : ℕ) → pick_unit m earlier c r ≡ None → pick_unit m (earlier ++ more) c r ≡ None
unfolding pick_unit cyclic_from is_free
blocked_stays m earlier more c r nothing =
    let second : first_from 0 m.unit_count (λ u. m.units r u && not (list_any (λ h. nat_eq h.unit u && holds_at c h) earlier)) ≡ None = last_none _ _ nothing in
    let all : first_from 0 m.unit_count (λ u. m.units r u && not (list_any (λ h. nat_eq h.unit u && holds_at c h) (earlier ++ more))) ≡ None = first_less 0 m.unit_count _ _ less second in
    both (first_from (place_after r (earlier ++ more)) (m.unit_count - place_after r (earlier ++ more)) q) (first_from 0 m.unit_count q) (from_none (place_after r (earlier ++ more)) all) all
  where
    q : ℕ → Bool
    q u = m.units r u && not (list_any (λ h. nat_eq h.unit u && holds_at c h) (earlier ++ more))

    last_none : (a b : Option ℕ) → or_else a b ≡ None → b ≡ None
    last_none (Some x) b e = cc
    last_none None b e = e

    both : (a b : Option ℕ) → a ≡ None → b ≡ None → or_else a b ≡ None
    both a b e f = rw (e, f) refl

    held : (x y z : Bool) → (x && not y) ≡ false → (x && not (y || z)) ≡ false
    held true true z e = refl
    held true false z e = cc
    held false y z e = refl

    less : (u : ℕ) → (m.units r u && not (list_any (λ h. nat_eq h.unit u && holds_at c h) earlier)) ≡ false → q u ≡ false
    less u e = ap (λ b. m.units r u && not b) (list_any-append (λ h. nat_eq h.unit u && holds_at c h) earlier more) ∙ held (m.units r u) _ (list_any (λ h. nat_eq h.unit u && holds_at c h) more) e

    from_none : (a : ℕ) → first_from 0 m.unit_count q ≡ None → first_from a (m.unit_count - a) q ≡ None
    from_none a e = none_of_all a (m.unit_count - a) q (λ u lo hi. all_none 0 m.unit_count q e u (omega arith) (omega (arith, hi, lo)))
