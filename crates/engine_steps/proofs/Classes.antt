-- The classes of rows, by which those that are ready are kept.
use Rattle.std.proofs.Common.{◌≡◌, ◌<◌, inl, inr, List, [], ◌∷◌, length, sym, refl, arith}
use Rattle.std.specs.Prelude.{nat_lt, nat_eq}
use Rattle.std.proofs.lemmas.Bool.{cases_Bool, ltb-true}
use Rattle.machine_model.specs.declared.facts.Use.{Use}
use Rattle.cycle_rules.specs.Row.{Row}
use Rattle.engine_steps.specs.Refused.{HasOneUse}
use Rattle.engine_steps.specs.Wake.{class_of, class_of_use}

use_low : (u : Use) → class_of_use u < 64
use_low u = elim (cases_Bool (nat_eq u.hold 0)) [
  | inl none ↦ rw none (omega arith)
  | inr some ↦ elim (cases_Bool (nat_lt u.resource 63)) [
    | inl low ↦ (let lt : u.resource < 63 = ltb-true u.resource 63 low in rw (some, low) (omega (arith, lt)))
    | inr high ↦ rw (some, high) (omega arith)
  ]
]

pub class_low : (uses : List Use) → class_of uses < 64
unfolding class_of
class_low [] = omega arith
class_low (u ∷ []) = use_low u
class_low (u ∷ v ∷ rest) = omega arith

-- more uses than one, or none
pub class_none : (uses : List Use) → (length uses ≡ 1 → ⊥) → 63 ≡ class_of uses
unfolding class_of
class_none [] ne = refl
class_none (u ∷ []) ne = absurd (ne refl)
class_none (u ∷ v ∷ rest) ne = refl

pub class_one : (uses : List Use) (u : Use) → u ∷ [] ≡ uses → class_of_use u ≡ class_of uses
unfolding class_of
class_one uses u e = rw (sym e) refl

-- the rows of any class but one have one use of its resource
use_one : (row : Row) (u : Use) → row.uses ≡ u ∷ [] → (class_of_use u ≡ 63 → ⊥) → HasOneUse row (class_of_use u)
use_one row u is ne = elim (cases_Bool (nat_eq u.hold 0)) [
  | inl none ↦ absurd (ne (rw none refl))
  | inr some ↦ elim (cases_Bool (nat_lt u.resource 63)) [
    | inl low ↦ record { use_of = u; uses = is; holds = some; resource = rw (some, low) refl }
    | inr high ↦ absurd (ne (rw (some, high) refl))
  ]
]

pub has_one : (row : Row) (uses : List Use) → row.uses ≡ uses → (class_of uses ≡ 63 → ⊥) → HasOneUse row (class_of uses)
unfolding class_of
has_one row [] is ne = absurd (ne refl)
has_one row (u ∷ []) is ne = use_one row u is ne
has_one row (u ∷ v ∷ rest) is ne = absurd (ne refl)
