-- The cycles from an issue until a value can be read, by the size and the sign of the advance.
use Rattle.std.proofs.Common.{◌≡◌, ℕ, ◌+◌, ◌-◌, inl, inr, arith, ◌∙◌, ap, refl}
use Rattle.std.specs.Prelude.{ℤ, pos, negsuc, ◌≤ℤ◌, ◌<ℤ◌, nat_eq}
use Rattle.std.specs.Int.RustNames.{unsigned_abs}
use Rattle.std.proofs.lemmas.Bool.{cases_Bool, eqb-true}
use Rattle.std.proofs.lemmas.Int.{ints}
use Rattle.machine_model.specs.Meaning.{MachineMeaning}
use Rattle.machine_model.specs.Valid.{no_class}
use Rattle.cycle_rules.specs.Row.{lead, advance_of}

pub lead_early : (latency : ℕ) (a : ℤ) → pos 0 ≤ℤ a → latency - unsigned_abs a ≡ lead latency a
unfolding lead
lead_early latency (pos n) h = refl
lead_early latency (negsuc n) h = absurd (omega (arith, ints, h))

pub lead_late : (latency : ℕ) (a : ℤ) → a <ℤ pos 0 → latency + unsigned_abs a ≡ lead latency a
unfolding lead
lead_late latency (pos n) h = absurd (omega (arith, ints, h))
lead_late latency (negsuc n) h = omega arith

pub advance_is : (m : MachineMeaning) (read write : ℕ) → m.advance no_class write ≡ pos 0 → m.advance read write ≡ advance_of m read write
unfolding advance_of
advance_is m read write none = elim (cases_Bool (nat_eq read no_class)) [
  | inl is ↦ rw is (ap (λ r. m.advance r write) (eqb-true read no_class is) ∙ none)
  | inr other ↦ rw other refl
]
