-- The owners of the units of a machine by three numbers.
use Rattle.std.proofs.Common.{◌≡◌, ℕ, ◌+◌, ◌<◌, zero, suc, Bool, true, false, None, refl, arith, nat_eq, nat_lt, if◌then◌else◌}
use Rattle.machine_model.specs.Fixed.{AreSizes, fixed_meaning, fixed_units, owned}
use Rattle.machine_model.specs.FixedLaw.{fixed_valid}
use Rattle.machine_model.specs.Valid.{HaveOwners, IsOwner}
use Rattle.machine_model.specs.declared.tuning.Tuning.{Tuning}

-- a unit without an owner is none of those that the four resources have
none_of_four : (u : ℕ) (alu mul div mem : Bool) → (if alu then owned 0 u else if mul then owned 1 0 else if div then owned 2 0 else if mem then owned 3 0 else None) ≡ None
    → (alu ≡ false) × (mul ≡ false) × (div ≡ false) × (mem ≡ false)
none_of_four u true mul div mem e = absurd cc
none_of_four u false true div mem e = absurd cc
none_of_four u false false true mem e = absurd cc
none_of_four u false false false true e = absurd cc
none_of_four u false false false false e = (refl, refl, refl, refl)

no_unit_of : (a r u : ℕ) → r < 4 → (nat_lt u a ≡ false) × (nat_eq u a ≡ false) × (nat_eq u (a + 1) ≡ false) × (nat_eq u (a + 2) ≡ false) → fixed_units a r u ≡ false
no_unit_of a zero u lt (alu, mul, div, mem) = alu
no_unit_of a (suc zero) u lt (alu, mul, div, mem) = mul
no_unit_of a (suc (suc zero)) u lt (alu, mul, div, mem) = div
no_unit_of a (suc (suc (suc zero))) u lt (alu, mul, div, mem) = mem
no_unit_of a (suc (suc (suc (suc r)))) u lt gone = absurd (omega arith)

pub have_owners : (width reorder alus : ℕ) (t : Tuning) → AreSizes width reorder alus → HaveOwners (fixed_meaning width reorder alus t) (λ _. false)
have_owners w r a t sizes = record {
  some = λ u o e. (let owner : IsOwner (fixed_meaning w r a t) u o = (fixed_valid w r a sizes t).owner u o e in (owner.resource, refl, owner.has));
  none = λ u q e lt _. no_unit_of a q u lt (none_of_four u (nat_lt u a) (nat_eq u a) (nat_eq u (a + 1)) (nat_eq u (a + 2)) e);
}
