-- the names of the registers, told apart
use Rattle.std.proofs.Common.{◌≡◌, ℕ, ◌<◌, Some, None, Option, Bool, true, false, nat_eq, refl, arith}
use Rattle.std.proofs.lemmas.Bool.Decides.{eqb_tells}
use Rattle.rv_isa.specs.Registers.{name_of, register_named}
use Rattle.rv_isa.proofs.Below.{below_passes}

abbrev pub is_own : ℕ → Option ℕ → Bool
is_own r None = false
is_own r (Some k) = nat_eq k r

pub own_is : (r : ℕ) (o : Option ℕ) → is_own r o ≡ true → o ≡ Some r
own_is r None h = cc
own_is r (Some k) h = grind (arith, eqb_tells k r)

-- each register is named by the name that it is spelled with
pub register_named-name_of : (r : ℕ) → r < 32 → register_named (name_of r) ≡ Some r
register_named-name_of r h = own_is r (register_named (name_of r)) (below_passes (λ k. is_own k (register_named (name_of k))) 32 refl r h)
