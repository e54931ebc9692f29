-- Numbers that a command line may replace.
use Rattle.std.proofs.Common.{◌≡◌, ℕ, ◌<◌, ◌≤◌, ◌^◌, List, [], ◌∷◌, refl, arith, Bool, true, false, None, Some, nat_eq}
use Rattle.std.specs.Prelude.{slice_get, slice_index_or, if◌then◌else◌}
use Rattle.sched_validate.specs.Machine.{or_own}

same_if : (c : Bool) (tuned own mine : ℕ) → (own < 2 ^ 32 → mine ≡ own) → (if c then own else tuned) ≤ 4294967295 → (if c then mine else tuned) ≡ (if c then own else tuned)
same_if true tuned own mine same low = same (omega (arith, low))
same_if false tuned own mine same low = refl

-- where the one that counts is small, one that is right when small will do
pub own_same : (tuned own mine : ℕ) → (own < 2 ^ 32 → mine ≡ own) → or_own tuned own ≤ 4294967295 → or_own tuned mine ≡ or_own tuned own
own_same tuned own mine same low = same_if (nat_eq tuned 0) tuned own mine same low

pub first_or : {X : Type 0} (xs : List X) (x d : X) → slice_get xs 0 ≡ Some x → slice_index_or xs 0 d ≡ x
first_or [] x d h = absurd cc
first_or (y ∷ xs) x d h = cc

pub first_none : {X : Type 0} (xs : List X) (d : X) → slice_get xs 0 ≡ None → slice_index_or xs 0 d ≡ d
first_none [] d h = refl
first_none (y ∷ xs) d h = absurd cc
