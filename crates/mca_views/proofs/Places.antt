-- The place of an earlier row of the same iteration.
use Rattle.std.proofs.Common.{◌≡◌, ℕ, ◌-◌, ◌/◌, ◌%◌, ◌<◌, ◌≤◌, arith, ap, ◌∙◌}
use Rattle.std.proofs.lemmas.Nat.{mod-mul-add}
use Rattle.std.proofs.Math.Nat.{mod-add-div', mod-lt}

pub place_within : (j n d : ℕ) → 0 < n → d ≤ j % n → (j - d) % n ≡ j % n - d
place_within j n d some le =
    let whole = mod-add-div' j n in
    let lt : j % n < n = mod-lt j some in
    ap (λ m. m % n) (omega (arith, whole, le)) ∙ mod-mul-add (j / n) n (j % n - d) (omega (arith, lt, le))
