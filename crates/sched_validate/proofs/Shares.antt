-- A step along the classes of a register file.
use Rattle.std.proofs.Common.{◌≡◌, ℕ, ◌+◌, ◌<◌, zero, suc, List, [], ◌∷◌, length, drop, refl, sym, subst, ap, ◌∙◌, arith, get_or, ℤ, Bool, true, false}
use Rattle.std.specs.Prelude.{slice_get, if◌then◌else◌}
use Rattle.sched_checks.specs.Checks.{class_has}
use Rattle.sched_resolve.specs.declared.entry.Registers.{Registers}
use Rattle.sched_validate.specs.Files.{cost, cost_or_one, share_by}

drop_none : (k : ℕ) → drop {A = ℤ} k [] ≡ []
drop_none zero = refl
drop_none (suc k) = refl

share_alone : (file r : ℕ) (cs : List Registers) (k : ℕ) (d : Registers) → k < length cs
    → share_by file r (drop k cs) [] ≡ (if class_has r (get_or cs k d) then cost file 1 else share_by file r (drop (suc k) cs) [])
share_alone file r [] k d lt = absurd (omega (arith, lt))
share_alone file r (c ∷ cs) zero d lt = refl
share_alone file r (c ∷ cs) (suc k) d lt = share_alone file r cs k d (omega (arith, lt))

share_next : (file r : ℕ) (cs : List Registers) (ns : List ℤ) (k : ℕ) (d : Registers) → k < length cs
    → share_by file r (drop k cs) (drop k ns) ≡ (if class_has r (get_or cs k d) then cost file (cost_or_one (slice_get ns k)) else share_by file r (drop (suc k) cs) (drop (suc k) ns))
share_next file r cs [] k d lt = rw (drop_none k) (share_alone file r cs k d lt)
share_next file r [] (n ∷ ns) k d lt = absurd (omega (arith, lt))
share_next file r (c ∷ cs) (n ∷ ns) zero d lt = refl
share_next file r (c ∷ cs) (n ∷ ns) (suc k) d lt = share_next file r cs ns k d (omega (arith, lt))

pub share_more : (file r : ℕ) (cs : List Registers) (ns : List ℤ) (k : ℕ) (d : Registers) → k < length cs
    → share_by file r (drop k cs) (drop k ns) ≡ (if class_has r (get_or cs k d) then cost file (cost_or_one (slice_get ns k)) else share_by file r (drop (k + 1) cs) (drop (k + 1) ns))
share_more file r cs ns k d lt = (let e : suc k ≡ k + 1 = omega arith in
    subst (λ n. share_by file r (drop k cs) (drop k ns) ≡ (if class_has r (get_or cs k d) then cost file (cost_or_one (slice_get ns k)) else share_by file r (drop n cs) (drop n ns))) e (share_next file r cs ns k d lt))

-- the class at a place holds the register, or the search goes on
pub share_here : (file r : ℕ) (cs : List Registers) (ns : List ℤ) (k n : ℕ) (d : Registers) (b : Bool) → k < length cs → share_by file r (drop k cs) (drop k ns) ≡ share_by file r cs ns
    → b ≡ class_has r (get_or cs k d) → b ≡ true → n ≡ cost_or_one (slice_get ns k) → cost file n ≡ share_by file r cs ns
share_here file r cs ns k n d b lt from e yes_it is = (let has : class_has r (get_or cs k d) ≡ true = sym e ∙ yes_it in
    let step : share_by file r (drop k cs) (drop k ns) ≡ cost file (cost_or_one (slice_get ns k)) = share_more file r cs ns k d lt ∙ rw has refl in
    ap (cost file) is ∙ sym step ∙ from)

pub share_there : (file r : ℕ) (cs : List Registers) (ns : List ℤ) (k : ℕ) (d : Registers) (b : Bool) → k < length cs → share_by file r (drop k cs) (drop k ns) ≡ share_by file r cs ns
    → b ≡ class_has r (get_or cs k d) → b ≡ false → share_by file r (drop (k + 1) cs) (drop (k + 1) ns) ≡ share_by file r cs ns
share_there file r cs ns k d b lt from e no_it = (let has : class_has r (get_or cs k d) ≡ false = sym e ∙ no_it in
    let step : share_by file r (drop k cs) (drop k ns) ≡ share_by file r (drop (k + 1) cs) (drop (k + 1) ns) = share_more file r cs ns k d lt ∙ rw has refl in
    sym step ∙ from)
