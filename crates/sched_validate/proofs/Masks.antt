-- A machine's masks count the units of its resources.
use Rattle.std.proofs.Common.{◌≡◌, ℕ, ◌+◌, ◌-◌, ◌<◌, ◌≤◌, Bool, true, refl, sym, subst, ◌∙◌, ap, arith}
use Rattle.std.proofs.Common.{length, zero, suc, List, [], ◌∷◌, ◌++◌}
use Rattle.std.specs.Prelude.{All, nat_le, take, drop, slice_index_or}
use Rattle.std.specs.List.{prefix_len}
use Rattle.std.proofs.lemmas.List.{length-take-le, get_or-take, length-append, take-append-drop}
use Rattle.std.proofs.lemmas.Bool.{false_from_ne_true}
use Rattle.unit_sets.specs.Below.{count_below}
use Rattle.unit_sets.proofs.Count.{count-same, count-add}
use Rattle.machine_model.specs.Meaning.{MachineMeaning}
use Rattle.machine_model.specs.Uses.{units_of, put_use, put_uses, in_use_order}
use Rattle.machine_model.specs.declared.facts.Use.{Use}
use Rattle.machine_model.specs.Valid.{IsValidMachine, IsWrite, no_use}
use Rattle.machine_model.specs.declared.facts.WriteFacts.{WriteFacts}
use Rattle.sched_validate.proofs.Counts.{count_none}

-- where none of the numbers from n on passes
pub count_wider : (n size : ℕ) (p : ℕ → Bool) → n ≤ size → ((u : ℕ) → p u ≡ true → u < n) → count_below size p ≡ count_below n p
count_wider n size p le low =
    (let whole : size ≡ n + (size - n) = omega (arith, le) in
    let split : _ = count-add n (size - n) p in
    let none : count_below (size - n) (λ v. p (n + v)) ≡ 0 = count_none (size - n) (λ v. p (n + v)) (λ v lt. false_from_ne_true (p (n + v)) (λ h. omega (arith, low (n + v) h))) in
    ap (λ k. count_below k p) whole ∙ omega (arith, split, none))

pub mask_counts : (numbers size : ℕ) (holds : ℕ → Bool) (m : MachineMeaning) (r : ℕ) → IsValidMachine numbers size m → r < m.resource_count → ((u : ℕ) → holds u ≡ m.units r u)
    → count_below size holds ≡ units_of m r
mask_counts numbers size holds m r valid lt same = count-same size holds (m.units r) (λ u _. same u) ∙ count_wider m.unit_count size (m.units r) valid.units_fit (valid.resource r lt).units_low

pub any_default : {X : Type 0} (xs : List X) (k : ℕ) (d e : X) → k < length xs → slice_index_or xs k d ≡ slice_index_or xs k e
any_default [] k d e lt = absurd (omega (arith, lt))
any_default (x ∷ xs) zero d e lt = refl
any_default (x ∷ xs) (suc k) d e lt = any_default xs k d e (omega (arith, lt))

-- the uses of a write that count name resources, and are at most eight
pub uses_known : (m : MachineMeaning) (f : WriteFacts) → IsWrite m f → All (λ w. w.resource < m.resource_count) (take f.use_count f.uses)
uses_known m f is k d lt =
    let few : f.use_count ≤ length f.uses = omega (arith, is.use_count, is.eight) in
    let low : k < f.use_count = omega (arith, lt, length-take-le f.use_count f.uses few) in
    let same : slice_index_or (take f.use_count f.uses) k d ≡ slice_index_or f.uses k no_use = get_or-take f.use_count f.uses k d low ∙ any_default f.uses k d no_use (omega (arith, low, few)) in
    subst (λ w. w.resource < m.resource_count) (sym same) (is.use_of k low).resource

pub uses_few : (m : MachineMeaning) (f : WriteFacts) → IsWrite m f → length (take f.use_count f.uses) ≤ 8
uses_few m f is = omega (arith, length-take-le f.use_count f.uses (omega (arith, is.use_count, is.eight)), is.use_count)

-- the use order has as many uses
length_put : (size : ℕ → ℕ) (met : List Use) (w : Use) → length (put_use size met w) ≡ length met + 1
length_put size met w =
    let place : ℕ = prefix_len (λ v. nat_le (size v.resource) (size w.resource)) met in
    let parts : length (take place met ++ drop place met) ≡ length met = ap length (take-append-drop place met) in
    omega (arith, parts, length-append (take place met) (w ∷ drop place met), length-append (take place met) (drop place met))

length_puts : (size : ℕ → ℕ) (met ws : List Use) → length (put_uses size met ws) ≡ length met + length ws
length_puts size met [] = omega arith
length_puts size met (w ∷ ws) = omega (arith, length_puts size (put_use size met w) ws, length_put size met w)

pub length_order : (size : ℕ → ℕ) (ws : List Use) → length (in_use_order size ws) ≡ length ws
length_order size ws = omega (arith, length_puts size [] ws)
