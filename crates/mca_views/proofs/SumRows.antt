-- Sums of waits, one row more at a time, and that they are low.
use Rattle.std.proofs.Common.{zero, suc, ◌≡◌, ℕ, ◌+◌, ◌-◌, ◌*◌, ◌%◌, ◌^◌, ◌<◌, ◌≤◌, inl, inr, List, [], ◌++◌, length, take, replicate, get_or, set, arith, refl, sym, ◌∙◌, ap, subst, Bool, true, false}
use Rattle.std.specs.Prelude.{nat_eq, if◌then◌else◌}
use Rattle.std.proofs.lemmas.Bool.{cases_eq}
use Rattle.std.proofs.lemmas.Bool.Decides.{nat_tests}
use Rattle.std.proofs.lemmas.List.{get_or-set_same, get_or-set_other}
use Rattle.cycle_rules.specs.Below.{sum_below}
use Rattle.mca_views.specs.Shown.{Shown, IsShown}
use Rattle.mca_views.specs.WaitTimes.{to_issue, while_ready, to_retire, at_place}
use Rattle.mca_views.specs.Sums.{AreWaits, AreSums, AreLow}
use Rattle.mca_views.specs.declared.sums.Sums.{Sums as SumsOf}

pub sum_more : (n : ℕ) (f : ℕ → ℕ) → sum_below (n + 1) f ≡ sum_below n f + f n
unfolding sum_below
sum_more n f = let e : n + 1 ≡ suc n = omega arith in ap (λ m. sum_below m f) e

pub sum_low : (n most : ℕ) (f : ℕ → ℕ) → ((k : ℕ) → k < n → f k ≤ most) → sum_below n f ≤ n * most
unfolding sum_below
sum_low zero most f h = omega arith
sum_low (suc n) most f h = let rest : sum_below n f ≤ n * most = sum_low n most f (λ k lt. h k (omega (arith, lt))) in omega (arith, rest, h n (omega arith))

-- of one instruction no more than of all
some_of : (b : Bool) (x : ℕ) → (if b then x else 0) ≤ x
some_of true x = omega arith
some_of false x = omega arith

pub at_place_le : (s : Shown) (place : ℕ) (wait : ℕ → ℕ) (j : ℕ) → at_place s place wait j ≤ wait j
at_place_le s place wait j = some_of (nat_eq (j % length s.body) place) (wait j)

-- the waits of a row are below the cycles of a run
pub waits_low : (s : Shown) (j : ℕ) (w : SumsOf) → IsShown s → j < length s.table → AreWaits s j w → AreLow (2 ^ 42) w
waits_low s j w is lt are =
    let t = is.timed j lt in
    record {
      issue = omega (arith, are.issue, t.complete, t.retire, t.low);
      ready = omega (arith, are.ready, t.complete, t.retire, t.low);
      retire = omega (arith, are.retire, t.retire, t.low);
    }

wait_low : (s : Shown) → IsShown s → (j : ℕ) → j < length s.table → (to_issue s j ≤ 2 ^ 42) × (while_ready s j ≤ 2 ^ 42) × (to_retire s j ≤ 2 ^ 42)
wait_low s is j lt =
    let low = waits_low s j (record { to_issue = to_issue s j; while_ready = while_ready s j; to_retire = to_retire s j }) is lt (record { issue = refl; ready = refl; retire = refl }) in
    (low.issue, low.ready, low.retire)

few_rows : (s : Shown) → IsShown s → length s.table ≤ 1048576
few_rows s is = omega (arith, is.rows, is.few)

pub sums_low : (s : Shown) (counted : (ℕ → ℕ) → ℕ → ℕ) (n : ℕ) (x : SumsOf) → IsShown s → n ≤ length s.table → ((wait : ℕ → ℕ) (j : ℕ) → counted wait j ≤ wait j) → AreSums s counted n x → AreLow (2 ^ 63) x
sums_low s counted n x is le some are =
    let few : n ≤ 1048576 = omega (arith, le, few_rows s is) in
    let issue = sum_low n (2 ^ 42) (counted (to_issue s)) (λ k lt. omega (arith, some (to_issue s) k, (wait_low s is k (omega (arith, lt, le))).0)) in
    let ready = sum_low n (2 ^ 42) (counted (while_ready s)) (λ k lt. omega (arith, some (while_ready s) k, (wait_low s is k (omega (arith, lt, le))).1)) in
    let retire = sum_low n (2 ^ 42) (counted (to_retire s)) (λ k lt. omega (arith, some (to_retire s) k, (wait_low s is k (omega (arith, lt, le))).2)) in
    record {
      issue = omega (arith, are.issue, issue, few);
      ready = omega (arith, are.ready, ready, few);
      retire = omega (arith, are.retire, retire, few);
    }

-- one row more

abbrev pub IsPlus : SumsOf → SumsOf → SumsOf → Type 0
IsPlus x w y = (y.to_issue ≡ x.to_issue + w.to_issue) × (y.while_ready ≡ x.while_ready + w.while_ready) × (y.to_retire ≡ x.to_retire + w.to_retire)

pub all_more : (s : Shown) (j : ℕ) (x w y : SumsOf) → AreSums s (λ wait. wait) j x → AreWaits s j w → IsPlus x w y → AreSums s (λ wait. wait) (j + 1) y
all_more s j x w y sums waits plus = record {
  issue = plus.0 ∙ (λ i. sums.issue i + waits.issue i) ∙ sym (sum_more j (to_issue s));
  ready = plus.1 ∙ (λ i. sums.ready i + waits.ready i) ∙ sym (sum_more j (while_ready s));
  retire = plus.2 ∙ (λ i. sums.retire i + waits.retire i) ∙ sym (sum_more j (to_retire s));
}

here : (s : Shown) (j : ℕ) (wait : ℕ → ℕ) → sum_below j (at_place s (j % length s.body) wait) + wait j ≡ sum_below (j + 1) (at_place s (j % length s.body) wait)
here s j wait = let yes_ : nat_eq (j % length s.body) (j % length s.body) ≡ true = grind (arith, nat_tests) in
    let at : wait j ≡ at_place s (j % length s.body) wait j = rw yes_ refl in
    ap (λ x. sum_below j (at_place s (j % length s.body) wait) + x) at ∙ sym (sum_more j (at_place s (j % length s.body) wait))

elsewhere : (s : Shown) (j place : ℕ) (wait : ℕ → ℕ) → (place ≡ j % length s.body → ⊥) → sum_below j (at_place s place wait) ≡ sum_below (j + 1) (at_place s place wait)
elsewhere s j place wait other = let no_ : nat_eq (j % length s.body) place ≡ false = (let differ : j % length s.body ≡ place → ⊥ = λ e. other (sym e) in grind (arith, nat_tests, differ)) in
    let at : at_place s place wait j ≡ 0 = rw no_ refl in
    omega (arith, at, sum_more j (at_place s place wait))

pub here_more : (s : Shown) (j : ℕ) (x w y : SumsOf) → AreSums s (at_place s (j % length s.body)) j x → AreWaits s j w → IsPlus x w y → AreSums s (at_place s (j % length s.body)) (j + 1) y
here_more s j x w y sums waits plus = record {
  issue = plus.0 ∙ (λ i. sums.issue i + waits.issue i) ∙ here s j (to_issue s);
  ready = plus.1 ∙ (λ i. sums.ready i + waits.ready i) ∙ here s j (while_ready s);
  retire = plus.2 ∙ (λ i. sums.retire i + waits.retire i) ∙ here s j (to_retire s);
}

pub elsewhere_more : (s : Shown) (j place : ℕ) (x : SumsOf) → (place ≡ j % length s.body → ⊥) → AreSums s (at_place s place) j x → AreSums s (at_place s place) (j + 1) x
elsewhere_more s j place x other sums = record {
  issue = sums.issue ∙ elsewhere s j place (to_issue s) other;
  ready = sums.ready ∙ elsewhere s j place (while_ready s) other;
  retire = sums.retire ∙ elsewhere s j place (to_retire s) other;
}

pub each_more : (s : Shown) (j : ℕ) (xs : List SumsOf) (y : SumsOf) → j % length s.body < length xs → ((place : ℕ) (d : SumsOf) → place < length s.body → AreSums s (at_place s place) j (get_or xs place d))
    → AreSums s (at_place s (j % length s.body)) (j + 1) y → (place : ℕ) (d : SumsOf) → place < length s.body → AreSums s (at_place s place) (j + 1) (get_or (set xs (j % length s.body) y) place d)
each_more s j xs y low before new place d lt = elim (cases_eq place (j % length s.body)) [
  | inl at ↦ subst (λ p. AreSums s (at_place s p) (j + 1) (get_or (set xs (j % length s.body) y) p d)) (sym at)
      (subst (λ x. AreSums s (at_place s (j % length s.body)) (j + 1) x) (sym (get_or-set_same xs (j % length s.body) y d low)) new)
  | inr other ↦ subst (λ x. AreSums s (at_place s place) (j + 1) x) (sym (get_or-set_other xs (j % length s.body) place y d other)) (elsewhere_more s j place _ other (before place d lt))
]

-- no row

abbrev pub nothing : SumsOf
nothing = record { to_issue = 0; while_ready = 0; to_retire = 0 }

pub no_rows : (s : Shown) (counted : (ℕ → ℕ) → ℕ → ℕ) → AreSums s counted 0 nothing
unfolding sum_below
no_rows s counted = record { issue = refl; ready = refl; retire = refl }

pub fresh : {X : Type 0} (n : ℕ) (x : X) → take n [] ++ replicate (n - 0) x ≡ replicate n x
fresh zero x = refl
fresh (suc n) x = let e : suc n - 0 ≡ suc n = omega arith in ap (λ m. replicate m x) e
