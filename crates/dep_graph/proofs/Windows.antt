-- A window as rows go by.
use Rattle.std.proofs.Common.{◌≡◌, ℕ, ◌+◌, ◌<◌, arith, refl, sym, subst, Bool, true, false, ◌||◌}
use Rattle.std.specs.Prelude.{nat_eq, nat_le, if◌then◌else◌}
use Rattle.std.proofs.lemmas.Bool.Decides.{nat_tests}
use Rattle.cycle_rules.specs.Below.{sum_below}
use Rattle.cycle_rules.specs.Row.{Input, Table}
use Rattle.cycle_rules.specs.Dispatch.{is_held}
use Rattle.dep_graph.specs.Thresholds.{weight_from, last_retire, IsPointer, IsKept}
use Rattle.dep_graph.specs.Walk.{IsWindow, weight_of, is_enough}
use Rattle.dep_graph.specs.declared.window.Limited.{Limited}
use Rattle.dep_graph.specs.declared.window.Window.{Window}
use Rattle.dep_graph.proofs.Pointers.{added, kept_over, pointer_room}
use Rattle.dep_graph.proofs.Runs.{AreRows}

pub window_over : (g : Input) (what : Limited) (bound j : ℕ) (window : Window) → ((bound ≡ 0 → ⊥) → weight_of g what j ≡ 0) → IsWindow g what bound j window → IsWindow g what bound (j + 1) window
window_over g what bound j window none h = record {
  kept = λ some. kept_over (weight_of g what) bound j window.front window.held (none some) (h.kept some);
  low = h.low;
}

pub window_taken : (g : Input) (what : Limited) (bound j x : ℕ) (after : Window) → x ≡ weight_of g what j
    → IsPointer (weight_of g what) bound x j after.front → after.held ≡ weight_from (weight_of g what) after.front j + x → IsWindow g what bound (j + 1) after
window_taken g what bound j x after more p held =
    let w : ℕ → ℕ = weight_of g what in
    let kept : IsKept w bound (j + 1) after.front (weight_from w after.front j + w j) = added w bound x j after.front (weight_from w after.front j) p refl (omega (arith, more)) in
    let held_w : after.held ≡ weight_from w after.front j + w j = omega (arith, held, more) in
    record {
      kept = λ some. subst (λ h. IsKept w bound (j + 1) after.front h) (sym held_w) kept;
      low = omega (arith, p.fits, held);
    }

-- nothing is asked
pub none_asked : (w : ℕ → ℕ) (bound : ℕ) (t : Table) (j c : ℕ) → w j ≡ 0 → is_enough w bound t j c ≡ nat_le 0 c
none_asked w bound t j c none = ask (nat_eq bound 0) (w j) none
  where
    ask : (b : Bool) (x : ℕ) → x ≡ 0 → (b || nat_eq x 0 || nat_le (sum_below j (λ k. if is_held t c k then w k else 0) + x) bound) ≡ nat_le 0 c
    ask true x e = grind (arith, nat_tests)
    ask false x e = grind (arith, nat_tests, e)

pub enough_from : (g : Input) (t : Table) (w : ℕ → ℕ) (bound j f c : ℕ) → AreRows g t → j < g.rows → (bound ≡ 0 → ⊥) → (w j ≡ 0 → ⊥) → IsPointer w bound (w j) j f → is_enough w bound t j c ≡ nat_le (last_retire t f) c
enough_from g t w bound j f c rows lt some more p =
    let a : nat_eq bound 0 ≡ false = grind (arith, nat_tests, some) in
    let b : nat_eq (w j) 0 ≡ false = grind (arith, nat_tests, more) in
    rw (a, b) (pointer_room g t w bound (w j) j f c rows lt p)
