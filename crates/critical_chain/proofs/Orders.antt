-- The places of rows in an order.
use Rattle.std.proofs.Common.{◌≡◌, ◌≢◌, ℕ, ◌-◌, ◌<◌, ◌≤◌, inl, inr, List, [], ◌∷◌, length, arith, sym, ◌∙◌, ap, subst}
use Rattle.std.specs.Prelude.{slice_index, nat_eq}
use Rattle.std.proofs.lemmas.Bool.{cases_Bool, cases_eq}
use Rattle.std.proofs.lemmas.Bool.Decides.{nat_tests}
use Rattle.critical_chain.specs.Graph.{place, IsOrder}

pub place_at : (order : List ℕ) (v : ℕ) → place order v < length order → slice_index order (place order v) ≡ v
unfolding place
place_at [] v lt = absurd (omega arith)
place_at (x ∷ xs) v lt = elim (cases_Bool (nat_eq x v)) [
  | inl is ↦ rw is (grind (arith, nat_tests, is))
  | inr other ↦ rw other (place_at xs v (omega (arith, rw other at lt)))
]

-- rows of an order that stand in one place are one
pub same_place : (n : ℕ) (order : List ℕ) (u v : ℕ) → IsOrder n order → u < n → v < n → place order u ≡ place order v → u ≡ v
same_place n order u v is low high same =
    let one : slice_index order (place order u) ≡ u = place_at order u (omega (arith, is.rows, is.listed u low)) in
    let two : slice_index order (place order v) ≡ v = place_at order v (omega (arith, is.rows, is.listed v high)) in
    sym one ∙ ap (slice_index order) same ∙ two

-- a row that stands below a place, and not just below it, stands below the place before
pub place_less : (order : List ℕ) (v m : ℕ) → m ≤ length order → place order v < m → slice_index order (m - 1) ≢ v → place order v < m - 1
place_less order v m low lt other = elim (cases_eq (place order v) (m - 1)) [
  | inl is ↦ absurd (other (subst (λ i. slice_index order i ≡ v) is (place_at order v (omega (arith, lt, low)))))
  | inr before ↦ omega (arith, lt, before)
]

-- a row that stands just below a place
pub place_just : (order : List ℕ) (v m : ℕ) → IsOrder (length order) order → m ≤ length order → 0 < m → slice_index order (m - 1) ≡ v → place order v ≡ m - 1
place_just order v m is low some at = subst (λ w. place order w ≡ m - 1) at (is.once (m - 1) (omega (arith, low, some)))
