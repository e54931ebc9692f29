-- A list with one element more.
use Rattle.std.proofs.Common.{zero, suc, ◌≡◌, ℕ, ◌+◌, ◌<◌, ◌≤◌, inl, inr, arith, refl, sym, ◌∙◌, ap, subst, List, [], ◌∷◌, ◌++◌, length}
use Rattle.std.specs.Prelude.{slice_index_or}
use Rattle.std.proofs.lemmas.Bool.{cases_lt}
use Rattle.std.proofs.lemmas.List.{get_or_append_left}
use Rattle.std.proofs.Math.Seq.{get_or-append_seam}

-- what holds of each element, by its place, and of the one more
pub all_pushed : {X : Type 0} (P : ℕ → X → Type 0) (xs : List X) (x d : X) (n : ℕ) → length xs ≡ n → ((j : ℕ) → j < n → P j (slice_index_or xs j d)) → P n x → (j : ℕ) → j < n + 1 → P j (slice_index_or (xs ++ x ∷ []) j d)
all_pushed P xs x d n size h last j lt = elim (cases_lt j n) [
  | inl low ↦ (let e : slice_index_or (xs ++ x ∷ []) j d ≡ slice_index_or xs j d = get_or_append_left xs (x ∷ []) d j (omega (arith, low, size)) in subst (λ y. P j y) (sym e) (h j low))
  | inr past ↦ (let here : j ≡ n = omega (arith, past, lt) in
      let e : slice_index_or (xs ++ x ∷ []) (length xs) d ≡ x = get_or-append_seam xs x [] d in
      let at : slice_index_or (xs ++ x ∷ []) j d ≡ x = ap (λ m. slice_index_or (xs ++ x ∷ []) m d) (here ∙ sym size) ∙ e in
      subst (λ m. P m (slice_index_or (xs ++ x ∷ []) j d)) (sym here) (subst (λ y. P n y) (sym at) last))
]

-- one default more is not seen
pub pushed_default : {X : Type 0} (xs : List X) (d : X) (k : ℕ) → slice_index_or (xs ++ d ∷ []) k d ≡ slice_index_or xs k d
pushed_default [] d zero = refl
pushed_default [] d (suc k) = refl
pushed_default (x ∷ xs) d zero = refl
pushed_default (x ∷ xs) d (suc k) = pushed_default xs d k

-- nor is there more than the default past the end
pub past_end : {X : Type 0} (xs : List X) (d : X) (k : ℕ) → length xs ≤ k → slice_index_or xs k d ≡ d
past_end [] d k le = refl
past_end (x ∷ xs) d zero le = absurd (omega (arith, le))
past_end (x ∷ xs) d (suc k) le = past_end xs d k (omega (arith, le))
