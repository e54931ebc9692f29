-- The units that are shown, and the cells of a line.
use Rattle.std.proofs.Math.Seq.{take-append_seam}
use Rattle.std.proofs.Common.{◌≡◌, ℕ, zero, suc, ◌+◌, ◌<◌, Bool, true, false, List, [], ◌∷◌, ◌++◌, length, take, drop, cond, is_some, refl, sym, ap, ◌∙◌, subst, arith}
use Rattle.std.specs.Prelude.{All, slice_index, slice_index_or}
use Rattle.std.specs.List.{filter, flat_map, range_with_len}
use Rattle.std.proofs.lemmas.List.{append-nil}
use Rattle.std.proofs.lemmas.List.Elements.{filter-append, All-filter}
use Rattle.std.proofs.lemmas.List.FromFn.{length-range_with_len, get_or-range_with_len}
use Rattle.machine_model.specs.Meaning.{MachineMeaning}
use Rattle.machine_model.specs.Valid.{IsValidMachine}
use Rattle.cycle_rules.specs.Holds.{HasPlaces}
use Rattle.cycle_rules.specs.declared.bound.Bound.{Bound}
use Rattle.mca_views.specs.Lines.{cell}
use Rattle.mca_views.specs.Pressure.{columns, pressure_text, pressure_cells}
use Rattle.mca_views.specs.Shown.{IsEntry}
use Rattle.mca_views.proofs.Loads.{entry_uses}

-- the numbers from one on, one more
range_more : (a n : ℕ) → range_with_len a (suc n) ≡ range_with_len a n ++ (a + n) ∷ []
range_more a zero = let e : a ≡ a + 0 = omega arith in ap (λ b. b ∷ []) e
range_more a (suc n) = let e : (a + 1) + n ≡ a + suc n = omega arith in ap (λ l. a ∷ l) (range_more (a + 1) n ∙ ap (λ b. range_with_len (a + 1) n ++ b ∷ []) e)

kept_more : (p : ℕ → Bool) (n : ℕ) → filter p (range_with_len 0 (n + 1)) ≡ filter p (range_with_len 0 n) ++ cond (p n) (n ∷ []) []
kept_more p n =
    let next : n + 1 ≡ suc n = omega arith in
    let last : 0 + n ≡ n = omega arith in
    ap (λ k. filter p (range_with_len 0 k)) next ∙ ap (filter p) (range_more 0 n ∙ ap (λ b. range_with_len 0 n ++ b ∷ []) last) ∙ filter-append p (range_with_len 0 n) (n ∷ [])

pub kept_yes : (p : ℕ → Bool) (n : ℕ) → p n ≡ true → filter p (range_with_len 0 (n + 1)) ≡ filter p (range_with_len 0 n) ++ n ∷ []
kept_yes p n is = kept_more p n ∙ ap (λ b. filter p (range_with_len 0 n) ++ cond b (n ∷ []) []) is

pub kept_no : (p : ℕ → Bool) (n : ℕ) → p n ≡ false → filter p (range_with_len 0 (n + 1)) ≡ filter p (range_with_len 0 n)
kept_no p n not = kept_more p n ∙ ap (λ b. filter p (range_with_len 0 n) ++ cond b (n ∷ []) []) not ∙ append-nil (filter p (range_with_len 0 n))

range_low : (a n : ℕ) → All (λ u. u < a + n) (range_with_len a n)
range_low a n k d lt =
    let low : k < n = omega (arith, lt, length-range_with_len a n) in
    subst (λ u. u < a + n) (sym (get_or-range_with_len a n k d low)) (omega (arith, low))

pub columns_low : (m : MachineMeaning) (us : List ℕ) → us ≡ columns m → All (λ u. u < m.unit_count) us
unfolding columns
columns_low m us is =
    let none : 0 + m.unit_count ≡ m.unit_count = omega arith in
    subst (All (λ u. u < m.unit_count)) (sym is) (All-filter (λ u. is_some (m.owner u)) (λ u. u < m.unit_count) (range_with_len 0 m.unit_count) (subst (λ n. All (λ u. u < n) (range_with_len 0 m.unit_count)) none (range_low 0 m.unit_count)))

-- cells are the same where their texts are
pub cells_same : (f h : ℕ → List ℕ) (us : List ℕ) (n : ℕ) → All (λ u. u < n) us → ((u : ℕ) → u < n → f u ≡ h u) → flat_map f us ≡ flat_map h us
cells_same f h [] n low same = refl
cells_same f h (u ∷ us) n low same = ap (λ l. l ++ flat_map f us) (same u (low 0 0 (omega arith))) ∙ ap (λ l. h u ++ l) (cells_same f h us n (λ k d lt. low (suc k) d (omega (arith, lt))) same)

-- the cells of sums that are kept in a list
pub pressures_same : (iterations : ℕ) (sums : List ℕ) (f : ℕ → ℕ) (us : List ℕ) (n : ℕ) → length sums ≡ n → All (λ u. u < n) us → ((u : ℕ) → u < n → slice_index sums u ≡ f u) → pressure_cells iterations (slice_index sums) us ≡ pressure_cells iterations f us
pressures_same iterations sums f us n size low same = cells_same (λ u. cell (pressure_text iterations (slice_index sums u)) 7) (λ u. cell (pressure_text iterations (f u)) 7) us n low (λ u lt. ap (λ x. cell (pressure_text iterations x) 7) (same u lt))

-- the uses of entries that count have places
pub places_of : (numbers size : ℕ) (m : MachineMeaning) (body : List Bound) → IsValidMachine numbers size m → All (IsEntry m) body → All HasPlaces body
places_of numbers size m body valid are k d lt = entry_uses numbers size m (slice_index_or body k d) valid (are k d lt)

-- a slice that was written to
pub written_back : (xs ys : List ℕ) (n : ℕ) → length xs ≡ n → take n (xs ++ drop (length xs) ys) ≡ xs
written_back xs ys n size = subst (λ k. take k (xs ++ drop (length xs) ys) ≡ xs) size (take-append_seam xs (drop (length xs) ys))
