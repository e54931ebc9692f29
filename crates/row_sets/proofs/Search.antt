-- The search for the first row that is ready, word by word.
use Rattle.std.proofs.Common.{◌≡◌, ℕ, ◌+◌, ◌-◌, ◌*◌, ◌%◌, ◌<◌, ◌≤◌, true, false, not, inl, inr, ◌∙◌, ap, arith, List, slice_index}
use Rattle.std.proofs.lemmas.Bool.{cases_lt, not-true, not_from_false}
use Rattle.unit_sets.specs.Members.{in_word}
use Rattle.row_sets.specs.Kept.{is_in, IsMerged}
use Rattle.row_sets.specs.Rows.{word_of}

-- no row from a row on and below k is in the set of a class that is not among those passed over
abbrev pub NoneReady : List ℕ → ℕ → ℕ → ℕ → Type 0
NoneReady words passed from k = (class j : ℕ) → class < 64 → in_word passed class ≡ false → from ≤ j → j < k → is_in words class j ≡ false

-- the rows in the word of row k that are in the set of a class that is not among those passed over
abbrev pub AreRowsOf : List ℕ → ℕ → ℕ → ℕ → Type 0
AreRowsOf words passed k rows = IsMerged words (word_of k * 64) (λ class. not (in_word passed class)) 64 rows

none_at : (words : List ℕ) (passed k rows class j : ℕ) → AreRowsOf words passed k rows → word_of j ≡ word_of k → in_word rows (j % 64) ≡ false →
    class < 64 → in_word passed class ≡ false → is_in words class j ≡ false
unfolding is_in
none_at words passed k rows class j h same out low kept =
    ap (λ w. in_word (slice_index words (w * 64 + class)) (j % 64)) same ∙ h.none (j % 64) class out low (not_from_false _ kept)

-- the rows whose bits were looked at
pub looked : (words : List ℕ) (passed rows from k k' : ℕ) → AreRowsOf words passed k rows → NoneReady words passed from k → k ≤ k' → k % 64 + (k' - k) ≤ 64 →
    ((v : ℕ) → k % 64 ≤ v → v < k % 64 + (k' - k) → in_word rows v ≡ false) → NoneReady words passed from k'
looked words passed rows from k k' h before le short none class j low kept lo hi = elim (cases_lt j k) [
  | inl earlier ↦ before class j low kept lo earlier
  | inr later ↦
      let same : word_of j ≡ word_of k = omega arith in
      none_at words passed k rows class j h same (none (j % 64) (omega arith) (omega arith)) low kept
]

-- a class whose own word has the bit that is found has the row
has_found : (words : List ℕ) (passed k j class : ℕ) → word_of j ≡ word_of k → class < 64 → not (in_word passed class) ≡ true →
    in_word (slice_index words (word_of k * 64 + class)) (j % 64) ≡ true → (class : ℕ) × (class < 64) × (in_word passed class ≡ false) × (is_in words class j ≡ true)
unfolding is_in
has_found words passed k j class same low kept has =
    (class, low, not-true (in_word passed class) kept, ap (λ w. in_word (slice_index words (w * 64 + class)) (j % 64)) same ∙ has)

-- a class that has the row whose bit is found
pub found_class : (words : List ℕ) (passed rows k j : ℕ) → AreRowsOf words passed k rows → k ≤ j → k % 64 + (j - k) < 64 → in_word rows (k % 64 + (j - k)) ≡ true →
    (class : ℕ) × (class < 64) × (in_word passed class ≡ false) × (is_in words class j ≡ true)
found_class words passed rows k j h le short member =
    let bit : j % 64 ≡ k % 64 + (j - k) = omega arith in
    let from = h.some (j % 64) (ap (in_word rows) bit ∙ member) in
    has_found words passed k j from.0 (omega arith) from.1 from.2 from.3
