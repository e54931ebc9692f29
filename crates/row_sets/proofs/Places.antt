-- The places of rows, and which rows have one place.
use Rattle.std.proofs.Common.{◌≡◌, ℕ, ◌+◌, ◌/◌, ◌%◌, ◌<◌, ◌≤◌, false, ◌&&◌, inl, inr, refl, sym, ◌∙◌, ap, nat_eq, arith}
use Rattle.std.proofs.lemmas.Bool.{cases_eq, eq-eqb, ne_eqb, and_from, and_left, and_right}
use Rattle.row_sets.specs.Kept.{time_in, is_waiting}
use Rattle.row_sets.specs.Rows.{same_place, word_of, row_at}
use Rattle.row_sets.specs.Agenda.{time_of}
use Rattle.row_sets.specs.declared.agenda.Agenda.{Agenda}

-- two rows that stand among 4,096 that follow one another have places of their own
pub apart : (front j k : ℕ) → front ≤ j → j < front + 4096 → front ≤ k → k < front + 4096 → (j ≡ k → ⊥) → same_place j k ≡ false
apart front j k low high low-2 high-2 ne = ne_eqb (j % 4096) (k % 4096) (λ e. ne (omega arith))

-- a place is a word and a bit of it
pub place_word : (k : ℕ) → k % 4096 / 64 ≡ word_of k
place_word k = omega arith

pub place_bit : (k : ℕ) → k % 4096 % 64 ≡ k % 64
place_bit k = omega arith

pub place_of_parts : (j k : ℕ) → word_of j ≡ word_of k → j % 64 ≡ k % 64 → j % 4096 ≡ k % 4096
place_of_parts j k word bit = omega arith

pub same_place-parts : (j k : ℕ) → same_place j k ≡ (nat_eq (word_of j) (word_of k) && nat_eq (j % 64) (k % 64))
same_place-parts j k = elim (cases_eq (j % 4096) (k % 4096)) [
  | inl e ↦
      let word : word_of j ≡ word_of k = sym (place_word j) ∙ ap (λ p. p / 64) e ∙ place_word k in
      let bit : j % 64 ≡ k % 64 = sym (place_bit j) ∙ ap (λ p. p % 64) e ∙ place_bit k in
      eq-eqb (j % 4096) (k % 4096) e ∙ sym (and_from _ _ (eq-eqb (word_of j) (word_of k) word) (eq-eqb (j % 64) (k % 64) bit))
  | inr ne ↦ ne_eqb (j % 4096) (k % 4096) ne ∙ sym (elim (cases_eq (word_of j) (word_of k)) [
    | inl word ↦ and_right _ _ (ne_eqb (j % 64) (k % 64) (λ bit. ne (place_of_parts j k word bit)))
    | inr other ↦ and_left _ _ (ne_eqb (word_of j) (word_of k) other)
  ])
]

-- the row at a place stands among the 4,096, and has the place
pub row_at-place : (start place : ℕ) → place < 4096 → row_at start place % 4096 ≡ place
row_at-place start place within = omega arith

pub row_at-from : (start place : ℕ) → start ≤ row_at start place
row_at-from start place = omega arith

pub row_at-within : (start place : ℕ) → row_at start place < start + 4096
row_at-within start place = omega arith

-- rows of one place wait for one cycle
pub time_place : (agenda : Agenda) (j k : ℕ) → j % 4096 ≡ k % 4096 → time_of agenda j ≡ time_of agenda k
unfolding time_in is_waiting
time_place agenda j k same =
    let word : word_of j ≡ word_of k = omega (arith, same) in
    let bit : j % 64 ≡ k % 64 = omega (arith, same) in
    rw (word, bit, same) refl

-- the row that is 4,096 rows later has the same place
pub time_again : (agenda : Agenda) (k : ℕ) → time_of agenda (k + 4096) ≡ time_of agenda k
time_again agenda k = time_place agenda (k + 4096) k (omega arith)
