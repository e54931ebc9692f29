-- Rows in flight follow one another, and there are at most 4,096 of them: so the place of a row
-- among 4,096 tells it apart from the others.
use Rattle.std.specs.Prelude.{ℕ, ◌+◌, ◌-◌, ◌/◌, ◌%◌, Bool, nat_eq}

-- two rows have the same place
abbrev pub same_place : ℕ → ℕ → Bool
same_place j k = nat_eq (j % 4096) (k % 4096)

-- the place of a row is a bit of one of 64 words
abbrev pub word_of : ℕ → ℕ
word_of k = k / 64 % 64

-- the row at a place, of the 4,096 from start on
abbrev pub row_at : ℕ → ℕ → ℕ
row_at start place = start + (place + 4096 - start % 4096) % 4096
