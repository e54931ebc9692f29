-- Which numbers a word, and several words, hold, and which of them comes first from a place on.
use Rattle.std.specs.Prelude.{◌≡◌, ℕ, ◌+◌, ◌-◌, ◌/◌, ◌%◌, ◌<◌, ◌≤◌, Bool, true, false, ◌&&◌, Option, Some, None, nat_lt, nat_le, nat_eq, if◌then◌else◌, List, slice_index}
use Rattle.std.specs.Int.{bit_at}
use Rattle.std.proofs.lemmas.Bool.{le-ltb, and_left}

-- a number is in a word of 64 bits
unfoldable pub in_word : ℕ → ℕ → Bool
in_word word u = nat_lt u 64 && nat_eq (bit_at word u) 1

-- a number is in four words, 64 numbers in each
unfoldable pub in_words : List ℕ → ℕ → Bool
in_words words u = nat_lt u 256 && in_word (slice_index words (u / 64)) (u % 64)

pub in_word-bounded : (word u : ℕ) → 64 ≤ u → in_word word u ≡ false
unfolding in_word
in_word-bounded word u h = and_left (nat_lt u 64) _ (le-ltb u 64 h)

pub in_words-bounded : (words : List ℕ) (u : ℕ) → 256 ≤ u → in_words words u ≡ false
unfolding in_words
in_words-bounded words u h = and_left (nat_lt u 256) _ (le-ltb u 256 h)

-- no number from pos on and below the size passes
abbrev pub NoneFrom : ℕ → (ℕ → Bool) → ℕ → Type 0
NoneFrom size has pos = (v : ℕ) → pos ≤ v → v < size → has v ≡ false

-- u is the least number of at least pos, and below the size, that passes
pub record IsNext (size : ℕ) (has : ℕ → Bool) (pos u : ℕ) : Type 0 where
  pub from : pos ≤ u
  pub within : u < size
  pub member : has u ≡ true
  pub none : (v : ℕ) → pos ≤ v → v < u → has v ≡ false

-- how far it is from pos to v, upwards and from the size on at 0 again
abbrev pub steps_to : ℕ → ℕ → ℕ → ℕ
steps_to size pos v = if nat_le pos v then v - pos else v + size - pos

-- of the numbers that pass, u is the one that comes first from pos on
pub record IsNearest (size : ℕ) (has : ℕ → Bool) (pos u : ℕ) : Type 0 where
  pub within : u < size
  pub member : has u ≡ true
  pub nearest : (v : ℕ) → v < size → has v ≡ true → steps_to size pos u ≤ steps_to size pos v

-- the number that comes first from pos on; none where no number passes
abbrev pub IsFirstFrom : ℕ → (ℕ → Bool) → ℕ → Option ℕ → Type 0
IsFirstFrom size has pos (Some u) = IsNearest size has pos u
IsFirstFrom size has pos None = (v : ℕ) → has v ≡ false
