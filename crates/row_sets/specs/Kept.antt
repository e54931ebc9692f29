-- What words and times say of the rows whose places they keep.
use Rattle.std.specs.Prelude.{◌≡◌, ℕ, ◌+◌, ◌*◌, ◌/◌, ◌%◌, ◌<◌, ◌≤◌, Bool, true, false, List, slice_index, Option, Some, None, if◌then◌else◌}
use Rattle.unit_sets.specs.Members.{in_word}
use Rattle.row_sets.specs.Rows.{word_of}

-- row k is in the set of a class: a bit of the word that the class has among those of the row's
-- place
unfoldable pub is_in : List ℕ → ℕ → ℕ → Bool
is_in words class k = in_word (slice_index words (word_of k * 64 + class)) (k % 64)

-- row k waits for a cycle
unfoldable pub is_waiting : List ℕ → ℕ → Bool
is_waiting words k = in_word (slice_index words (word_of k)) (k % 64)

-- the time of row k, where it waits
unfoldable pub time_in : List ℕ → List ℕ → ℕ → Option ℕ
time_in words times k = if is_waiting words k then Some (slice_index times (k % 4096)) else None

-- a word has the numbers that the live classes below n have in their own words, of 64 words that
-- follow one another, and no others
pub record IsMerged (words : List ℕ) (base : ℕ) (live : ℕ → Bool) (n word : ℕ) : Type 0 where
  pub none : (v class : ℕ) → in_word word v ≡ false → class < n → live class ≡ true →
      in_word (slice_index words (base + class)) v ≡ false
  pub some : (v : ℕ) → in_word word v ≡ true →
      (class : ℕ) × (class < n) × (live class ≡ true)
      × (in_word (slice_index words (base + class)) v ≡ true)

-- p is the place, of those that numbers below n with a test name, whose time comes first
pub record IsFirstOf (has : ℕ → Bool) (place time : ℕ → ℕ) (n p : ℕ) : Type 0 where
  pub number : ℕ
  pub within : number < n
  pub member : has number ≡ true
  pub is : p ≡ place number
  pub least : (v : ℕ) → v < n → has v ≡ true → time p ≤ time (place v)

-- none of the places from low on and below high waits
abbrev pub NoneWaitsIn : (ℕ → Bool) → ℕ → ℕ → Type 0
NoneWaitsIn waits low high = (q : ℕ) → low ≤ q → q < high → waits q ≡ false

-- of the places from low on and below high that wait, p is the one whose time comes first
pub record IsSoonest (waits : ℕ → Bool) (time : ℕ → ℕ) (low high p : ℕ) : Type 0 where
  pub from : low ≤ p
  pub within : p < high
  pub member : waits p ≡ true
  pub least : (q : ℕ) → low ≤ q → q < high → waits q ≡ true → time p ≤ time q

-- the words that have rows that wait are known, and of each the place of its row whose time comes
-- first
pub record AreSoonest (waits : ℕ → Bool) (time : ℕ → ℕ) (some : ℕ) (soonest : ℕ → ℕ) : Type 0 where
  pub none : (q : ℕ) → q < 4096 → in_word some (q / 64) ≡ false → waits q ≡ false
  pub each : (w : ℕ) → in_word some w ≡ true → IsSoonest waits time (64 * w) (64 * w + 64) (soonest w)

-- and of all rows that wait, if there are any, the place of the one whose time comes first
pub record IsIndex (waits : ℕ → Bool) (time : ℕ → ℕ) (some : ℕ) (soonest : ℕ → ℕ) (first : Option ℕ) : Type 0 where
  pub words : AreSoonest waits time some soonest
  pub none : first ≡ None → NoneWaitsIn waits 0 4096
  pub all : (p : ℕ) → first ≡ Some p → IsSoonest waits time 0 4096 p

-- the place of the row whose time comes first, which has come by a cycle
pub record IsDue (waits : ℕ → Bool) (time : ℕ → ℕ) (c p : ℕ) : Type 0 where
  pub low : p < 4096
  pub soonest : IsSoonest waits time 0 4096 p
  pub come : time p ≤ c
