-- Which rows read what a row writes: the body repeats, so that they stand as many rows later in each iteration.
use Rattle.std.specs.Prelude.{◌≡◌, ℕ, ◌+◌, ◌-◌, ◌*◌, ◌/◌, ◌%◌, ◌<◌, ◌≤◌, List, length, take, drop, Bool, true, false, not, ◌&&◌, nat_eq, slice_index_or, if◌then◌else◌}
use Rattle.std.specs.List.{All, list_any}
use Rattle.cycle_rules.specs.declared.links.Links.{Links}
use Rattle.cycle_rules.specs.Links.{no_links}

-- how many rows back the row stands that a link names, 0 for none: those of place p have the numbers 2p and 2p + 1
abbrev pub back_at : List Links → ℕ → ℕ
back_at links id = if nat_eq (id % 2) 0 then (slice_index_or links (id / 2) no_links).first.back else (slice_index_or links (id / 2) no_links).second.back

-- it names a row, which stands at place q of the body
unfoldable pub names_place : List Links → ℕ → ℕ → Bool
names_place links q id = not (nat_eq (back_at links id) 0) && nat_eq ((id / 2 + length links - back_at links id) % length links) q

-- x - 1 is the greatest of the first n links that names place q; x is 0 where none does
pub record IsLatest (links : List Links) (q n x : ℕ) : Type 0 where
  pub within : x ≤ n
  pub names : (x ≡ 0 → ⊥) → names_place links q (x - 1) ≡ true
  pub none : (id : ℕ) → x ≤ id → id < n → names_place links q id ≡ false

-- so it is kept of each place by the first n links, and of each of these by those before it
pub record AreChained (links : List Links) (n : ℕ) (last earlier : List ℕ) : Type 0 where
  pub places : length last ≡ length links
  pub size : length earlier ≡ n
  pub greatest : (q : ℕ) → q < length links → IsLatest links q n (slice_index_or last q 0)
  pub next : (id q : ℕ) → id < n → names_place links q id ≡ true → IsLatest links q id (slice_index_or earlier id 0)

-- the links from n on that name place q are listed between two places of a list
abbrev pub AreListed : List Links → ℕ → ℕ → List ℕ → ℕ → ℕ → Type 0
AreListed links q n later start end = (id : ℕ) → n ≤ id → id < 2 * length links → names_place links q id ≡ true
    → (i : ℕ) × (start ≤ i) × (i < end) × (slice_index_or later i 0 ≡ back_at links id)

-- so many rows later a row may stand that reads what another one writes, where an iteration has n rows
pub record IsDistance (n d : ℕ) : Type 0 where
  pub low : 1 ≤ d
  pub high : d ≤ n

-- the links from n on that name place q are put behind a list
pub record IsAppended (links : List Links) (q n : ℕ) (old new : List ℕ) : Type 0 where
  pub longer : length old ≤ length new
  pub same : (i : ℕ) → i < length old → slice_index_or new i 0 ≡ slice_index_or old i 0
  pub far : (i : ℕ) → length old ≤ i → i < length new → IsDistance (length links) (slice_index_or new i 0)
  pub each : AreListed links q n new (length old) (length new)

-- where the lists of n places begin and end
pub record AreSpans (n : ℕ) (starts : List ℕ) (size : ℕ) : Type 0 where
  pub count : length starts ≡ n + 1
  pub end : slice_index_or starts n 0 ≡ size
  pub rising : (q : ℕ) → q < n → slice_index_or starts q 0 ≤ slice_index_or starts (q + 1) 0
  pub within : (q : ℕ) → q ≤ n → slice_index_or starts q 0 ≤ size

-- each of the first n places has a list of the links that name it
pub record AreLists (links : List Links) (n : ℕ) (starts later : List ℕ) : Type 0 where
  pub spans : AreSpans n starts (length later)
  pub far : (i : ℕ) → i < length later → IsDistance (length links) (slice_index_or later i 0)
  pub each : (q : ℕ) → q < n → AreListed links q 0 later (slice_index_or starts q 0) (slice_index_or starts (q + 1) 0)

-- the list of place q
abbrev pub readers_at : List ℕ → List ℕ → ℕ → List ℕ
readers_at starts later q = take (slice_index_or starts (q + 1) 0 - slice_index_or starts q 0) (drop (slice_index_or starts q 0) later)

-- what is listed of each of n places: how many rows back a link stands that names it, of each of these
pub record AreReaders (links : List Links) (n : ℕ) (starts later : List ℕ) : Type 0 where
  pub count : length starts ≡ n + 1
  pub far : (q : ℕ) → q < n → All (IsDistance (length links)) (readers_at starts later q)
  pub each : (q id : ℕ) → q < n → id < 2 * length links → names_place links q id ≡ true → list_any (nat_eq (back_at links id)) (readers_at starts later q) ≡ true
