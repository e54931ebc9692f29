-- The dispatch group: the micro-ops of a cycle, filled by the rows that dispatch in it and by what is left of a wide row that came before.
use Rattle.std.specs.Prelude.{◌≡◌, ℕ, ◌+◌, ◌-◌, ◌*◌, ◌<◌, min, List, Option, Some, None, Bool, true, false, not, ◌&&◌, ◌||◌, nat_lt, nat_le, nat_eq, if◌then◌else◌}
use Rattle.std.specs.List.{sum_by, list_all, list_any}

-- a row that has dispatched: its micro-ops, the cycle in which it came, and whether it ends its group
pub record Dispatched : Type 0 where
  pub uops : ℕ
  pub from : ℕ
  pub ends : Bool

-- the part of the width that it takes in a cycle: it fills the width cycle after cycle until its micro-ops are through
unfoldable pub share : ℕ → ℕ → Dispatched → ℕ
share width c r = if nat_le r.from c then min width (r.uops - width * (c - r.from)) else 0

-- the parts of all rows
abbrev pub shares : ℕ → ℕ → List Dispatched → ℕ
shares width c rows = sum_by (share width c) rows

-- no row that ends its group takes a part
abbrev pub is_open : ℕ → ℕ → List Dispatched → Bool
is_open width c rows = list_all (λ r. not r.ends || nat_eq (share width c r) 0) rows

-- there is place for a row. One that begins a group, or is wider than the width, needs an empty group; nothing joins a row that ends one
abbrev pub has_place : ℕ → ℕ → List Dispatched → ℕ → Bool → Bool
has_place width c rows uops begins =
    nat_le (shares width c rows + min uops width) width
    && (not (begins || nat_lt width uops) || nat_eq (shares width c rows) 0)
    && is_open width c rows

-- some row's share is less in a cycle than in the one before
abbrev pub falls_at : ℕ → List Dispatched → ℕ → Bool
falls_at width rows c = list_any (λ r. nat_lt (share width c r) (share width (c - 1) r)) rows

-- the next cycle in which a share falls; none where there is no share
abbrev pub IsNextFall : ℕ → ℕ → List Dispatched → Option ℕ → Type 0
IsNextFall width cycle rows None = shares width cycle rows ≡ 0
IsNextFall width cycle rows (Some n) = (cycle < n) × (falls_at width rows n ≡ true) × ((c : ℕ) → cycle < c → c < n → falls_at width rows c ≡ false)
