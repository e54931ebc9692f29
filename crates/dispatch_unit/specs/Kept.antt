-- What a group keeps of the rows that have dispatched, and so which rows it stands for.
use Rattle.std.specs.Prelude.{◌≡◌, ℕ, ◌-◌, ◌*◌, ◌≤◌, List, Bool}
use Rattle.std.specs.List.{All, sum_by}
use Rattle.dispatch_unit.specs.Group.{Dispatched, shares, is_open}
use Rattle.dispatch_unit.specs.declared.group.Group.{Group}

-- the micro-ops of a row that are not through before a cycle
abbrev pub rest : ℕ → ℕ → Dispatched → ℕ
rest width c r = r.uops - width * (c - r.from)

-- of rows that came by a cycle and fit its width: what is left of them, and whether one of them ends its group
pub record AreKept (width cycle kept : ℕ) (joinable : Bool) (rows : List Dispatched) : Type 0 where
  pub past : All (λ r. r.from ≤ cycle) rows
  pub fit : shares width cycle rows ≤ width
  pub left : kept ≡ sum_by (rest width cycle) rows
  pub is_open : joinable ≡ is_open width cycle rows

-- the rows that a group stands for
abbrev pub StandsFor : Group → List Dispatched → Type 0
StandsFor group rows = AreKept group.width group.cycle group.left group.is_open rows

-- the dispatch width, in micro-ops a cycle
abbrev pub width_of : Group → ℕ
width_of group = group.width

-- the present cycle
abbrev pub cycle_of : Group → ℕ
cycle_of group = group.cycle
