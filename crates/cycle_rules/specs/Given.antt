-- What is judged, as it is kept: a body, how many rows are run of it, and the rows that are given.
use Rattle.std.specs.Prelude.{◌≡◌, ℕ, ◌+◌, ◌%◌, ◌<◌, min, List, map, length, slice_index_or, Bool, false, ◌&&◌, nat_eq, if◌then◌else◌}
use Rattle.machine_model.specs.Meaning.{MachineMeaning}
use Rattle.cycle_rules.specs.Bind.{row_of}
use Rattle.cycle_rules.specs.Dispatch.{can_dispatch, fits_group, fits_reorder, fits_registers, fits_loads, fits_stores}
use Rattle.cycle_rules.specs.Issue.{can_issue}
use Rattle.cycle_rules.specs.Retire.{can_retire}
use Rattle.cycle_rules.specs.Pick.{Taken, taken_below, place_after}
use Rattle.cycle_rules.specs.Row.{Row, Input, Table, no_row, phase}
use Rattle.cycle_rules.specs.Held.{taken_of}
use Rattle.cycle_rules.specs.Seen.{Key, key_at, comes_before, has_issued, sees}
use Rattle.cycle_rules.specs.declared.bound.Bound.{Bound}
use Rattle.cycle_rules.specs.declared.given.Step.{Step}
use Rattle.cycle_rules.specs.declared.given.Step.TheVariants.{ToDispatch, ToIssue, ToRetire}

-- a row of the body, repeated
abbrev pub row_in : List Bound → ℕ → Row
row_in body k = slice_index_or (map row_of body) (k % length (map row_of body)) no_row

-- so many rows of the body, on a machine
abbrev pub input_in : MachineMeaning → List Bound → ℕ → Input
input_in m body count = record { machine = m; row = row_in body; rows = count }

-- the micro-ops of a row that count
abbrev pub size_in : List Bound → ℕ → ℕ → ℕ
size_in body reorder k = min (row_in body k).uops reorder

-- the uses that took units before row j looks in phase p of cycle c
abbrev pub earlier_at : Input → Table → ℕ → ℕ → ℕ → List Taken
earlier_at g t c p j = taken_below g (sees g t p j c) (c + 1)

-- whether row j may take a step in cycle c
abbrev pub may_take : Input → Table → ℕ → Step → ℕ → Bool
may_take g t j ToDispatch c = can_dispatch g (sees g t 2 j c) j c
may_take g t j ToIssue c = can_issue g (sees g t 1 j c) j c
may_take g t j ToRetire c = can_retire g (sees g t 0 j c) j c

-- the place of a row's issue in the order of events
abbrev pub issue_key : (ℕ → Row) → Table → ℕ → Key
issue_key row t k = key_at (t k).issue (phase (row k)) k

-- the place after the unit that was taken last of a resource, by what was taken before and after
abbrev pub later_place : ℕ → ℕ → ℕ
later_place before after = if nat_eq after 0 then before else after

-- the place after the unit that row k took last of a resource, where it has issued; else 0
abbrev pub place_in : Input → Table → ℕ → ℕ → ℕ → ℕ → ℕ → ℕ
place_in g t c p j r k = if has_issued g t k c p j then place_after r (taken_of g t k) else 0

-- of the rows below n that took a unit of a resource, this one issued last, and this is the place after the unit; 0 where there is no such row
pub record IsLast (g : Input) (t : Table) (c p j r n last place : ℕ) : Type 0 where
  pub none : place ≡ 0 → (k : ℕ) → k < n → place_in g t c p j r k ≡ 0
  pub low : 0 < place → last < n
  pub is : 0 < place → place ≡ place_in g t c p j r last
  pub later : 0 < place → (k : ℕ) → k < n → 0 < place_in g t c p j r k → comes_before (issue_key g.row t last) (issue_key g.row t k) ≡ false

-- whether there is room for row j in all that it enters but the buffers of its resources
abbrev pub has_all_room : Input → Table → ℕ → ℕ → Bool
has_all_room g t j c = fits_group g t j c && fits_reorder g t j c && fits_registers g t j c && fits_loads g t j c && fits_stores g t j c
