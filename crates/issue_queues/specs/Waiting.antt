-- The rows that have dispatched and wait to issue: what they hold of the buffers, and which are ready.
use Rattle.std.specs.Prelude.{◌≡◌, ℕ, ◌%◌, ◌<◌, List, [], ◌∷◌, map, slice_index, slice_index_or, length, Bool, true, false, not, ◌&&◌, Option, Some, None, nat_le, nat_lt, nat_eq, if◌then◌else◌}
use Rattle.std.specs.List.{list_all, list_any, count_by, filter}
use Rattle.machine_model.specs.Meaning.{MachineMeaning}
use Rattle.machine_model.specs.declared.facts.Use.{Use}
use Rattle.cycle_rules.specs.Row.{entries}
use Rattle.cycle_rules.specs.Dispatch.{has_room}

pub record Waiting : Type 0 where
  pub row : ℕ
  -- its uses, of which each names a resource
  pub uses : List Use
  pub ready : Bool

abbrev pub none_waiting : Waiting
none_waiting = record { row = 0; uses = []; ready = false }

-- uses name a resource
abbrev pub name_one : ℕ → List Use → Bool
name_one r uses = list_any (λ w. nat_eq w.resource r) uses

-- the entries that rows hold in the buffer of a resource: several uses of it in one row are one entry
abbrev pub held_in : List Waiting → ℕ → ℕ
held_in rows r = count_by (λ x. name_one r x.uses) rows

-- the buffer of each resource that a row names has an entry free
abbrev pub has_entries : MachineMeaning → List Waiting → List Use → Bool
has_entries m rows uses = list_all (λ w. has_room (entries (m.buffer w.resource)) (held_in rows w.resource)) uses

abbrev pub woken : ℕ → Waiting → Waiting
woken row x = if nat_eq x.row row then record x { ready = true } else x

-- the rows after one of them has become ready
abbrev pub with_ready : ℕ → List Waiting → List Waiting
with_ready row rows = map (woken row) rows

-- the rows without one
abbrev pub without : ℕ → List Waiting → List Waiting
without row rows = filter (λ x. not (nat_eq x.row row)) rows

-- the first ready row whose number passes
abbrev pub first_ready : (ℕ → Bool) → List Waiting → Option ℕ
first_ready p [] = None
first_ready p (x ∷ rows) = if p x.row && x.ready then Some x.row else first_ready p rows

-- the first ready row of a number or more
abbrev pub ready_from : ℕ → List Waiting → Option ℕ
ready_from from rows = first_ready (nat_le from) rows

-- the lane of a row: that of its place in the body
abbrev pub lane_of : List ℕ → ℕ → ℕ
lane_of lanes row = slice_index lanes (row % length lanes)

-- the first ready row of a number or more whose lane is one of these
abbrev pub ready_among : ℕ → (ℕ → Bool) → List ℕ → List Waiting → Option ℕ
ready_among from lane_passes lanes rows = first_ready (λ row. nat_le from row && lane_passes (lane_of lanes row)) rows

-- a row is among them
abbrev pub is_in : ℕ → List Waiting → Bool
is_in row rows = list_any (λ x. nat_eq x.row row) rows

-- all rows are below a number
abbrev pub are_below : ℕ → List Waiting → Bool
are_below row rows = list_all (λ x. nat_lt x.row row) rows

-- a row is among them, with its uses
pub record IsIn (row : ℕ) (uses : List Use) (rows : List Waiting) (i : ℕ) : Type 0 where
  pub within : i < length rows
  pub row_is : (slice_index_or rows i none_waiting).row ≡ row
  pub uses_are : (slice_index_or rows i none_waiting).uses ≡ uses
