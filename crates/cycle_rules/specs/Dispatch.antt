-- Whether a row may dispatch in a cycle: the dispatch group, the reorder buffer, the registers, the load and store queues, and the buffers of its resources.
-- Each test reads the table t of what is seen there; the time of an event that has not come lies above c.
use Rattle.std.specs.Prelude.{zero, suc, ℕ, ◌+◌, ◌-◌, ◌*◌, min, Bool, true, not, ◌&&◌, ◌||◌, Option, Some, None, nat_lt, nat_le, nat_eq, if◌then◌else◌}
use Rattle.std.specs.List.{list_all}
use Rattle.machine_model.specs.Meaning.{MachineMeaning}
use Rattle.machine_model.specs.declared.facts.FileShare.{FileShare}
use Rattle.cycle_rules.specs.Below.{sum_below, count_below, all_below}
use Rattle.cycle_rules.specs.Row.{Row, Input, Table, uops_of, names, entries, is_load, is_store}
use Rattle.cycle_rules.specs.Issue.{can_start}

-- a bound, of which 0 means none, leaves room for one more
unfoldable pub has_room : ℕ → ℕ → Bool
has_room bound held = nat_eq bound 0 || nat_lt held bound

-- c is at least the time of the row before, where there is one
unfoldable pub follows : (ℕ → ℕ) → ℕ → ℕ → Bool
follows time zero c = true
follows time (suc k) c = nat_le (time k) c

-- the part of the width that a row of a size takes in cycle c, where it came in cycle from: it fills the width cycle after cycle until its micro-ops are through
unfoldable pub share : ℕ → ℕ → ℕ → ℕ → ℕ
share width size from c = if nat_le from c then min width (size - width * (c - from)) else 0

-- the group of cycle c has place for row j, by the sizes of the rows and the cycles in which they came.
-- A row that begins a group, or is wider than the width, needs an empty group; nothing joins a row that ends one
unfoldable pub has_place : ℕ → (ℕ → Row) → (ℕ → ℕ) → (ℕ → ℕ) → ℕ → ℕ → Bool
has_place width row size from j c =
    nat_le (sum_below j (λ k. share width (size k) (from k) c) + min (size j) width) width
    && (not ((row j).begins_group || nat_lt width (size j)) || nat_eq (sum_below j (λ k. share width (size k) (from k) c)) 0)
    && all_below j (λ k. not (row k).ends_group || nat_eq (share width (size k) (from k) c) 0)

unfoldable pub fits_group : Input → Table → ℕ → ℕ → Bool
fits_group g t j c = has_place g.machine.limits.width g.row (uops_of g) (λ k. (t k).dispatch) j c

-- the row has not retired: it holds its entries
abbrev pub is_held : Table → ℕ → ℕ → Bool
is_held t c k = nat_lt c (t k).retire

unfoldable pub fits_reorder : Input → Table → ℕ → ℕ → Bool
fits_reorder g t j c = nat_le (sum_below j (λ k. if is_held t c k then uops_of g k else 0) + uops_of g j) g.machine.limits.reorder

-- what a share of a register file costs in a file
abbrev pub cost_of : ℕ → Option FileShare → ℕ
cost_of file None = 0
cost_of file (Some s) = if nat_eq s.file file then s.cost else 0

-- what a write of a register costs in a file; register 0 is never written
unfoldable pub cost_in : MachineMeaning → ℕ → ℕ → ℕ
cost_in m file r = if nat_eq r 0 then 0 else cost_of file (m.file_of r)

-- the file of the share, where its size is bounded, has room for the share
abbrev pub fits_file : Input → Table → ℕ → ℕ → Option FileShare → Bool
fits_file g t j c None = true
fits_file g t j c (Some s) = nat_eq (g.machine.file_size s.file) 0
    || nat_le (sum_below j (λ k. if is_held t c k then cost_in g.machine s.file (g.row k).rd else 0) + s.cost) (g.machine.file_size s.file)

unfoldable pub fits_registers : Input → Table → ℕ → ℕ → Bool
fits_registers g t j c = nat_eq (g.row j).rd 0
    || (has_room g.machine.limits.registers (count_below j (λ k. nat_lt 0 (g.row k).rd && is_held t c k))
    && fits_file g t j c (g.machine.file_of (g.row j).rd))

unfoldable pub fits_loads : Input → Table → ℕ → ℕ → Bool
fits_loads g t j c = not (is_load (g.row j).kind) || has_room g.machine.limits.loads (count_below j (λ k. is_load (g.row k).kind && is_held t c k))

unfoldable pub fits_stores : Input → Table → ℕ → ℕ → Bool
fits_stores g t j c = not (is_store (g.row j).kind) || has_room g.machine.limits.stores (count_below j (λ k. is_store (g.row k).kind && is_held t c k))

-- the buffer of each resource that the row names has an entry free of rows that wait to issue
unfoldable pub fits_buffers : Input → Table → ℕ → ℕ → Bool
fits_buffers g t j c = list_all (λ w. has_room (entries (g.machine.buffer w.resource)) (count_below j (λ k. names w.resource (g.row k) && nat_lt c (t k).issue))) (g.row j).uses

-- a reserved row needs no buffer entry, but must be able to issue: it issues as it dispatches
unfoldable pub can_dispatch : Input → Table → ℕ → ℕ → Bool
can_dispatch g t j c = follows (λ k. (t k).dispatch) j c
    && fits_group g t j c && fits_reorder g t j c && fits_registers g t j c && fits_loads g t j c && fits_stores g t j c
    && (if (g.row j).reserved then can_start g t j c else fits_buffers g t j c)
