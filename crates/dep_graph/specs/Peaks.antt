-- The greatest of the times of some rows, kept with the first row that reaches it; and what is kept of the waits of a row.
use Rattle.std.specs.Prelude.{◌≡◌, ℕ, ◌%◌, ◌+◌, ◌<◌, ◌≤◌, List, [], ◌∷◌, length, slice_index_or, true, Option, Some, None, nat_lt, if◌then◌else◌}
use Rattle.rv_isa.specs.declared.facts.Kind.TheVariants.{Load, Store, Barrier}
use Rattle.cycle_rules.specs.CycleBound.{max_below}
use Rattle.cycle_rules.specs.Row.{Input, Table}
use Rattle.cycle_rules.specs.Issue.{producer, is_fenced}
use Rattle.cycle_rules.specs.Links.{AreLinks, no_links}
use Rattle.cycle_rules.specs.declared.links.Links.{Links}
use Rattle.cycle_rules.specs.Waits.{register_wait, memory_wait, resource_wait}
use Rattle.cycle_rules.specs.declared.bound.Source.{Source}
use Rattle.dep_graph.specs.PassTimes.{read_time, reads_time, let_go}
use Rattle.dep_graph.specs.Blamed.{register_blamed, memory_blamed}
use Rattle.dep_graph.specs.declared.peak.Peak.{Peak}
use Rattle.dep_graph.specs.declared.memory.Fences.{Fences}
use Rattle.dep_graph.specs.declared.memory_waits.MemoryWaits.{MemoryWaits}
use Rattle.dep_graph.specs.declared.waits.RowWaits.{RowWaits}
use Rattle.dep_graph.specs.declared.waits.Wait.{Wait}
use Rattle.dep_graph.specs.declared.waits.Waits.{Waits}

-- the row is the first that reaches a time
pub record IsFirstAt (f : ℕ → ℕ) (n time row : ℕ) : Type 0 where
  pub within : row < n
  pub at : f row ≡ time
  pub first : (k : ℕ) → k < row → f k < time

-- the greatest of the times of the rows below n, with the first row that reaches it
pub record IsPeak (f : ℕ → ℕ) (n : ℕ) (peak : Peak) : Type 0 where
  pub time_is : peak.time ≡ max_below n f
  pub row_is : 0 < peak.time → IsFirstAt f n peak.time peak.row

-- the links of the places of the body tell of each row where its values come from
pub record HaveLinks (g : Input) (size : ℕ) (links : List Links) : Type 0 where
  pub within : (j : ℕ) → j < g.rows → j % size < length links
  pub each : (j : ℕ) → j < g.rows → AreLinks g j (slice_index_or links (j % size) no_links)

-- the producer of the first read whose value is not there before a cycle
abbrev pub late_in : Input → Table → ℕ → ℕ → List Source → Option ℕ
late_in g t j time [] = None
late_in g t j time (s ∷ rest) = if nat_lt (read_time g t j s) time then late_in g t j time rest else producer g j s.reg

-- the time from which on all reads have their values, with the row that makes the first of those that are there last
pub record IsLate (g : Input) (t : Table) (j : ℕ) (reads : List Source) (peak : Peak) : Type 0 where
  pub time_is : peak.time ≡ reads_time g t j reads
  pub row_is : 0 < peak.time → late_in g t j peak.time reads ≡ Some peak.row

-- from when on the rows older than j let a load, a store and a barrier go, and a load that all of them are fenced off from
pub record AreFences (g : Input) (t : Table) (j : ℕ) (fences : Fences) : Type 0 where
  pub fenced : IsPeak (λ k. let_go Load (g.row k).kind g.machine.limits.no_alias true (t k).issue (t k).complete) j fences.fenced
  pub load : IsPeak (λ k. let_go Load (g.row k).kind g.machine.limits.no_alias (is_fenced g k j) (t k).issue (t k).complete) j fences.load
  pub store : IsPeak (λ k. let_go Store (g.row k).kind g.machine.limits.no_alias true (t k).issue (t k).complete) j fences.store
  pub barrier : IsPeak (λ k. let_go Barrier (g.row k).kind g.machine.limits.no_alias true (t k).issue (t k).complete) j fences.barrier

-- a wait, and the row that is blamed for it
pub record IsWait (cycles : ℕ) (blamed : Option ℕ) (wait : Wait) : Type 0 where
  pub is : wait.cycles ≡ cycles
  pub row_is : 0 < wait.cycles → blamed ≡ Some wait.row

-- the waits of row j for operands and for the order of memory
pub record AreWaits (g : Input) (t : Table) (j : ℕ) (waits : Waits) : Type 0 where
  pub register : IsWait (register_wait g t j) (register_blamed g t j) waits.register
  pub memory : IsWait (memory_wait g t j) (memory_blamed g t j) waits.memory

-- and for units
pub record AreRowWaits (g : Input) (t : Table) (j : ℕ) (row : RowWaits) : Type 0 where
  pub before : AreWaits g t j row.before
  pub units : row.units ≡ resource_wait g t j

-- the wait that is kept of a row: the one at its place
abbrev pub kept_at : MemoryWaits → ℕ → Wait
kept_at kept j = slice_index_or kept.waits.items (slice_index_or kept.places.items j 0) (record { cycles = 0; row = 0 })

-- what is kept of the rows below j: where the wait of each stands, and the waits, behind that of rows that did not wait
pub record IsKept (j : ℕ) (kept : MemoryWaits) : Type 0 where
  pub rows : length kept.places.items ≤ j
  pub few : length kept.waits.items ≤ j + 1
  pub none : slice_index_or kept.waits.items 0 (record { cycles = 0; row = 0 }) ≡ record { cycles = 0; row = 0 }
  pub within : (k : ℕ) → slice_index_or kept.places.items k 0 < length kept.waits.items

-- the waits of the first n rows for the order of memory are kept
abbrev pub AreKept : Input → Table → ℕ → MemoryWaits → Type 0
AreKept g t n kept = (j : ℕ) → j < n → IsWait (memory_wait g t j) (memory_blamed g t j) (kept_at kept j)
