-- What is kept while the rows of a run are walked in program order.
use Rattle.std.specs.Prelude.{◌≡◌, ℕ, ◌+◌, ◌-◌, ◌*◌, ◌^◌, ◌<◌, ◌≤◌, min, List, length, slice_index_or, Bool, true, not, ◌||◌, Some, nat_eq, nat_le, nat_lt, if◌then◌else◌}
use Rattle.machine_model.specs.Valid.{AreLimits, IsShare}
use Rattle.machine_model.specs.declared.facts.FileShare.{FileShare}
use Rattle.cycle_rules.specs.Below.{sum_below, all_below}
use Rattle.cycle_rules.specs.Bind.{AreBoundRows}
use Rattle.cycle_rules.specs.Row.{Input, Table, times, uops_of, is_load, is_store}
use Rattle.cycle_rules.specs.Dispatch.{share, cost_in, is_held}
use Rattle.cycle_rules.specs.Run.{IsRunOf}
use Rattle.cycle_rules.specs.declared.times.Times.{Times}
use Rattle.dep_graph.specs.Thresholds.{IsKept, row_stalls, start}
use Rattle.dep_graph.specs.declared.window.Limited.{Limited}
use Rattle.dep_graph.specs.declared.window.Limited.TheVariants.{Entries, Registers, Loads, Stores, FileRegisters}
use Rattle.dep_graph.specs.declared.window.Window.{Window}
use Rattle.dep_graph.specs.declared.walk.Walk.{Walk}
use Rattle.dep_graph.specs.declared.fill.Fill.{Fill}
use Rattle.dep_graph.specs.declared.counts.Counts.{Counts}

-- a run of bound rows on a machine, in their ranges
pub record IsSoundRun (g : Input) (table : List Times) : Type 0 where
  pub limits : AreLimits g.machine.limits
  pub files : g.machine.file_count ≤ 8
  pub share : (r : ℕ) (s : FileShare) → g.machine.file_of r ≡ Some s → IsShare g.machine s
  pub units : (r u : ℕ) → r < g.machine.resource_count → g.machine.units r u ≡ true → u < g.machine.unit_count
  pub bound : AreBoundRows g
  pub few : g.rows ≤ 1048576
  pub run : IsRunOf g table
  pub early : (j : ℕ) → j < g.rows → (times table j).retire < 2 ^ 41

-- what a row takes, while it is in flight, of something that is limited
abbrev pub weight_of : Input → Limited → ℕ → ℕ
weight_of g Entries k = uops_of g k
weight_of g Registers k = if nat_lt 0 (g.row k).rd then 1 else 0
weight_of g Loads k = if is_load (g.row k).kind then 1 else 0
weight_of g Stores k = if is_store (g.row k).kind then 1 else 0
weight_of g (FileRegisters f) k = cost_in g.machine f (g.row k).rd

-- what is left of a bound, of which 0 means none, is enough for row j in a cycle
abbrev pub is_enough : (ℕ → ℕ) → ℕ → Table → ℕ → ℕ → Bool
is_enough w bound t j c = nat_eq bound 0 || nat_eq (w j) 0 || nat_le (sum_below j (λ k. if is_held t c k then w k else 0) + w j) bound

-- a window keeps what the rows from its front on, older than row j, take of something, where it has a bound
pub record IsWindow (g : Input) (what : Limited) (bound j : ℕ) (window : Window) : Type 0 where
  pub kept : (bound ≡ 0 → ⊥) → IsKept (weight_of g what) bound j window.front window.held
  pub low : window.held ≤ bound

-- a window in a list of them
abbrev pub window_at : List Window → ℕ → Window
window_at files f = slice_index_or files f (record { front = 0; held = 0 })

-- the windows of the register files
pub record AreFiles (g : Input) (j : ℕ) (files : List Window) : Type 0 where
  pub size : length files ≡ 8
  pub window : (f : ℕ) → f < 8 → IsWindow g (FileRegisters f) (g.machine.file_size f) j (window_at files f)

-- of the micro-ops of the rows older than row j so many are left in cycle a or later
pub record IsFilled (g : Input) (t : Table) (j a : ℕ) (fill : Fill) : Type 0 where
  pub past : (k : ℕ) → k < j → (t k).dispatch ≤ a
  pub shares : (c : ℕ) → a ≤ c → sum_below j (λ k. share g.machine.limits.width (uops_of g k) (t k).dispatch c)
      ≡ min g.machine.limits.width (fill.left - g.machine.limits.width * (c - a))
  pub opens : (c : ℕ) → a ≤ c → all_below j (λ k. not (g.row k).ends_group || nat_eq (share g.machine.limits.width (uops_of g k) (t k).dispatch c) 0)
      ≡ (fill.is_open || nat_eq (fill.left - g.machine.limits.width * (c - a)) 0)
  pub few : fill.left ≤ 65536

-- what is kept when the rows older than row j have gone by
pub record IsWalk (g : Input) (t : Table) (j : ℕ) (walk : Walk) : Type 0 where
  pub begin : walk.start ≡ start t j
  pub fill : IsFilled g t j (start t j) walk.fill
  pub entries : IsWindow g Entries g.machine.limits.reorder j walk.entries
  pub registers : IsWindow g Registers g.machine.limits.registers j walk.registers
  pub loads : IsWindow g Loads g.machine.limits.loads j walk.loads
  pub stores : IsWindow g Stores g.machine.limits.stores j walk.stores
  pub files : AreFiles g j walk.files

-- the stalls of row j
abbrev pub stalls_of : Input → Table → ℕ → Counts
stalls_of g t j = record {
  group = row_stalls g t 0 j;
  reorder = row_stalls g t 1 j;
  registers = row_stalls g t 2 j;
  loads = row_stalls g t 3 j;
  stores = row_stalls g t 4 j;
  buffers = row_stalls g t 5 j;
  reserved = row_stalls g t 6 j;
}

-- the stalls of the rows older than row j
abbrev pub sums_of : Input → Table → ℕ → Counts
sums_of g t j = record {
  group = sum_below j (row_stalls g t 0);
  reorder = sum_below j (row_stalls g t 1);
  registers = sum_below j (row_stalls g t 2);
  loads = sum_below j (row_stalls g t 3);
  stores = sum_below j (row_stalls g t 4);
  buffers = sum_below j (row_stalls g t 5);
  reserved = sum_below j (row_stalls g t 6);
}
