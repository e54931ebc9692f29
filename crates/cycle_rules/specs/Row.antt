-- The rows of a run: the instructions of a region, bound to their scheduling classes and repeated iteration by iteration.
use Rattle.std.specs.Prelude.{ℕ, ℤ, pos, negsuc, ◌+◌, ◌-◌, ◌*◌, ◌%◌, min, length, slice_index_or, Bool, true, false, List, [], nat_eq, if◌then◌else◌}
use Rattle.std.specs.List.{list_any}
use Rattle.machine_model.specs.Meaning.{MachineMeaning}
use Rattle.machine_model.specs.Valid.{no_class}
use Rattle.machine_model.specs.declared.facts.Use.{Use}
use Rattle.rv_isa.specs.declared.facts.Kind.{Kind}
use Rattle.rv_isa.specs.declared.facts.Kind.TheVariants.{Plain, Load, Store, Barrier}
use Rattle.cycle_rules.specs.declared.bound.Source.{Source}
use Rattle.cycle_rules.specs.declared.times.Times.{Times}

-- an instruction with the numbers of its class
pub record Row : Type 0 where
  pub uops : ℕ
  pub latency : ℕ
  -- in the order in which they are met
  pub uses : List Use
  -- one of its uses names a resource with a buffer of 0
  pub reserved : Bool
  -- rs1 before rs2
  pub reads : List Source
  -- the register that it writes; 0 for none
  pub rd : ℕ
  -- its write class
  pub write : ℕ
  pub kind : Kind
  pub begins_group : Bool
  pub ends_group : Bool

-- what is run: a machine, its rows by number, and how many they are
pub record Input : Type 0 where
  pub machine : MachineMeaning
  pub row : ℕ → Row
  pub rows : ℕ

abbrev pub no_row : Row
no_row = record { uops = 0; latency = 0; uses = []; reserved = false; reads = []; rd = 0; write = 0; kind = Plain; begins_group = false; ends_group = false }

-- a body, repeated iteration by iteration
abbrev pub input : MachineMeaning → List Row → ℕ → Input
input m body iterations = record { machine = m; row = λ j. slice_index_or body (j % length body) no_row; rows = iterations * length body }

-- the micro-ops of a row that count: no more than the reorder buffer holds
unfoldable pub uops_of : Input → ℕ → ℕ
uops_of g j = min (g.row j).uops g.machine.limits.reorder

-- the phase of a cycle in which a row issues: a reserved row issues as it dispatches, in phase 2
unfoldable pub phase : Row → ℕ
phase b = if b.reserved then 2 else 1

-- one of its uses names a resource
unfoldable pub names : ℕ → Row → Bool
names r b = list_any (λ w. nat_eq w.resource r) b.uses

-- the entries of a buffer; 0 where it counts none
unfoldable pub entries : ℤ → ℕ
entries (pos n) = n
entries (negsuc n) = 0

-- the cycles from a row's issue until its value can be read, with an advance of the read
unfoldable pub lead : ℕ → ℤ → ℕ
lead latency (pos a) = latency - a
lead latency (negsuc a) = latency + (a + 1)

-- the advance of a read after a write: 0 for a read without a class
unfoldable pub advance_of : MachineMeaning → ℕ → ℕ → ℤ
advance_of m read write = if nat_eq read no_class then pos 0 else m.advance read write

unfoldable pub is_load : Kind → Bool
is_load Load = true
is_load _ = false

unfoldable pub is_store : Kind → Bool
is_store Store = true
is_store _ = false

unfoldable pub is_barrier : Kind → Bool
is_barrier Barrier = true
is_barrier _ = false

-- the times of each row, by its number
abbrev pub Table : Type 0
Table = ℕ → Times

abbrev pub no_times : Times
no_times = record { dispatch = 0; issue = 0; complete = 0; retire = 0; units = [] }

abbrev pub times : List Times → Table
times table j = slice_index_or table j no_times
