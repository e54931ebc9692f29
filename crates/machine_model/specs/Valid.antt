-- The law that every machine keeps: its ranges, and what the engines and the reports rest on.
use Rattle.std.specs.Prelude.{◌≡◌, ℕ, ◌<◌, ◌≤◌, pos, neg_ℤ, int_le, length, take, slice_index, slice_index_or, Bool, true, false, Some, None}
use Rattle.rv_isa.specs.declared.op.Op.{Op}
use Rattle.machine_model.specs.declared.answers.TheConstants.{NO_CLASS}
use Rattle.machine_model.specs.declared.answers.Binding.{Binding}
use Rattle.machine_model.specs.declared.answers.ClassAnswer.TheVariants.{Class}
use Rattle.machine_model.specs.declared.answers.UnitOwner.{UnitOwner}
use Rattle.machine_model.specs.declared.facts.FileShare.{FileShare}
use Rattle.machine_model.specs.declared.facts.Use.{Use}
use Rattle.machine_model.specs.declared.facts.WriteFacts.{WriteFacts}
use Rattle.machine_model.specs.declared.limits.Limits.{Limits}
use Rattle.machine_model.specs.Meaning.{MachineMeaning}
use Rattle.unit_sets.specs.Below.{count_below}
use Rattle.machine_model.specs.Uses.{units_of, share_unit, can_be_met}

-- how a read class is written that there is not
abbrev pub no_class : ℕ
no_class = NO_CLASS

-- the ranges of what the command line changes
pub record IsTuning (width in_flight load_entries store_entries : ℕ) : Type 0 where
  pub dispatch : width ≤ 64
  pub registers : in_flight ≤ 65536
  pub loads : load_entries ≤ 4096
  pub stores : store_entries ≤ 4096

pub record AreLimits (l : Limits) : Type 0 where
  pub width_low : 1 ≤ l.width
  pub width_high : l.width ≤ 64
  pub reorder_low : 1 ≤ l.reorder
  pub reorder_high : l.reorder ≤ 4096
  pub retire : l.retire ≤ 64
  pub loads : l.loads ≤ 4096
  pub stores : l.stores ≤ 4096
  pub registers : l.registers ≤ 65536

-- a resource has a unit, and all of its units are below the machine's count of them
pub record IsResource (m : MachineMeaning) (r : ℕ) : Type 0 where
  pub buffer_low : int_le (neg_ℤ (pos 1)) (m.buffer r) ≡ true
  pub buffer_high : int_le (m.buffer r) (pos 4096) ≡ true
  pub some_unit : 0 < units_of m r
  pub units_low : (u : ℕ) → m.units r u ≡ true → u < m.unit_count

abbrev pub no_use : Use
no_use = record { resource = 0; hold = 0 }

pub record IsUse (m : MachineMeaning) (w : Use) : Type 0 where
  pub resource : w.resource < m.resource_count
  pub hold : w.hold ≤ 1000000

-- a write's numbers are in range, and its uses can all be met when every unit is free
pub record IsWrite (m : MachineMeaning) (f : WriteFacts) : Type 0 where
  pub latency : f.latency ≤ 1000000
  pub uops_low : 1 ≤ f.uops
  pub uops_high : f.uops ≤ 4096
  pub use_count : f.use_count ≤ 8
  pub eight : length f.uses ≡ 8
  pub use_of : (i : ℕ) → i < f.use_count → IsUse m (slice_index_or f.uses i no_use)
  pub met : can_be_met (units_of m) (share_unit m) (take f.use_count f.uses) ≡ true

-- a register's file is one of the machine's, and has room for one write
pub record IsShare (m : MachineMeaning) (s : FileShare) : Type 0 where
  pub file : s.file < m.file_count
  pub cost_low : 1 ≤ s.cost
  pub cost_high : s.cost ≤ 8
  pub room : (m.file_size s.file ≡ 0 → ⊥) → s.cost ≤ m.file_size s.file

pub record IsBinding (m : MachineMeaning) (b : Binding) : Type 0 where
  pub write : b.write < m.write_count
  pub rs1 : (slice_index b.reads 0 ≡ no_class → ⊥) → slice_index b.reads 0 < m.read_count
  pub rs2 : (slice_index b.reads 1 ≡ no_class → ⊥) → slice_index b.reads 1 < m.read_count

-- a unit's owner has it, and its place counts the owner's units below it
pub record IsOwner (m : MachineMeaning) (u : ℕ) (o : UnitOwner) : Type 0 where
  pub resource : o.resource < m.resource_count
  pub has : m.units o.resource u ≡ true
  pub place : o.place ≡ count_below u (m.units o.resource)

-- a unit has an owner exactly where a resource that is no group has it
pub record HaveOwners (m : MachineMeaning) (is_group : ℕ → Bool) : Type 0 where
  pub some : (u : ℕ) (o : UnitOwner) → m.owner u ≡ Some o
      → (o.resource < m.resource_count) × (is_group o.resource ≡ false) × (m.units o.resource u ≡ true)
  pub none : (u r : ℕ) → m.owner u ≡ None → r < m.resource_count → is_group r ≡ false → m.units r u ≡ false

pub record IsValidMachine (numbers size : ℕ) (m : MachineMeaning) : Type 0 where
  pub limits : AreLimits m.limits
  pub units : m.unit_count ≡ numbers
  pub units_fit : m.unit_count ≤ size
  pub units_few : m.unit_count ≤ 256
  pub resources_few : m.resource_count ≤ 64
  pub resource : (r : ℕ) → r < m.resource_count → IsResource m r
  pub owner : (u : ℕ) (o : UnitOwner) → m.owner u ≡ Some o → IsOwner m u o
  pub files_few : m.file_count ≤ 8
  pub file : (f : ℕ) → f < m.file_count → m.file_size f ≤ 65536
  pub share : (r : ℕ) (s : FileShare) → m.file_of r ≡ Some s → IsShare m s
  pub writes_few : m.write_count ≤ 65535
  pub reads_few : m.read_count ≤ 65535
  pub binding : (o : Op) (b : Binding) → m.class_of o ≡ Class b → IsBinding m b
  pub write : (k : ℕ) → k < m.write_count → IsWrite m (m.class k)
  pub advance_low : (r w : ℕ) → int_le (neg_ℤ (pos 1000)) (m.advance r w) ≡ true
  pub advance_high : (r w : ℕ) → int_le (m.advance r w) (pos 1000) ≡ true
  pub no_advance : (w : ℕ) → m.advance no_class w ≡ pos 0
