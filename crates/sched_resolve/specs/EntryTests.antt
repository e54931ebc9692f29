-- What an entry is, the units that a ProcResource has of its own, and the registers of a register class.
-- A number that is out of range has no more sense than this: below 0 it counts as 0.
use Rattle.std.specs.Prelude.{ℕ, ℤ, pos, negsuc, nat_le, Bool, true, false, ◌&&◌}
use Rattle.sched_resolve.specs.declared.entry.Entry.{Entry}
use Rattle.sched_resolve.specs.declared.entry.Entry.TheVariants as entry
use Rattle.sched_resolve.specs.declared.entry.Makeup.{Makeup}
use Rattle.sched_resolve.specs.declared.entry.Makeup.TheVariants as makeup
use Rattle.sched_resolve.specs.declared.entry.Registers.{Registers}
use Rattle.sched_resolve.specs.declared.entry.Registers.TheVariants as registers

abbrev pub is_model : Entry → Bool
is_model (entry.Model m) = true
is_model _ = false

abbrev pub is_resource : Entry → Bool
is_resource (entry.Resource r) = true
is_resource _ = false

abbrev pub is_file : Entry → Bool
is_file (entry.File f) = true
is_file _ = false

abbrev pub is_retirement : Entry → Bool
is_retirement (entry.Retirement r) = true
is_retirement _ = false

abbrev pub is_load_queue : Entry → Bool
is_load_queue (entry.LoadQueue q) = true
is_load_queue _ = false

abbrev pub is_store_queue : Entry → Bool
is_store_queue (entry.StoreQueue q) = true
is_store_queue _ = false

abbrev pub count_of : ℤ → ℕ
count_of (pos n) = n
count_of (negsuc n) = 0

abbrev pub own_units : Makeup → ℕ
own_units (makeup.Units n) = count_of n
own_units (makeup.Group members) = 0

abbrev pub is_group : Makeup → Bool
is_group (makeup.Units n) = false
is_group (makeup.Group members) = true

-- x1 to x31, x8 to x15, or none
abbrev pub class_has : ℕ → Registers → Bool
class_has r registers.General = nat_le 1 r && nat_le r 31
class_has r registers.Compressed = nat_le 8 r && nat_le r 15
class_has r registers.Other = false
