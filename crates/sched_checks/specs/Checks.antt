-- The checks of a record, each as a test of what the record says, of those before it, and of the resources.
pub use Rattle.rv_isa.specs.Opcodes.{same_op}
pub use Rattle.sched_resolve.specs.EntryTests.{is_model, is_resource, is_file, is_retirement, is_load_queue, is_store_queue, class_has}
use Rattle.std.specs.Prelude.{ℕ, ◌+◌, ℤ, pos, neg_ℤ, int_le, List, length, sum_by, count_by, slice_get, is_some, nat_eq, nat_lt, nat_le, Bool, false, not, ◌&&◌, ◌||◌, Some, None}
use Rattle.std.specs.Ordering.{int_eq}
use Rattle.std.specs.List.{list_any, range_with_len}
use Rattle.std.specs.declared.option.Option.{Option}
use Rattle.rv_isa.specs.declared.op.Op.{Op}
use Rattle.machine_model.specs.Uses.{can_be_met}
use Rattle.sched_resolve.specs.declared.entry.Entry.{Entry}
use Rattle.sched_resolve.specs.declared.entry.Entry.TheVariants as entry
use Rattle.sched_resolve.specs.declared.entry.Makeup.{Makeup}
use Rattle.sched_resolve.specs.declared.entry.Makeup.TheVariants as makeup
use Rattle.sched_resolve.specs.declared.entry.Registers.TheVariants as registers
use Rattle.sched_resolve.specs.declared.entry.Resource.{Resource}
use Rattle.sched_resolve.specs.declared.entry.File.{File}
use Rattle.sched_checks.specs.Resources.{own_units, group_at, total, share, uses_by}

-- a number is outside of a range
abbrev pub is_outside : ℤ → ℤ → ℤ → Bool
is_outside low high n = not (int_le low n && int_le n high)

abbrev pub is_unknown : Option ℕ → Bool
is_unknown u = not (is_some u)

abbrev pub two_models : List Entry → Entry → Bool
two_models earlier e = is_model e && list_any is_model earlier

-- a name stands for nothing of the kind that is wanted there

abbrev pub unknown_member : Makeup → Bool
unknown_member (makeup.Units n) = false
unknown_member (makeup.Group members) = list_any is_unknown members

abbrev pub unknown_name : Entry → Bool
unknown_name (entry.Model m) = false
unknown_name (entry.Resource r) = not r.in_model || unknown_member r.makeup
unknown_name (entry.Write w) = not w.in_model || list_any is_unknown w.uses
unknown_name (entry.Advance a) = not a.in_model
unknown_name (entry.File f) = not f.in_model
unknown_name (entry.Retirement r) = not r.in_model
unknown_name (entry.LoadQueue q) = not q.in_model || is_unknown q.resource
unknown_name (entry.StoreQueue q) = not q.in_model || is_unknown q.resource
unknown_name (entry.Rewrite r) = not r.in_model || (nat_lt 0 r.names && is_unknown r.write)
unknown_name entry.Nothing = false

-- a ProcResource of 0 units, or an empty group

abbrev pub is_empty_makeup : Makeup → Bool
is_empty_makeup (makeup.Units n) = int_eq n (pos 0)
is_empty_makeup (makeup.Group members) = nat_eq (length members) 0

abbrev pub no_units : Entry → Bool
no_units (entry.Resource r) = is_empty_makeup r.makeup
no_units _ = false

-- a member of a group is a group

abbrev pub is_group_member : List Resource → Option ℕ → Bool
is_group_member rs None = false
is_group_member rs (Some p) = group_at (slice_get rs p)

abbrev pub has_group : List Resource → Makeup → Bool
has_group rs (makeup.Units n) = false
has_group rs (makeup.Group members) = list_any (is_group_member rs) members

abbrev pub group_of_group : List Resource → Entry → Bool
group_of_group rs (entry.Resource r) = has_group rs r.makeup
group_of_group rs _ = false

-- a list is there, and not as long as the one that it goes with
abbrev pub lengths_differ : ℕ → ℕ → Bool
lengths_differ length other = not (nat_eq length 0) && not (nat_eq length other)

abbrev pub list_lengths : Entry → Bool
list_lengths (entry.Write w) = lengths_differ (length w.cycles) (length w.uses)
list_lengths (entry.File f) = lengths_differ (length f.costs) (length f.classes)
list_lengths (entry.Rewrite r) = nat_eq r.names 0 || nat_lt 3 r.names
list_lengths _ = false

abbrev pub zero_micro_ops : Entry → Bool
zero_micro_ops (entry.Write w) = int_eq w.micro_ops (pos 0)
zero_micro_ops _ = false

-- a number is outside its range, or there is one thing more than there may be

abbrev pub entry_units : Entry → ℕ
entry_units (entry.Resource r) = own_units r.makeup
entry_units _ = 0

abbrev pub bad_units : Makeup → Bool
bad_units (makeup.Units n) = not (int_le (pos 0) n)
bad_units (makeup.Group members) = false

abbrev pub out_of_range : List Entry → Entry → Bool
out_of_range earlier (entry.Model m) = is_outside (pos 1) (pos 64) m.width || is_outside (pos 0) (pos 4096) m.buffer
out_of_range earlier (entry.Resource r) = is_outside (neg_ℤ (pos 1)) (pos 4096) r.buffer || bad_units r.makeup
    || nat_le 64 (count_by is_resource earlier) || nat_lt 256 (sum_by entry_units earlier + own_units r.makeup)
out_of_range earlier (entry.Write w) = is_outside (pos 0) (pos 1000000) w.latency || is_outside (pos 1) (pos 4096) w.micro_ops
    || list_any (is_outside (pos 0) (pos 1000000)) w.cycles || nat_lt 8 (length w.uses)
out_of_range earlier (entry.Advance a) = is_outside (neg_ℤ (pos 1000)) (pos 1000) a.cycles
out_of_range earlier (entry.File f) = is_outside (pos 0) (pos 65536) f.size || list_any (is_outside (pos 1) (pos 8)) f.costs
    || nat_le 8 (count_by is_file earlier)
out_of_range earlier (entry.Retirement r) = is_outside (neg_ℤ (pos 1)) (pos 4096) r.entries || is_outside (neg_ℤ (pos 1)) (pos 64) r.width
out_of_range earlier _ = false

abbrev pub in_order_model : Entry → Bool
in_order_model (entry.Model m) = int_eq m.buffer (pos 0)
in_order_model _ = false

abbrev pub move_elimination : Entry → Bool
move_elimination (entry.File f) = f.eliminates
move_elimination _ = false

-- a register stands in an earlier file too, or in two classes of this one

abbrev pub file_has : ℕ → File → Bool
file_has r f = (nat_eq (length f.classes) 0 && class_has r registers.General) || list_any (class_has r) f.classes

abbrev pub held_by : ℕ → Entry → Bool
held_by r (entry.File f) = file_has r f
held_by r _ = false

abbrev pub held_twice : List Entry → File → ℕ → Bool
held_twice earlier f r = (file_has r f && list_any (held_by r) earlier) || nat_lt 1 (count_by (class_has r) f.classes)

abbrev pub two_files : List Entry → Entry → Bool
two_files earlier (entry.File f) = list_any (held_twice earlier f) (range_with_len 0 32)
two_files earlier _ = false

abbrev pub file_too_small : Entry → Bool
file_too_small (entry.File f) = int_le (pos 1) f.size && list_any (λ c. not (int_le c f.size)) f.costs
file_too_small _ = false

-- a second write for a class or an opcode, or a later name of an InstRW that is a write

abbrev pub rewrites : Op → Entry → Bool
rewrites o (entry.Rewrite r) = list_any (same_op o) r.ops
rewrites o _ = false

abbrev pub two_writes : List Entry → Entry → Bool
two_writes earlier (entry.Write w) = w.again
two_writes earlier (entry.Rewrite r) = r.other_write || list_any (λ o. list_any (rewrites o) earlier) r.ops
two_writes earlier _ = false

abbrev pub two_advances : Entry → Bool
two_advances (entry.Advance a) = a.again
two_advances _ = false

abbrev pub two_queues : List Entry → Entry → Bool
two_queues earlier e = (is_retirement e && list_any is_retirement earlier)
    || (is_load_queue e && list_any is_load_queue earlier) || (is_store_queue e && list_any is_store_queue earlier)

-- a use of a hold above 0 shares a unit with as many uses before it, in use order, as its resource has units
abbrev pub use_cannot_be_met : List Resource → Entry → Bool
use_cannot_be_met rs (entry.Write w) = not (can_be_met (total rs) (share rs) (uses_by w.uses w.cycles))
use_cannot_be_met rs _ = false
