-- What each record says.
use Rattle.std.specs.Prelude.{ℕ, pos, neg_ℤ, List, [], ◌∷◌, ◌++◌, length, drop, map, filter, codes, is_some, nat_eq, Bool, true, false, ◌||◌, ◌&&◌, Some, None, if◌then◌else◌}
use Rattle.std.specs.Cmp.Lexicographic.{pointwise}
use Rattle.std.specs.List.{list_any, filter_map}
use Rattle.std.specs.Option.{option_to_list}
use Rattle.std.specs.Str.Lossy.{utf8_lossy}
use Rattle.std.specs.declared.option.Option.{Option}
use Rattle.rv_isa.specs.declared.op.Op.{Op}
use Rattle.rv_isa.specs.Opcodes.{facts_of, opcodes}
use Rattle.sched_records.specs.Classes.{class_of}
use Rattle.sched_records.specs.declared.class.Class.{Class}
use Rattle.sched_records.specs.declared.class.Class.TheVariants as class
use Rattle.sched_records.specs.declared.field.Field.{Field}
use Rattle.sched_records.specs.declared.field.Field.TheVariants as fields
use Rattle.sched_records.specs.declared.records.Record.{Record}
use Rattle.sched_records.specs.declared.records.Value.{Value}
use Rattle.sched_resolve.specs.Reading.{argument, field, number_or, word_in, is_true, truth_of, atoms_in, instrs_in, words_in, numbers_in}
use Rattle.sched_resolve.specs.Names.{place_of, write_named}
use Rattle.sched_resolve.specs.Noted.{advance_class, writes_class}
use Rattle.sched_resolve.specs.Opcodes.{op_in_table}
use Rattle.sched_resolve.specs.declared.entry.Entry.{Entry}
use Rattle.sched_resolve.specs.declared.entry.Entry.TheVariants as entry
use Rattle.sched_resolve.specs.declared.entry.Makeup.{Makeup}
use Rattle.sched_resolve.specs.declared.entry.Makeup.TheVariants as makeup
use Rattle.sched_resolve.specs.declared.entry.Registers.{Registers}
use Rattle.sched_resolve.specs.declared.entry.Registers.TheVariants as registers
use Rattle.sched_resolve.specs.declared.entry.Model.{Model}
use Rattle.sched_resolve.specs.declared.entry.Resource.{Resource}
use Rattle.sched_resolve.specs.declared.entry.Write.{Write}
use Rattle.sched_resolve.specs.declared.entry.Advance.{Advance}
use Rattle.sched_resolve.specs.declared.entry.File.{File}
use Rattle.sched_resolve.specs.declared.entry.Retirement.{Retirement}
use Rattle.sched_resolve.specs.declared.entry.Queue.{Queue}
use Rattle.sched_resolve.specs.declared.entry.Rewrite.{Rewrite}
use Rattle.sched_resolve.specs.declared.entry.Defaults.{Defaults}
use Rattle.sched_resolve.specs.declared.name_space.NameSpace.TheVariants as space

-- SchedModel is not given, or names a SchedMachineModel
abbrev pub names_model : List Record → Option Value → Bool
names_model rs None = true
names_model rs v = is_some (place_of space.Model rs (word_in v))

unfoldable pub in_model : List Record → Record → Bool
in_model rs r = names_model rs (field r fields.SchedModel)

unfoldable pub model_of : Record → Model
model_of r = record { width = number_or (pos 1) (field r fields.IssueWidth); buffer = number_or (pos 0) (field r fields.MicroOpBufferSize) }

-- the resources that the names of a list stand for
abbrev pub resources_named : List Record → Option Value → List (Option ℕ)
resources_named rs v = map (place_of space.Resource rs) (words_in v)

unfoldable pub resource_entry : List Record → Makeup → Record → Resource
resource_entry rs makeup r = record {
  in_model = in_model rs r;
  name = utf8_lossy r.name;
  makeup = makeup;
  buffer = number_or (neg_ℤ (pos 1)) (field r fields.BufferSize);
}

-- either field says true
abbrev pub either : Record → Field → Field → Bool
either r f g = is_true (field r f) || is_true (field r g)

-- an earlier WriteRes is of the same class
abbrev pub is_second_write : List Record → Record → Bool
is_second_write earlier r = list_any (writes_class (word_in (argument r 0))) earlier

-- a write that lists these resources
unfoldable pub write_entry : List Record → Bool → Option Value → Record → Write
write_entry rs again uses r = record {
  in_model = in_model rs r;
  again = again;
  uses = resources_named rs uses;
  cycles = numbers_in (field r fields.ReleaseAtCycles);
  latency = number_or (pos 1) (field r fields.Latency);
  micro_ops = number_or (pos 1) (field r fields.NumMicroOps);
  begins_group = either r fields.BeginGroup fields.SingleIssue;
  ends_group = either r fields.EndGroup fields.SingleIssue;
  unsupported = is_true (field r fields.Unsupported);
}

-- the writes that a name stands for: the SchedWriteRes of that name, and the WriteRes of that class
abbrev pub writes_of : List Record → List ℕ → List ℕ
writes_of rs name = option_to_list (place_of space.OwnWrite rs name) ++ option_to_list (place_of space.WrittenClass rs name)

abbrev pub all_writes_of : List Record → List (List ℕ) → List ℕ
all_writes_of rs [] = []
all_writes_of rs (name ∷ names) = writes_of rs name ++ all_writes_of rs names

-- two ReadAdvance records are of one read, and list one name both, or both none
abbrev pub list_one : List (List ℕ) → List (List ℕ) → Bool
list_one a b = (nat_eq (length a) 0 && nat_eq (length b) 0) || list_any (λ n. list_any (pointwise nat_eq n) a) b

abbrev pub is_second_advance : List Record → Record → Bool
is_second_advance earlier r = list_any (λ e. advance_class e && pointwise nat_eq (word_in (argument r 0)) (word_in (argument e 0))
    && list_one (words_in (argument e 2)) (words_in (argument r 2))) earlier

-- the number of a ReadAdvance's own read; so many stand before it
abbrev pub number_or_own : ℕ → Option ℕ → ℕ
number_or_own own None = own
number_or_own own (Some n) = n

unfoldable pub advance_entry : List Record → List Record → Record → Advance
advance_entry rs earlier r = record {
  in_model = in_model rs r;
  again = is_second_advance earlier r;
  read = number_or_own (length (filter advance_class earlier)) (place_of space.Read rs (word_in (argument r 0)));
  cycles = number_or (pos 0) (argument r 1);
  general = nat_eq (length (words_in (argument r 2))) 0;
  writes = all_writes_of rs (words_in (argument r 2));
  unsupported = is_true (field r fields.Unsupported);
}

unfoldable pub registers_of : List ℕ → Registers
registers_of name =
    if pointwise nat_eq name (codes "GPR") || pointwise nat_eq name (codes "GPRNoX0") then registers.General else
    if pointwise nat_eq name (codes "GPRC") then registers.Compressed else registers.Other

unfoldable pub file_entry : List Record → Record → File
file_entry rs r = record {
  in_model = in_model rs r;
  size = number_or (pos 0) (argument r 0);
  classes = map registers_of (words_in (argument r 1));
  costs = numbers_in (argument r 2);
  eliminates = list_any truth_of (atoms_in (argument r 3));
}

unfoldable pub retirement_entry : List Record → Record → Retirement
retirement_entry rs r = record { in_model = in_model rs r; entries = number_or (pos 0) (argument r 0); width = number_or (pos 0) (argument r 1) }

unfoldable pub queue_entry : List Record → Record → Queue
queue_entry rs r = record { in_model = in_model rs r; resource = place_of space.Resource rs (word_in (argument r 0)) }

-- the first name of a list
abbrev pub first_name : List (List ℕ) → List ℕ
first_name [] = []
first_name (n ∷ ns) = n

unfoldable pub rewrite_entry : List Record → Record → Rewrite
rewrite_entry rs r = record {
  in_model = in_model rs r;
  names = length (words_in (argument r 0));
  write = write_named rs (first_name (words_in (argument r 0)));
  other_write = list_any (λ n. is_some (write_named rs n)) (drop 1 (words_in (argument r 0)));
  rs1 = place_of space.Read rs (first_name (drop 1 (words_in (argument r 0))));
  rs2 = place_of space.Read rs (first_name (drop 2 (words_in (argument r 0))));
  ops = filter_map op_in_table (instrs_in (argument r 1));
}

-- what a record of a class says that stands behind these, in a table of these records
abbrev pub entry_by : List Record → List Record → Record → Option Class → Entry
entry_by rs earlier r (Some class.SchedMachineModel) = entry.Model (model_of r)
entry_by rs earlier r (Some class.ProcResource) = entry.Resource (resource_entry rs (makeup.Units (number_or (pos 0) (argument r 0))) r)
entry_by rs earlier r (Some class.ProcResGroup) = entry.Resource (resource_entry rs (makeup.Group (resources_named rs (argument r 0))) r)
entry_by rs earlier r (Some class.WriteRes) = entry.Write (write_entry rs (is_second_write earlier r) (argument r 1) r)
entry_by rs earlier r (Some class.SchedWriteRes) = entry.Write (write_entry rs false (argument r 0) r)
entry_by rs earlier r (Some class.ReadAdvance) = entry.Advance (advance_entry rs earlier r)
entry_by rs earlier r (Some class.RegisterFile) = entry.File (file_entry rs r)
entry_by rs earlier r (Some class.RetireControlUnit) = entry.Retirement (retirement_entry rs r)
entry_by rs earlier r (Some class.LoadQueue) = entry.LoadQueue (queue_entry rs r)
entry_by rs earlier r (Some class.StoreQueue) = entry.StoreQueue (queue_entry rs r)
entry_by rs earlier r (Some class.InstRW) = entry.Rewrite (rewrite_entry rs r)
entry_by rs earlier r (Some class.SchedWrite) = entry.Nothing
entry_by rs earlier r (Some class.SchedRead) = entry.Nothing
entry_by rs earlier r None = entry.Nothing

abbrev pub entry_of : List Record → List Record → Record → Entry
entry_of rs earlier r = entry_by rs earlier r (class_of r.class)

abbrev pub entries_from : List Record → List Record → List Record → List Entry
entries_from rs earlier [] = []
entries_from rs earlier (r ∷ rest) = entry_of rs earlier r ∷ entries_from rs (earlier ++ r ∷ []) rest

abbrev pub entries_of : List Record → List Entry
entries_of rs = entries_from rs [] rs

-- what the default classes of an opcode stand for: the WriteRes of its write class, and its reads
unfoldable pub defaults_of : List Record → Op → Defaults
defaults_of rs o = record {
  write = place_of space.WrittenClass rs (facts_of o).write;
  rs1 = place_of space.Read rs (facts_of o).read1;
  rs2 = place_of space.Read rs (facts_of o).read2;
}

unfoldable pub all_defaults : List Record → List Defaults
all_defaults rs = map (defaults_of rs) opcodes
