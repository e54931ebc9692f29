-- The scheduling classes of opcodes, and the advances of reads after writes.
pub use Rattle.rv_isa.specs.Opcodes.{op_number, same_op}
pub use Rattle.cycle_rules.specs.Bind.{eight}
pub use Rattle.sched_resolve.specs.InRange.{write_in, advance_in, writes_of, advances_of}
use Rattle.std.specs.Prelude.{◌≡◌, ℕ, ◌<◌, ◌≤◌, ◌^◌, ℤ, pos, List, [], ◌∷◌, length, slice_get, slice_index_or, find, nat_eq, Bool, false, not, ◌&&◌, Some, None, if◌then◌else◌}
use Rattle.std.specs.List.{list_any}
use Rattle.std.specs.declared.option.Option.{Option}
use Rattle.rv_isa.specs.declared.op.Op.{Op}
use Rattle.machine_model.specs.Valid.{no_class}
use Rattle.machine_model.specs.declared.answers.ClassAnswer.{ClassAnswer}
use Rattle.machine_model.specs.declared.answers.ClassAnswer.TheVariants.{Missing, Unsupported, Class}
use Rattle.machine_model.specs.declared.facts.WriteFacts.{WriteFacts}
use Rattle.sched_checks.specs.Resources.{count_of, place_or_first, uses_by}
use Rattle.sched_resolve.specs.declared.entry.Advance.{Advance}
use Rattle.sched_resolve.specs.declared.entry.Defaults.{Defaults}
use Rattle.sched_resolve.specs.declared.entry.Rewrite.{Rewrite}
use Rattle.sched_resolve.specs.declared.entry.Write.{Write}

-- the numbers of a write
abbrev pub facts_of : Write → WriteFacts
facts_of w = record {
  latency = count_of w.latency;
  uops = count_of w.micro_ops;
  use_count = length w.uses;
  uses = eight (uses_by w.uses w.cycles);
  begins_group = w.begins_group;
  ends_group = w.ends_group;
}

-- the cycles that are given for a use; 1 where there are none
abbrev pub hold_or_one : Option ℤ → ℕ
hold_or_one None = 1
hold_or_one (Some n) = count_of n

-- a write's numbers are those of a machine
pub record IsSmallWrite (w : Write) : Type 0 where
  pub latency : count_of w.latency < 2 ^ 32
  pub micro_ops : count_of w.micro_ops < 2 ^ 16
  pub few : length w.uses ≤ 8
  pub resources : (k : ℕ) → k < length w.uses → place_or_first (slice_index_or w.uses k None) < 2 ^ 8
  pub holds : (k : ℕ) → hold_or_one (slice_get w.cycles k) < 2 ^ 32

abbrev pub no_facts : WriteFacts
no_facts = record { latency = 0; uops = 1; use_count = 0; uses = eight []; begins_group = false; ends_group = false }

-- the advance of a read after a write: that of the supported ReadAdvance of the read that lists the write, else of the one that lists none, else 0
abbrev pub lists : ℕ → ℕ → Advance → Bool
lists read write a = not a.unsupported && nat_eq a.read read && list_any (λ w. nat_eq w write) a.writes

abbrev pub is_general : ℕ → Advance → Bool
is_general read a = not a.unsupported && nat_eq a.read read && a.general

abbrev pub cycles_or : ℤ → Option Advance → ℤ
cycles_or other None = other
cycles_or other (Some a) = a.cycles

abbrev pub advance_after : List Advance → ℕ → ℕ → ℤ
advance_after all read write = cycles_or (cycles_or (pos 0) (find (is_general read) all)) (find (lists read write) all)

abbrev pub no_defaults : Defaults
no_defaults = record { write = None; rs1 = None; rs2 = None }

abbrev pub read_class : Option ℕ → ℕ
read_class None = no_class
read_class (Some n) = n

abbrev pub is_unsupported : Option Write → Bool
is_unsupported None = false
is_unsupported (Some w) = w.unsupported

-- the answer for an opcode by the write and the reads that it has
abbrev pub answer_by : List Write → Option ℕ → Option ℕ → Option ℕ → ClassAnswer
answer_by ws None rs1 rs2 = Missing
answer_by ws (Some k) rs1 rs2 = if is_unsupported (slice_get ws k) then Unsupported
    else Class (record { write = k; reads = read_class rs1 ∷ read_class rs2 ∷ [] })

-- those of the InstRW that names it, else those of its default classes
abbrev pub answer_of : List Write → Defaults → Option Rewrite → ClassAnswer
answer_of ws d None = answer_by ws d.write d.rs1 d.rs2
answer_of ws d (Some r) = answer_by ws r.write r.rs1 r.rs2

abbrev pub rewrite_for : List Rewrite → Op → Option Rewrite
rewrite_for rws o = find (λ r. list_any (same_op o) r.ops) rws

abbrev pub class_for : List Write → List Rewrite → List Defaults → Op → ClassAnswer
class_for ws rws ds o = answer_of ws (slice_index_or ds (op_number o) no_defaults) (rewrite_for rws o)

-- the places that an InstRW and default classes tell are those of a machine
pub record IsSmallRewrite (r : Rewrite) : Type 0 where
  pub write : (p : ℕ) → r.write ≡ Some p → p < 2 ^ 16
  pub rs1 : read_class r.rs1 < 2 ^ 16
  pub rs2 : read_class r.rs2 < 2 ^ 16

pub record IsSmallDefaults (d : Defaults) : Type 0 where
  pub write : (p : ℕ) → d.write ≡ Some p → p < 2 ^ 16
  pub rs1 : read_class d.rs1 < 2 ^ 16
  pub rs2 : read_class d.rs2 < 2 ^ 16
