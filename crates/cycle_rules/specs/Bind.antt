-- An instruction with the numbers of its scheduling classes, the row that it is, and what a machine's bodies are.
use Rattle.std.specs.Prelude.{◌≡◌, ℕ, ◌-◌, ◌<◌, ◌≤◌, pos, List, [], ◌∷◌, ◌++◌, length, take, replicate, slice_index, Bool, true, ◌||◌, nat_lt, nat_le, nat_eq, if◌then◌else◌}
use Rattle.std.specs.Ordering.{int_eq}
use Rattle.std.specs.List.{All, list_all, list_any}
use Rattle.rv_isa.specs.declared.facts.Form.{Form}
use Rattle.rv_isa.specs.declared.instr.Instr.{Instr}
use Rattle.rv_isa.specs.Instruction.{has_rs1, has_rs2, writes_of, is_lawful}
use Rattle.rv_isa.specs.Opcodes.{facts_of}
use Rattle.machine_model.specs.Meaning.{MachineMeaning}
use Rattle.machine_model.specs.Uses.{units_of, share_unit, can_meet, in_use_order}
use Rattle.machine_model.specs.Valid.{no_class, no_use}
use Rattle.machine_model.specs.declared.answers.Binding.{Binding}
use Rattle.machine_model.specs.declared.answers.ClassAnswer.TheVariants.{Class}
use Rattle.machine_model.specs.declared.facts.Use.{Use}
use Rattle.machine_model.specs.declared.facts.WriteFacts.{WriteFacts}
use Rattle.cycle_rules.specs.Row.{Row, Input}
use Rattle.cycle_rules.specs.declared.bound.Bound.{Bound}
use Rattle.cycle_rules.specs.declared.bound.Source.{Source}

-- the uses of a write that count, as they are written
abbrev pub uses_of : WriteFacts → List Use
uses_of f = take f.use_count f.uses

-- one of them names a resource with a buffer of 0
abbrev pub is_reserved : MachineMeaning → WriteFacts → Bool
is_reserved m f = list_any (λ w. int_eq (m.buffer w.resource) (pos 0)) (uses_of f)

-- the eight places for uses
abbrev pub eight : List Use → List Use
eight us = us ++ replicate (8 - length us) no_use

-- the registers that an instruction reads, with the classes of the reads
abbrev pub source : ℕ → ℕ → Source
source r class = record { reg = r; read = class }

abbrev pub sources_in : Form → Instr → Binding → List Source
sources_in f i b = (if has_rs1 f then source i.rs1 (slice_index b.reads 0) ∷ [] else [])
    ++ (if has_rs2 f then source i.rs2 (slice_index b.reads 1) ∷ [] else [])

abbrev pub sources_of : Instr → Binding → List Source
sources_of i b = sources_in (facts_of i.op).form i b

-- the two places for them
abbrev pub two : List Source → List Source
two ss = ss ++ replicate (2 - length ss) (source 0 no_class)

abbrev pub bound_by : MachineMeaning → Instr → Binding → WriteFacts → Bound
bound_by m i b f = record {
  op = i.op;
  uops = f.uops;
  latency = f.latency;
  use_count = f.use_count;
  uses = eight (in_use_order (units_of m) (uses_of f));
  reserved = is_reserved m f;
  read_count = length (sources_of i b);
  reads = two (sources_of i b);
  rd = writes_of i;
  write = b.write;
  kind = (facts_of i.op).kind;
  begins_group = f.begins_group;
  ends_group = f.ends_group;
}

-- an instruction, bound by its classes
abbrev pub bound_of : MachineMeaning → Instr → Binding → Bound
bound_of m i b = bound_by m i b (m.class b.write)

-- the row that a bound instruction is
abbrev pub row_of : Bound → Row
row_of b = record {
  uops = b.uops;
  latency = b.latency;
  uses = take b.use_count b.uses;
  reserved = b.reserved;
  reads = take b.read_count b.reads;
  rd = b.rd;
  write = b.write;
  kind = b.kind;
  begins_group = b.begins_group;
  ends_group = b.ends_group;
}

-- Bodies that are bound by a machine

-- what binding some instruction gives
pub record IsBoundBy (m : MachineMeaning) (b : Bound) : Type 0 where
  pub instr : Instr
  pub classes : Binding
  pub lawful : is_lawful instr ≡ true
  pub runs : m.class_of instr.op ≡ Class classes
  pub bound : b ≡ bound_of m instr classes

abbrev pub IsBoundBody : MachineMeaning → List Bound → Type 0
IsBoundBody m body = All (IsBoundBy m) body

-- What is told of such a body without its instructions

-- uses in use order: few, of resources of the machine, not long, and all of them find units where every unit is free
pub record AreUses (m : MachineMeaning) (uses : List Use) : Type 0 where
  pub few : length uses ≤ 8
  pub known : list_all (λ w. nat_lt w.resource m.resource_count) uses ≡ true
  pub short : list_all (λ w. nat_le w.hold 1000000) uses ≡ true
  pub met : can_meet (units_of m) (share_unit m) [] uses ≡ true

-- the numbers of a row are those of a write class
pub record HasNumbers (m : MachineMeaning) (f : WriteFacts) (row : Row) : Type 0 where
  pub uops : row.uops ≡ f.uops
  pub latency : row.latency ≡ f.latency
  pub uses : row.uses ≡ in_use_order (units_of m) (uses_of f)
  pub reserved : row.reserved ≡ is_reserved m f
  pub begins_group : row.begins_group ≡ f.begins_group
  pub ends_group : row.ends_group ≡ f.ends_group

-- the class of a read is one of the machine's, or there is none
abbrev pub has_class : MachineMeaning → Source → Bool
has_class m s = nat_eq s.read no_class || nat_lt s.read m.read_count

-- a row has the numbers of its class, in their ranges, and its classes are the machine's
pub record IsBoundRow (m : MachineMeaning) (row : Row) : Type 0 where
  pub write : row.write < m.write_count
  pub numbers : HasNumbers m (m.class row.write) row
  pub uops_low : 1 ≤ row.uops
  pub uops_high : row.uops ≤ 4096
  pub latency : row.latency ≤ 1000000
  pub uses : AreUses m row.uses
  pub reads_few : length row.reads ≤ 2
  pub reads : list_all (has_class m) row.reads ≡ true

-- an instruction's counts are within its places, and it is such a row
pub record IsBound (m : MachineMeaning) (b : Bound) : Type 0 where
  pub use_count : b.use_count ≤ 8
  pub read_count : b.read_count ≤ 2
  pub row : IsBoundRow m (row_of b)

abbrev pub AreBound : MachineMeaning → List Bound → Type 0
AreBound m body = All (IsBound m) body

-- so is each row of what is run
abbrev pub AreBoundRows : Input → Type 0
AreBoundRows g = (j : ℕ) → j < g.rows → IsBoundRow g.machine (g.row j)
