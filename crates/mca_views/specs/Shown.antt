-- What the views show: a region, bound to a machine, with the times of its rows; and what they ask of it.
use Rattle.std.specs.Prelude.{◌≡◌, ◌≢◌, ◌<◌, ◌≤◌, ◌+◌, ◌*◌, ◌^◌, ℕ, List, [], ◌∷◌, map, length, take, slice_index_or, is_some, Bool, true, false, ◌&&◌, ◌||◌, nat_eq}
use Rattle.std.specs.List.{All, list_all}
use Rattle.rv_isa.specs.declared.facts.Kind.TheVariants.{Plain}
use Rattle.rv_isa.specs.declared.instr.Imm.TheVariants as imm
use Rattle.rv_isa.specs.declared.instr.Instr.{Instr}
use Rattle.rv_isa.specs.declared.op.Op.TheVariants as op
use Rattle.rv_isa.specs.Instruction.{is_lawful}
use Rattle.rv_isa.specs.Opcodes.{facts_of}
use Rattle.rv_isa.specs.Spelling.{spelling, IsNamed, IsSets}
use Rattle.machine_model.specs.Meaning.{MachineMeaning}
use Rattle.machine_model.specs.Uses.{units_of, in_use_order}
use Rattle.machine_model.specs.Valid.{IsValidMachine}
use Rattle.machine_model.specs.declared.answers.Binding.{Binding}
use Rattle.machine_model.specs.declared.answers.ClassAnswer.TheVariants.{Class}
use Rattle.machine_model.specs.declared.facts.Use.{Use}
use Rattle.cycle_rules.specs.Bind.{row_of, uses_of, has_class, IsBoundBody}
use Rattle.cycle_rules.specs.Row.{Input, Table, input, times}
use Rattle.cycle_rules.specs.Run.{IsRun}
use Rattle.cycle_rules.specs.Waits.{memory_at}
use Rattle.cycle_rules.specs.declared.bound.Bound.{Bound}
use Rattle.cycle_rules.specs.declared.times.Times.{Times}
use Rattle.mca_views.specs.declared.view.View.{View}

-- a region: its machine, its instructions, the same with the numbers of their classes, how often they are repeated, and the times of the rows
pub record Shown : Type 0 where
  pub machine : MachineMeaning
  pub code : List Instr
  -- the texts of their symbols
  pub names : List (List ℕ)
  pub body : List Bound
  pub iterations : ℕ
  pub table : List Times

abbrev pub shown : {M Mask : Type 0} → (M → MachineMeaning) → View M Mask → Shown
shown meaning v = record {
  machine = meaning v.machine.now;
  code = v.code.now;
  names = v.names.now;
  body = v.body.now;
  iterations = v.iterations;
  table = v.run.now.rows;
}

-- what was run
abbrev pub run_of : Shown → Input
run_of s = input s.machine (map row_of s.body) s.iterations

-- an instruction of the region, by its place
abbrev pub no_instr : Instr
no_instr = record { op = op.Lui; rd = 0; rs1 = 0; rs2 = 0; imm = imm.None }

abbrev pub instr_at : Shown → ℕ → Instr
instr_at s k = slice_index_or s.code k no_instr

-- with the numbers of its class
abbrev pub no_bound : Bound
no_bound = record { op = op.Lui; uops = 0; latency = 0; use_count = 0; uses = []; reserved = false; read_count = 0; reads = []; rd = 0; write = 0; kind = Plain; begins_group = false; ends_group = false }

abbrev pub bound_at : Shown → ℕ → Bound
bound_at s k = slice_index_or s.body k no_bound

-- and as it is spelled
abbrev pub spelled : Shown → ℕ → List ℕ
spelled s k = spelling (instr_at s k) s.names

-- What the views ask

-- an instruction can be spelled: a symbol is among the names, an immediate is there, and a fence has its sets
pub record CanSpell (names : List (List ℕ)) (i : Instr) : Type 0 where
  pub named : IsNamed (length names) i.imm
  pub given : is_some (facts_of i.op).range ≡ true → i.imm ≢ imm.None
  pub sets : IsSets (facts_of i.op).form i.imm

-- an entry of the body has the numbers that the machine's class gives its opcode, and few reads, of classes of the machine.
-- What else a bound instruction tells, as whether it is reserved, may be anything
pub record IsEntry (m : MachineMeaning) (b : Bound) : Type 0 where
  pub classes : Binding
  pub runs : m.class_of b.op ≡ Class classes
  pub write : b.write ≡ classes.write
  pub uops : b.uops ≡ (m.class b.write).uops
  pub latency : b.latency ≡ (m.class b.write).latency
  pub use_count : b.use_count ≡ (m.class b.write).use_count
  pub uses : take b.use_count b.uses ≡ in_use_order (units_of m) (uses_of (m.class b.write))
  pub reads_few : b.read_count ≤ 2
  pub reads : list_all (has_class m) (take b.read_count b.reads) ≡ true

-- each use with a hold above 0 has a unit of its resource
abbrev pub have_units : MachineMeaning → List Use → List ℕ → Bool
have_units m [] us = true
have_units m (w ∷ ws) [] = false
have_units m (w ∷ ws) (u ∷ us) = (nat_eq w.hold 0 || m.units w.resource u) && have_units m ws us

-- the times of a row come in order
pub record AreTimes (g : Input) (t : Table) (j : ℕ) : Type 0 where
  pub issue : (t j).dispatch ≤ (t j).issue
  pub memory : memory_at g t j ≤ (t j).issue
  pub complete : (t j).issue ≤ (t j).complete
  pub retire : (t j).complete < (t j).retire
  pub in_order : (k : ℕ) → k + 1 ≡ j → (t k).retire ≤ (t j).retire
  pub low : (t j).retire < 2 ^ 42

-- what every view asks of what it shows
pub record IsShown (s : Shown) : Type 0 where
  pub spellings : All (CanSpell s.names) s.code
  pub iterations : 1 ≤ s.iterations
  pub few : s.iterations * length s.body ≤ 1048576
  pub some : 0 < length s.body
  pub entries : length s.body ≡ length s.code
  pub entry : All (IsEntry s.machine) s.body
  pub rows : length s.table ≡ s.iterations * length s.body
  pub timed : (j : ℕ) → j < length s.table → AreTimes (run_of s) (times s.table) j
  pub units : (j : ℕ) → j < length s.table → have_units s.machine ((run_of s).row j).uses (times s.table j).units ≡ true

-- A region that was read, bound and run: it can be shown (`run_is_shown`)
pub record WasRun (numbers size : ℕ) (s : Shown) : Type 0 where
  pub machine : IsValidMachine numbers size s.machine
  pub lawful : All (λ i. is_lawful i ≡ true) s.code
  pub named : All (λ i. IsNamed (length s.names) i.imm) s.code
  pub some : 0 < length s.code
  pub entries : length s.body ≡ length s.code
  pub bound : IsBoundBody s.machine s.body
  pub iterations : 1 ≤ s.iterations
  pub few : s.iterations * length s.body ≤ 1048576
  pub run : IsRun s.machine (map row_of s.body) s.iterations s.table
