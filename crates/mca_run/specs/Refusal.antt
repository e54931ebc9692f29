-- Why an input is refused: what stands in the words and in the contents of the two named files.
use Rattle.std.specs.Prelude.{◌≡◌, ℕ, ◌+◌, ◌*◌, ◌<◌, ◌≤◌, ⊤, List, length, Some, None, Ok, Err}
use Rattle.std.specs.declared.option.Option.{Option}
use Rattle.cycle_rules.specs.declared.bound.Bound.{Bound}
use Rattle.machine_model.specs.Meaning.{MachineMeaning}
use Rattle.machine_model.specs.declared.tuning.Tuning.{Tuning}
use Rattle.mca_fixed.specs.declared.limits.TheConstants.{MOST_TEXT_BYTES, MOST_ROWS, MOST_REPORT_BYTES}
use Rattle.mca_io.specs.Devices.{Told}
use Rattle.mca_words.specs.declared.fault.WordFault.{WordFault}
use Rattle.mca_words.specs.declared.options.Options.{Options}
use Rattle.rv_asm.specs.Program.{IsProgram, IsFault}
use Rattle.rv_asm.specs.declared.fault.AsmRefusal.{AsmRefusal}
use Rattle.rv_asm.specs.declared.item.Item.{Item}
use Rattle.region_marks.specs.Marked.{code_of}
use Rattle.region_marks.specs.Regions.{regions_of}
use Rattle.sched_checks.specs.Illness.{illness_of}
use Rattle.sched_checks.specs.declared.illness.TableIllness.{TableIllness}
use Rattle.sched_resolve.specs.Entries.{entries_of, all_defaults}
use Rattle.sched_records.specs.Table.{HasRecords, HasFault}
use Rattle.sched_records.specs.declared.records.Record.{Record}
use Rattle.sched_records.specs.declared.refusal.TableRefusal.{TableRefusal}
use Rattle.sched_validate.specs.Bind.{bound_code}
use Rattle.sched_validate.specs.Machine.{machine_of}
use Rattle.sched_validate.specs.declared.fault.BindFault.{BindFault}
use Rattle.sched_validate.specs.declared.fault.BindFault.TheVariants as bind_fault
use Rattle.mca_run.specs.Asked.{IsAsked, IsWordFault, iterations_of}
use Rattle.mca_run.specs.Regions.{code_at}
use Rattle.mca_run.specs.Whole.{IsWholeReport}
use Rattle.mca_run.specs.declared.program.Program.{Program}
use Rattle.mca_run.specs.Machines.{fixed_of, built_in_meaning, IsTuned}
use Rattle.mca_run.specs.declared.machine.BuiltIn.{BuiltIn}
use Rattle.mca_run.specs.declared.status.Status.{Status}
use Rattle.mca_run.specs.declared.status.Status.TheVariants.{Done, Words, Assembly, Table, Machine, Limit, ReadFault, WriteFault, Memory}
use Rattle.mca_run.specs.declared.status.LimitKind.TheVariants.{AssemblyBytes, TableBytes, RunSize, ReportBytes}
use Rattle.mca_run.specs.declared.status.MachineRefusal.TheVariants as machine
use Rattle.mca_run.specs.declared.status.OpKind.TheVariants as op_kind

-- the content of each name, or none where no file has it
abbrev pub Contents : Type 0
Contents = List ℕ → Option (List ℕ)

-- a shelf tells these contents of the files that the options name: of the assembly, and of the table where they name no built-in machine
pub record TellsFiles (o : Options) (told : List ℕ → Told) (contents : Contents) : Type 0 where
  pub input : told o.input ≡ Some (contents o.input)
  pub table : fixed_of o ≡ None → told o.table ≡ Some (contents o.table)

-- .. of the files that the words name
abbrev pub Tells : List (List ℕ) → (List ℕ → Told) → Contents → Type 0
Tells words told contents = (o : Options) → IsAsked words o → TellsFiles o told contents

-- whatever the files hold that the words name, where the shelf tells it
abbrev pub WhereTold : List (List ℕ) → (List ℕ → Told) → (Contents → Type 0) → Type 0
WhereTold words told P = (contents : Contents) → Tells words told contents → P contents

-- the first fault of an assembly text: its own, or that of the marks of its program
pub data IsTextFault (text : List ℕ) (refusal : AsmRefusal) : Type 0 where
  own : IsFault text refusal → IsTextFault text refusal
  of_marks : (items : List Item) (names : List (List ℕ)) → IsProgram text items names → regions_of items ≡ Err refusal → IsTextFault text refusal

-- the options name an assembly that is there, not too long, and has this program: its instructions, the texts of its symbols, and its regions
pub record IsInput (contents : Contents) (o : Options) (p : Program) : Type 0 where
  pub text : List ℕ
  pub there : contents o.input ≡ Some text
  pub short : length text ≤ MOST_TEXT_BYTES
  pub items : List Item
  pub program : IsProgram text items p.names
  pub code : p.code ≡ code_of items
  pub regions : regions_of items ≡ Ok p.regions

-- the options name a table that is there, not too long, and has these records
pub record IsTable (contents : Contents) (o : Options) (records : List Record) : Type 0 where
  pub text : List ℕ
  pub there : contents o.table ≡ Some text
  pub short : length text ≤ MOST_TEXT_BYTES
  pub has : HasRecords text records

-- the assembly is refused with this status
pub data IsAsmRefusal (contents : Contents) (o : Options) (status : Status) : Type 0 where
  asm_long : (text : List ℕ) → contents o.input ≡ Some text → MOST_TEXT_BYTES < length text → status ≡ Limit AssemblyBytes (MOST_TEXT_BYTES + 1) → IsAsmRefusal contents o status
  asm_fault : (text : List ℕ) (refusal : AsmRefusal) → contents o.input ≡ Some text → length text ≤ MOST_TEXT_BYTES → IsTextFault text refusal → status ≡ Assembly refusal → IsAsmRefusal contents o status

-- the table is refused with this status
pub data IsTableRefusal (contents : Contents) (o : Options) (status : Status) : Type 0 where
  table_long : (text : List ℕ) → contents o.table ≡ Some text → MOST_TEXT_BYTES < length text → status ≡ Limit TableBytes (MOST_TEXT_BYTES + 1) → IsTableRefusal contents o status
  table_fault : (text : List ℕ) (refusal : TableRefusal) → contents o.table ≡ Some text → length text ≤ MOST_TEXT_BYTES → HasFault text refusal → status ≡ Table refusal → IsTableRefusal contents o status

-- the machine that the options name: a built-in one, or that of a table without an illness
pub data IsMachine (contents : Contents) (o : Options) (m : MachineMeaning) : Type 0 where
  built_in : (b : BuiltIn) (t : Tuning) → fixed_of o ≡ Some b → IsTuned o t → m ≡ built_in_meaning b t → IsMachine contents o m
  of_table : (records : List Record) (t : Tuning) → fixed_of o ≡ None → IsTable contents o records → illness_of (entries_of records) ≡ None
      → IsTuned o t → m ≡ machine_of (entries_of records) (all_defaults records) t → IsMachine contents o m

-- a machine runs each instruction of a region
abbrev pub IsBound : MachineMeaning → Program → ℕ → Type 0
IsBound m p k = (body : List Bound) × (bound_code m (code_at p k) ≡ Ok body)

-- the rows of a region, so often repeated
abbrev pub rows_at : Program → ℕ → ℕ → ℕ
rows_at p n k = n * length (code_at p k)

-- a machine takes a program, so often repeated: it runs each instruction, and no region has too many rows
pub record IsTaken (m : MachineMeaning) (p : Program) (n : ℕ) : Type 0 where
  pub bound : (k : ℕ) → k < length p.regions → IsBound m p k
  pub few : (k : ℕ) → k < length p.regions → rows_at p n k ≤ MOST_ROWS

-- the first region with an instruction that a machine does not run, and the fault of its first such instruction
pub record IsUnbound (m : MachineMeaning) (p : Program) (k : ℕ) (fault : BindFault) : Type 0 where
  pub region : k < length p.regions
  pub earlier : (j : ℕ) → j < k → IsBound m p j
  pub here : bound_code m (code_at p k) ≡ Err fault

-- the first region with too many rows
pub record IsTooLong (p : Program) (n k : ℕ) : Type 0 where
  pub region : k < length p.regions
  pub earlier : (j : ℕ) → j < k → rows_at p n j ≤ MOST_ROWS
  pub here : MOST_ROWS < rows_at p n k

-- the status of an instruction that a machine does not run
abbrev pub opcode_status : BindFault → Status
opcode_status (bind_fault.NoWriteRes op) = Machine (machine.Opcode op op_kind.NoWriteRes)
opcode_status (bind_fault.UnsupportedOp op) = Machine (machine.Opcode op op_kind.UnsupportedOp)
opcode_status bind_fault.Memory = Memory

-- a machine refuses a program with this status: for the first instruction that it does not run; then for the rows of a region; then for the length of the report
pub data IsCodeRefusal (m : MachineMeaning) (o : Options) (p : Program) (status : Status) : Type 0 where
  by_opcode : (k : ℕ) (fault : BindFault) → IsUnbound m p k fault → status ≡ opcode_status fault → IsCodeRefusal m o p status
  by_size : (k : ℕ) → ((j : ℕ) → j < length p.regions → IsBound m p j) → IsTooLong p (iterations_of o) k
      → status ≡ Limit RunSize (rows_at p (iterations_of o) k) → IsCodeRefusal m o p status
  by_length : (report : List ℕ) → IsTaken m p (iterations_of o) → IsWholeReport m o p report → MOST_REPORT_BYTES < length report
      → status ≡ Limit ReportBytes (MOST_REPORT_BYTES + 1) → IsCodeRefusal m o p status

-- the machine, or its run of a program, is refused with this status: the first step that refuses it, of the table's text, its validity, and what its machine or a built-in one takes
pub data IsRunRefusal (contents : Contents) (o : Options) (p : Program) (status : Status) : Type 0 where
  by_table : fixed_of o ≡ None → IsTableRefusal contents o status → IsRunRefusal contents o p status
  by_illness : (records : List Record) (f : TableIllness) → fixed_of o ≡ None → IsTable contents o records → illness_of (entries_of records) ≡ Some f
      → status ≡ Machine (machine.Record f.number f.kind) → IsRunRefusal contents o p status
  by_code : (m : MachineMeaning) → IsMachine contents o m → IsCodeRefusal m o p status → IsRunRefusal contents o p status

-- the input is refused with this status: the first step that refuses it, of words, assembly, machine and run
pub data IsRefusal (words : List (List ℕ)) (contents : Contents) (status : Status) : Type 0 where
  by_words : (fault : WordFault) → IsWordFault words fault → status ≡ Words fault → IsRefusal words contents status
  by_assembly : (o : Options) → IsAsked words o → IsAsmRefusal contents o status → IsRefusal words contents status
  by_run : (o : Options) (p : Program) → IsAsked words o → IsInput contents o p → IsRunRefusal contents o p status → IsRefusal words contents status

-- where a status is a refusal of the input, P is true of it
abbrev pub IfRefused : (Status → Type 0) → Status → Type 0
IfRefused P Done = ⊤
IfRefused P ReadFault = ⊤
IfRefused P WriteFault = ⊤
IfRefused P Memory = ⊤
IfRefused P status = P status
