-- What a call of the tool leaves: the bytes on the report's sink and on the errors' sink, by its status.
use Rattle.std.specs.Prelude.{◌≡◌, ◌≢◌, ℕ, ◌<◌, ◌≤◌, ◌⊎◌, ⊤, List, length, take, None}
use Rattle.std.specs.declared.option.Option.{Option}
use Rattle.std.specs.Io.KnownBytes.{Appends, Keeps, IsAtEnd}
use Rattle.machine_model.specs.Meaning.{MachineMeaning}
use Rattle.mca_fixed.specs.declared.limits.TheConstants.{MOST_REPORT_BYTES}
use Rattle.mca_io.specs.Devices.{Rose, Seen}
use Rattle.mca_words.specs.declared.fault.WordKind.TheVariants as word
use Rattle.mca_words.specs.declared.options.Options.{Options}
use Rattle.rv_asm.specs.declared.fault.AsmKind.TheVariants as asm
use Rattle.sched_checks.specs.declared.illness.IllKind.TheVariants as ill
use Rattle.sched_records.specs.declared.refusal.TableKind.TheVariants as table
use Rattle.mca_run.specs.Lines.{line_of}
use Rattle.mca_run.specs.Asked.{IsAsked, IsLoadAsked, IsWordFault, iterations_of}
use Rattle.mca_run.specs.Machines.{fixed_of}
use Rattle.mca_run.specs.Refusal.{Contents, IsInput, IsMachine, IsTaken, IsRefusal}
use Rattle.mca_run.specs.Report.{IsReport}
use Rattle.mca_run.specs.Whole.{IsWholeReport}
use Rattle.mca_run.specs.declared.program.Program.{Program}
use Rattle.mca_run.specs.declared.status.Status.{Status}
use Rattle.mca_run.specs.declared.status.Status.TheVariants.{Done, Words, Assembly, Table, Machine, ReadFault, WriteFault, Memory}
use Rattle.mca_run.specs.declared.status.MachineRefusal.TheVariants as machine

-- what is seen of a sink before a call, and after it
abbrev pub Change : Type 0
Change = Seen × Seen

abbrev pub IsKept : Change → Type 0
IsKept sink = Keeps sink.0.contents sink.1.contents

abbrev pub Gets : Change → List ℕ → Type 0
Gets sink bytes = Appends sink.0.contents sink.1.contents bytes

-- a proper front of the bytes came, and a fault was counted
pub record GetsFront (sink : Change) (bytes : List ℕ) : Type 0 where
  pub count : ℕ
  pub proper : count < length bytes
  pub front : Gets sink (take count bytes)
  pub rose : Rose sink.0.faults sink.1.faults

-- the status is told: nothing of a report, and its one line on the errors' sink
pub record IsTold (out err : Change) (status : Status) : Type 0 where
  pub kept : IsKept out
  pub line : Gets err (line_of status)

-- each status but those of the report is told
abbrev pub TellsLine : Change → Change → Status → Type 0
TellsLine out err Done = ⊤
TellsLine out err WriteFault = ⊤
TellsLine out err status = IsTold out err status

-- the whole report came
pub record IsReported (words : List (List ℕ)) (contents : Contents) (out : Change) : Type 0 where
  pub report : List ℕ
  pub is : IsReport words contents report
  pub bytes : Gets out report

-- a status has no kind that tells of want of memory, for which there is a status of its own
abbrev pub HoldsNoMemory : Status → Type 0
HoldsNoMemory (Words fault) = fault.kind ≢ word.Memory
HoldsNoMemory (Assembly refusal) = refusal.kind ≢ asm.Memory
HoldsNoMemory (Table refusal) = refusal.kind ≢ table.Memory
HoldsNoMemory (Machine (machine.Record number kind)) = kind ≢ ill.Memory
HoldsNoMemory _ = ⊤

-- a device failed, or there was no memory
abbrev pub IsFailure : Status → Type 0
IsFailure status = (status ≡ ReadFault) ⊎ ((status ≡ WriteFault) ⊎ (status ≡ Memory))

-- the count of a file that the options name rose: of the assembly, or, where they name no built-in machine, of the table
pub record NamedFault (words : List (List ℕ)) (before after : List ℕ → ℕ) : Type 0 where
  pub options : Options
  pub asked : IsAsked words options
  pub rose : Rose (before options.input) (after options.input)
      ⊎ ((fixed_of options ≡ None) × Rose (before options.table) (after options.table))

-- and the table's count alone rose only where the assembly is right
pub record NamedInOrder (words : List (List ℕ)) (contents : Contents) (before after : List ℕ → ℕ) : Type 0 where
  pub options : Options
  pub asked : IsAsked words options
  pub rose : Rose (before options.input) (after options.input)
      ⊎ ((p : Program) × IsInput contents options p × (fixed_of options ≡ None) × Rose (before options.table) (after options.table))

-- a status that has a line may be the answer, by the words and by the counts of the shelf
abbrev pub MayTell : List (List ℕ) → (List ℕ → ℕ) → (List ℕ → ℕ) → Status → Type 0
MayTell words before after Done = ⊥
MayTell words before after WriteFault = ⊥
MayTell words before after (Words fault) = IsWordFault words fault
MayTell words before after ReadFault = NamedFault words before after
MayTell words before after status = HoldsNoMemory status

-- .. and by the contents of the named files: a refusal stands in the input
abbrev pub MayTellOf : List (List ℕ) → Contents → (List ℕ → ℕ) → (List ℕ → ℕ) → Status → Type 0
MayTellOf words contents before after Done = ⊥
MayTellOf words contents before after WriteFault = ⊥
MayTellOf words contents before after ReadFault = NamedInOrder words contents before after
MayTellOf words contents before after Memory = ⊤
MayTellOf words contents before after status = IsRefusal words contents status

-- each file that is read was read to its end; for the program that a number gives none is read
abbrev pub AreReadToEnd : List (List ℕ) → Option (List ℕ) → Type 0
AreReadToEnd words rest = (o : Options) → IsAsked words o → IsAtEnd rest

-- the report's sink failed, after each file that is read was read to its end: a proper front of a report came, and the line of the write fault, whole unless the errors'
-- sink failed too
pub record ReportFailed (words : List (List ℕ)) (Is : List ℕ → Type 0) (rest : Option (List ℕ)) (out err : Change) : Type 0 where
  pub report : List ℕ
  pub is : Is report
  pub read_to_end : AreReadToEnd words rest
  pub front : GetsFront out report
  pub line : Gets err (line_of WriteFault) ⊎ GetsFront err (line_of WriteFault)

-- the errors' sink failed: of the line of a status that may be told a proper front came
pub record LineFailed (May : Status → Type 0) (out err : Change) : Type 0 where
  pub status : Status
  pub may : May status
  pub front : GetsFront err (line_of status)
  pub kept : IsKept out

-- what a write fault leaves, whatever the named files hold
abbrev pub WriteFailed : List (List ℕ) → (List ℕ → ℕ) → (List ℕ → ℕ) → Option (List ℕ) → Change → Change → Type 0
WriteFailed words before after rest out err = ReportFailed words (λ report. ⊤) rest out err ⊎ LineFailed (MayTell words before after) out err

-- .. and where they hold this
abbrev pub WriteFailedOf : List (List ℕ) → Contents → (List ℕ → ℕ) → (List ℕ → ℕ) → Option (List ℕ) → Change → Change → Type 0
WriteFailedOf words contents before after rest out err =
    ReportFailed words (IsReport words contents) rest out err ⊎ LineFailed (MayTellOf words contents before after) out err

-- what writing the line of a status left: the line of that status, that of want of memory, or a front of one of them
abbrev pub LineWritten : Change → Status → Status → Type 0
LineWritten err status result = ((result ≡ status) × Gets err (line_of status)) ⊎ (((result ≡ Memory) × Gets err (line_of Memory))
    ⊎ ((result ≡ WriteFault) × ((s : Status) × ((s ≡ status) ⊎ (s ≡ Memory)) × GetsFront err (line_of s))))

-- words, contents and limits are right: the tool has a report
pub record IsAccepted (words : List (List ℕ)) (contents : Contents) : Type 0 where
  pub options : Options
  pub asked : IsAsked words options
  pub program : Program
  pub input : IsInput contents options program
  pub machine : MachineMeaning
  pub named : IsMachine contents options machine
  pub taken : IsTaken machine program (iterations_of options)
  pub short : (report : List ℕ) → IsWholeReport machine options program report → length report ≤ MOST_REPORT_BYTES

-- nothing but a failure stands in for the answer that words and contents have
pub record IsComplete (words : List (List ℕ)) (contents : Contents) (result : Status) : Type 0 where
  pub refused : (status : Status) → IsRefusal words contents status → (result ≡ status) ⊎ IsFailure result
  pub no_assembly : (o : Options) → IsAsked words o → contents o.input ≡ None → IsFailure result
  pub no_table : (o : Options) (p : Program) → IsAsked words o → IsInput contents o p → fixed_of o ≡ None → contents o.table ≡ None → IsFailure result
  pub accepted : IsAccepted words contents → (result ≡ Done) ⊎ IsFailure result
  pub load : (seed : ℕ) → IsLoadAsked words seed → (result ≡ Done) ⊎ IsFailure result
