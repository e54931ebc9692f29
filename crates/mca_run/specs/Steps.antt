-- What each step of the tool answers, by the statuses with which it may stop; words of private contracts alone.
use Rattle.std.specs.Prelude.{◌≡◌, ℕ, ◌+◌, ◌<◌, ◌≤◌, ◌⊎◌, List, [], ◌∷◌, ◌++◌, length, slice_index_or, nat_eq, ⊤, None, Some, Ok, if◌then◌else◌}
use Rattle.std.specs.List.{All}
use Rattle.cycle_rules.specs.Bind.{IsBoundBody}
use Rattle.cycle_rules.specs.declared.bound.Bound.{Bound}
use Rattle.machine_model.specs.Meaning.{MachineMeaning}
use Rattle.mca_fixed.specs.declared.limits.TheConstants.{MOST_TEXT_BYTES, MOST_REPORT_BYTES}
use Rattle.mca_io.specs.Devices.{Told, IfContent}
use Rattle.mca_views.specs.Lines.{lines}
use Rattle.mca_views.specs.Page.{Written}
use Rattle.mca_views.specs.declared.fault.ViewFault.{ViewFault}
use Rattle.mca_views.specs.declared.fault.ViewFault.TheVariants as no_room
use Rattle.mca_words.specs.declared.fault.WordFault.{WordFault}
use Rattle.mca_words.specs.declared.fault.WordKind.{WordKind}
use Rattle.mca_words.specs.declared.fault.WordKind.TheVariants as word
use Rattle.mca_words.specs.declared.options.Options.{Options}
use Rattle.rv_asm.specs.declared.fault.AsmKind.{AsmKind}
use Rattle.rv_asm.specs.declared.fault.AsmKind.TheVariants as asm
use Rattle.rv_asm.specs.declared.fault.AsmRefusal.{AsmRefusal}
use Rattle.region_marks.specs.Marked.{HasRightSize}
use Rattle.rv_asm.specs.Spellable.{IsSpellable}
use Rattle.rv_isa.specs.declared.instr.Instr.{Instr}
use Rattle.sched_checks.specs.Illness.{illness_of}
use Rattle.sched_checks.specs.declared.illness.IllKind.{IllKind}
use Rattle.sched_checks.specs.declared.illness.IllKind.TheVariants as ill
use Rattle.sched_resolve.specs.Entries.{entries_of}
use Rattle.sched_records.specs.Table.{HasFault}
use Rattle.sched_records.specs.declared.records.Record.{Record}
use Rattle.sched_records.specs.declared.refusal.TableKind.{TableKind}
use Rattle.sched_records.specs.declared.refusal.TableKind.TheVariants as table
use Rattle.sched_records.specs.declared.refusal.TableRefusal.{TableRefusal}
use Rattle.sched_validate.specs.Bind.{bound_code}
use Rattle.mca_run.specs.Asked.{IsWordFault}
use Rattle.mca_run.specs.Machines.{fixed_of}
use Rattle.mca_run.specs.Refusal.{Contents, WhereTold, IsTextFault, IsCodeRefusal, IsRefusal, IfRefused}
use Rattle.mca_run.specs.Regions.{code_at}
use Rattle.mca_run.specs.Whole.{IsRegionReport, IsWholeReport}
use Rattle.mca_run.specs.Outcome.{NamedFault, NamedInOrder}
use Rattle.mca_run.specs.declared.program.Program.{Program}
use Rattle.mca_run.specs.declared.status.LimitKind.{LimitKind}
use Rattle.mca_run.specs.declared.status.LimitKind.TheVariants.{ReportBytes}
use Rattle.mca_run.specs.declared.status.Status.{Status}
use Rattle.mca_run.specs.declared.status.Status.TheVariants.{Words, Assembly, Table, Machine, Limit, ReadFault, Memory}
use Rattle.mca_run.specs.declared.status.MachineRefusal.TheVariants as machine

-- The statuses of the refusals of the crates below; their want of memory is that of the tool

abbrev pub words_status : WordFault → WordKind → Status
words_status fault word.Memory = Memory
words_status fault kind = Words fault

abbrev pub assembly_status : AsmRefusal → AsmKind → Status
assembly_status refusal asm.Memory = Memory
assembly_status refusal kind = Assembly refusal

abbrev pub table_status : TableRefusal → TableKind → Status
table_status refusal table.Memory = Memory
table_status refusal kind = Table refusal

abbrev pub ill_status : ℕ → IllKind → Status
ill_status number ill.Memory = Memory
ill_status number kind = Machine (machine.Record number kind)

abbrev pub view_status : ViewFault → Status
view_status no_room.TooLong = Limit ReportBytes (MOST_REPORT_BYTES + 1)
view_status no_room.Memory = Memory

-- The statuses with which a step may stop

abbrev pub MayRefuseWords : List (List ℕ) → Status → Type 0
MayRefuseWords words (Words fault) = IsWordFault words fault
MayRefuseWords words Memory = ⊤
MayRefuseWords words _ = ⊥

-- a content was not read: the shelf failed, or it is too long
abbrev pub IsUnread : Told → LimitKind → Status → Type 0
IsUnread told limit ReadFault = ⊤
IsUnread told limit Memory = ⊤
IsUnread told limit (Limit kind n) = (kind ≡ limit) × (n ≡ MOST_TEXT_BYTES + 1) × IfContent told (λ content. MOST_TEXT_BYTES < length content)
IsUnread told limit _ = ⊥

-- a text is no assembly
abbrev pub MayRefuseText : List ℕ → Status → Type 0
MayRefuseText text (Assembly refusal) = IsTextFault text refusal
MayRefuseText text Memory = ⊤
MayRefuseText text _ = ⊥

-- a text has no records
abbrev pub MayRefuseRecordsOf : List ℕ → Status → Type 0
MayRefuseRecordsOf text (Table refusal) = HasFault text refusal
MayRefuseRecordsOf text Memory = ⊤
MayRefuseRecordsOf text _ = ⊥

-- records are no machine
abbrev pub MayRefuseRecords : List Record → Status → Type 0
MayRefuseRecords records (Machine (machine.Record number kind)) = illness_of (entries_of records) ≡ Some (record { number = number; kind = kind })
MayRefuseRecords records Memory = ⊤
MayRefuseRecords records _ = ⊥

-- a machine refuses a program
abbrev pub MayRefuseCode : MachineMeaning → Options → Program → Status → Type 0
MayRefuseCode m o p (Machine refusal) = IsCodeRefusal m o p (Machine refusal)
MayRefuseCode m o p (Limit kind n) = IsCodeRefusal m o p (Limit kind n)
MayRefuseCode m o p Memory = ⊤
MayRefuseCode m o p _ = ⊥

-- a shelf tells the content of a name
abbrev pub TellsName : (List ℕ → Told) → Contents → List ℕ → Type 0
TellsName told contents name = told name ≡ Some (contents name)

-- .. of the table, where the options name no built-in machine
abbrev pub TellsTable : (List ℕ → Told) → Contents → Options → Type 0
TellsTable told contents o = fixed_of o ≡ None → TellsName told contents o.table

-- why the tool has no report: a refusal that stands in the input, a read fault that was counted, or want of memory
pub record IsStopped (words : List (List ℕ)) (told : List ℕ → Told) (before after : List ℕ → ℕ) (status : Status) : Type 0 where
  pub refused : WhereTold words told (λ files. IfRefused (IsRefusal words files) status)
  pub of_words : (fault : WordFault) → status ≡ Words fault → IsWordFault words fault
  pub words_first : (fault : WordFault) → IsWordFault words fault → (status ≡ Words fault) ⊎ (status ≡ Memory)
  pub fault : status ≡ ReadFault → NamedFault words before after
  pub in_order : WhereTold words told (λ files. status ≡ ReadFault → NamedInOrder words files before after)

-- a step behind the words never refuses them
abbrev pub IsOfFiles : Status → Type 0
IsOfFiles (Words fault) = ⊥
IsOfFiles _ = ⊤

-- What the steps of a machine know, and what they leave

-- regions lie within the instructions of a program and have few of them, and each instruction can be spelled
pub record IsSound (p : Program) : Type 0 where
  pub sizes : All HasRightSize p.regions
  pub within : All (λ r. r.first + r.count ≤ length p.code) p.regions
  pub spellable : All (IsSpellable p.names) p.code

-- what binding the instructions of a region gives
pub record IsBodyOf (m : MachineMeaning) (code : List Instr) (body : List Bound) : Type 0 where
  pub exact : bound_code m code ≡ Ok body
  pub bound : IsBoundBody m body
  pub many : length body ≡ length code

abbrev pub body_at : List (List Bound) → ℕ → List Bound
body_at bodies k = slice_index_or bodies k []

-- the bodies of the first regions
pub record AreBodies (m : MachineMeaning) (p : Program) (k : ℕ) (bodies : List (List Bound)) : Type 0 where
  pub count : length bodies ≡ k
  pub each : (j : ℕ) → j < k → IsBodyOf m (code_at p j) (body_at bodies j)

-- the empty line before the report of each region but the first
abbrev pub gap : ℕ → List (List ℕ)
gap k = if nat_eq k 0 then [] else [] ∷ []

-- a page has no room for the report of a region; or there was no memory
abbrev pub IsOver : MachineMeaning → Options → Program → ℕ → Written → ViewFault → Type 0
IsOver m o p k page no_room.TooLong = (report : List (List ℕ)) × IsRegionReport m o p k report × (page.room < length (page.text ++ lines (gap k ++ report)))
IsOver m o p k page no_room.Memory = ⊤

-- the whole report is too long; or there was no memory
abbrev pub IsOverAll : MachineMeaning → Options → Program → ViewFault → Type 0
IsOverAll m o p no_room.TooLong = (report : List ℕ) × IsWholeReport m o p report × (MOST_REPORT_BYTES < length report)
IsOverAll m o p no_room.Memory = ⊤
