-- What stands in the contents of a shelf, and what a refused text refuses.
use Rattle.std.proofs.Common.{◌≡◌, ℕ, ◌≤◌, ◌<◌, List, length, Some, Ok, Err, ◌∙◌, ap, sym, refl, subst}
use Rattle.std.specs.Prelude.{IfOk, IfErr}
use Rattle.std.specs.declared.result.Result.{Result}
use Rattle.rv_asm.specs.Program.{IsProgram}
use Rattle.rv_asm.specs.declared.item.Item.{Item}
use Rattle.sched_records.specs.Table.{HasRecords}
use Rattle.sched_records.specs.declared.records.Record.{Record}
use Rattle.region_marks.specs.Marked.{code_of}
use Rattle.region_marks.specs.Regions.{regions_of}
use Rattle.mca_run.specs.declared.program.Program.{Program}
use Rattle.mca_fixed.specs.declared.limits.TheConstants.{MOST_TEXT_BYTES}
use Rattle.mca_io.specs.Devices.{Told, IfContent}
use Rattle.mca_words.specs.declared.options.Options.{Options}
use Rattle.mca_run.specs.Refusal.{Contents, IsInput, IsTable, IsAsmRefusal, asm_long, asm_fault, IsTableRefusal, table_long, table_fault, IfRefused}
use Rattle.mca_run.specs.Steps.{TellsName, IsUnread, MayRefuseText, MayRefuseRecordsOf, IsOfFiles}
use Rattle.mca_run.specs.declared.status.LimitKind.{LimitKind}
use Rattle.mca_run.specs.declared.status.LimitKind.TheVariants.{AssemblyBytes, TableBytes}
use Rattle.mca_run.specs.declared.status.Status.{Status}
use Rattle.mca_run.specs.declared.status.Status.TheVariants.{Done, Words, Assembly, Table, Machine, Limit, ReadFault, WriteFault, Memory}
use Rattle.mca_run.proofs.Causes.{content_there}

-- a text that is the content of the name
pub is_there : (told : List ℕ → Told) (contents : Contents) (name text : List ℕ) → TellsName told contents name → IfContent (told name) (λ content. text ≡ content) → contents name ≡ Some text
is_there told contents name text tells h = let there = content_there told contents name (λ content. text ≡ content) tells h in there.1 ∙ ap Some (sym there.2)

-- A file that was not read

pub unread_assembly : (contents : Contents) (o : Options) (told : List ℕ → Told) (s : Status) → TellsName told contents o.input → IsUnread (told o.input) AssemblyBytes s → IfRefused (IsAsmRefusal contents o) s
unread_assembly contents o told Done tells h = tt
unread_assembly contents o told (Words fault) tells h = absurd h
unread_assembly contents o told (Assembly refusal) tells h = absurd h
unread_assembly contents o told (Table refusal) tells h = absurd h
unread_assembly contents o told (Machine refusal) tells h = absurd h
unread_assembly contents o told (Limit kind n) tells h = let there = content_there told contents o.input (λ content. MOST_TEXT_BYTES < length content) tells h.2 in asm_long there.0 there.1 there.2 (λ i. Limit (h.0 i) (h.1 i))
unread_assembly contents o told ReadFault tells h = tt
unread_assembly contents o told WriteFault tells h = tt
unread_assembly contents o told Memory tells h = tt

pub unread_table : (contents : Contents) (o : Options) (told : List ℕ → Told) (s : Status) → TellsName told contents o.table → IsUnread (told o.table) TableBytes s → IfRefused (IsTableRefusal contents o) s
unread_table contents o told Done tells h = tt
unread_table contents o told (Words fault) tells h = absurd h
unread_table contents o told (Assembly refusal) tells h = absurd h
unread_table contents o told (Table refusal) tells h = absurd h
unread_table contents o told (Machine refusal) tells h = absurd h
unread_table contents o told (Limit kind n) tells h = let there = content_there told contents o.table (λ content. MOST_TEXT_BYTES < length content) tells h.2 in table_long there.0 there.1 there.2 (λ i. Limit (h.0 i) (h.1 i))
unread_table contents o told ReadFault tells h = tt
unread_table contents o told WriteFault tells h = tt
unread_table contents o told Memory tells h = tt

pub unread_of_files : (told : Told) (limit : LimitKind) (s : Status) → IsUnread told limit s → IsOfFiles s
unread_of_files told limit Done h = tt
unread_of_files told limit (Words fault) h = h
unread_of_files told limit (Assembly refusal) h = tt
unread_of_files told limit (Table refusal) h = tt
unread_of_files told limit (Machine refusal) h = tt
unread_of_files told limit (Limit kind n) h = tt
unread_of_files told limit ReadFault h = tt
unread_of_files told limit WriteFault h = tt
unread_of_files told limit Memory h = tt

-- A text that was refused

pub text_refused : (contents : Contents) (o : Options) (text : List ℕ) (s : Status) → contents o.input ≡ Some text → length text ≤ MOST_TEXT_BYTES → MayRefuseText text s → IfRefused (IsAsmRefusal contents o) s
text_refused contents o text Done there short h = tt
text_refused contents o text (Words fault) there short h = absurd h
text_refused contents o text (Assembly refusal) there short h = asm_fault text refusal there short h refl
text_refused contents o text (Table refusal) there short h = absurd h
text_refused contents o text (Machine refusal) there short h = absurd h
text_refused contents o text (Limit kind n) there short h = absurd h
text_refused contents o text ReadFault there short h = tt
text_refused contents o text WriteFault there short h = tt
text_refused contents o text Memory there short h = tt

pub text_of_files : (text : List ℕ) (s : Status) → MayRefuseText text s → IsOfFiles s
text_of_files text Done h = tt
text_of_files text (Words fault) h = h
text_of_files text (Assembly refusal) h = tt
text_of_files text (Table refusal) h = tt
text_of_files text (Machine refusal) h = tt
text_of_files text (Limit kind n) h = tt
text_of_files text ReadFault h = tt
text_of_files text WriteFault h = tt
text_of_files text Memory h = tt

pub table_refused : (contents : Contents) (o : Options) (text : List ℕ) (s : Status) → contents o.table ≡ Some text → length text ≤ MOST_TEXT_BYTES → MayRefuseRecordsOf text s → IfRefused (IsTableRefusal contents o) s
table_refused contents o text Done there short h = tt
table_refused contents o text (Words fault) there short h = absurd h
table_refused contents o text (Assembly refusal) there short h = absurd h
table_refused contents o text (Table refusal) there short h = table_fault text refusal there short h refl
table_refused contents o text (Machine refusal) there short h = absurd h
table_refused contents o text (Limit kind n) there short h = absurd h
table_refused contents o text ReadFault there short h = tt
table_refused contents o text WriteFault there short h = tt
table_refused contents o text Memory there short h = tt

pub table_of_files : (text : List ℕ) (s : Status) → MayRefuseRecordsOf text s → IsOfFiles s
table_of_files text Done h = tt
table_of_files text (Words fault) h = h
table_of_files text (Assembly refusal) h = tt
table_of_files text (Table refusal) h = tt
table_of_files text (Machine refusal) h = tt
table_of_files text (Limit kind n) h = tt
table_of_files text ReadFault h = tt
table_of_files text WriteFault h = tt
table_of_files text Memory h = tt

-- What a step makes of a text that was read

pub program_ok : {E : Type 0} (told : List ℕ → Told) (o : Options) (text : List ℕ) (r : Result Program E) → length text ≤ MOST_TEXT_BYTES → IfContent (told o.input) (λ content. text ≡ content)
    → IfOk r (λ p. (items : List Item) × IsProgram text items p.names × (p.code ≡ code_of items) × (regions_of items ≡ Ok p.regions)) → IfOk r (λ p. (contents : Contents) → TellsName told contents o.input → IsInput contents o p)
program_ok told o text (Ok p) short is (items, program, code, regions) = λ contents tells.
    record { text = text; there = is_there told contents o.input text tells is; short = short; items = items; program = program; code = code; regions = regions }
program_ok told o text (Err e) short is h = tt

pub program_err : {T E : Type 0} (status : E → Status) (told : List ℕ → Told) (o : Options) (text : List ℕ) (r : Result T E) → length text ≤ MOST_TEXT_BYTES → IfContent (told o.input) (λ content. text ≡ content)
    → IfErr r (λ e. MayRefuseText text (status e)) → IfErr r (λ e. (contents : Contents) → TellsName told contents o.input → IfRefused (IsAsmRefusal contents o) (status e))
program_err status told o text (Ok x) short is h = tt
program_err status told o text (Err e) short is h = λ contents tells. text_refused contents o text (status e) (is_there told contents o.input text tells is) short h

pub program_of_files : {T E : Type 0} (status : E → Status) (text : List ℕ) (r : Result T E) → IfErr r (λ e. MayRefuseText text (status e)) → IfErr r (λ e. IsOfFiles (status e))
program_of_files status text (Ok x) h = tt
program_of_files status text (Err e) h = text_of_files text (status e) h

pub program_read : {T E : Type 0} (status : E → Status) (text : List ℕ) (P : Type 0) (r : Result T E) → IfErr r (λ e. MayRefuseText text (status e)) → IfErr r (λ e. status e ≡ ReadFault → P)
program_read status text P (Ok x) h = tt
program_read status text P (Err e) h = λ is. (let bad : MayRefuseText text ReadFault = subst (MayRefuseText text) is h in absurd bad)

pub records_ok : {E : Type 0} (told : List ℕ → Told) (o : Options) (text : List ℕ) (r : Result (List Record) E) → length text ≤ MOST_TEXT_BYTES → IfContent (told o.table) (λ content. text ≡ content)
    → IfOk r (HasRecords text) → IfOk r (λ records. (contents : Contents) → TellsName told contents o.table → IsTable contents o records)
records_ok told o text (Ok records) short is has = λ contents tells. record { text = text; there = is_there told contents o.table text tells is; short = short; has = has }
records_ok told o text (Err e) short is has = tt

pub records_err : {T E : Type 0} (status : E → Status) (told : List ℕ → Told) (o : Options) (text : List ℕ) (r : Result T E) → length text ≤ MOST_TEXT_BYTES → IfContent (told o.table) (λ content. text ≡ content)
    → IfErr r (λ e. MayRefuseRecordsOf text (status e)) → IfErr r (λ e. (contents : Contents) → TellsName told contents o.table → IfRefused (IsTableRefusal contents o) (status e))
records_err status told o text (Ok x) short is h = tt
records_err status told o text (Err e) short is h = λ contents tells. table_refused contents o text (status e) (is_there told contents o.table text tells is) short h

pub records_of_files : {T E : Type 0} (status : E → Status) (text : List ℕ) (r : Result T E) → IfErr r (λ e. MayRefuseRecordsOf text (status e)) → IfErr r (λ e. IsOfFiles (status e))
records_of_files status text (Ok x) h = tt
records_of_files status text (Err e) h = table_of_files text (status e) h

pub records_read : {T E : Type 0} (status : E → Status) (text : List ℕ) (P : Type 0) (r : Result T E) → IfErr r (λ e. MayRefuseRecordsOf text (status e)) → IfErr r (λ e. status e ≡ ReadFault → P)
records_read status text P (Ok x) h = tt
records_read status text P (Err e) h = λ is. (let bad : MayRefuseRecordsOf text ReadFault = subst (MayRefuseRecordsOf text) is h in absurd bad)
