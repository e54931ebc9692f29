-- What stands in the contents of a shelf, and that an input has one answer.
use Rattle.std.proofs.Common.{◌≡◌, ℕ, ◌<◌, ◌≤◌, List, length, Some, None, Ok, Err, sym, ◌∙◌, ap, subst, refl, arith}
use Rattle.std.specs.declared.option.Option.{Option}
use Rattle.std.specs.declared.result.Result.{Result}
use Rattle.machine_model.specs.Meaning.{MachineMeaning}
use Rattle.mca_fixed.specs.declared.limits.TheConstants.{MOST_TEXT_BYTES, MOST_REPORT_BYTES}
use Rattle.mca_io.specs.Devices.{Told, IfContent}
use Rattle.mca_words.specs.Answer.{answer_of}
use Rattle.mca_words.specs.declared.fault.WordFault.{WordFault}
use Rattle.mca_words.specs.declared.options.Options.{Options}
use Rattle.rv_asm.specs.Program.{IsProgram}
use Rattle.rv_asm.specs.declared.item.Item.{Item}
use Rattle.rv_asm.specs.declared.fault.AsmRefusal.{AsmRefusal}
use Rattle.rv_asm.proofs.Answer.{one_items, one_names, one_fault, not_both as asm_not_both}
use Rattle.sched_checks.specs.Illness.{illness_of}
use Rattle.sched_checks.specs.declared.illness.TableIllness.{TableIllness}
use Rattle.sched_resolve.specs.Entries.{entries_of, all_defaults}
use Rattle.sched_records.specs.Table.{HasRecords, HasFault}
use Rattle.sched_records.specs.declared.records.Record.{Record}
use Rattle.sched_records.specs.declared.refusal.TableRefusal.{TableRefusal}
use Rattle.sched_records.proofs.OneAnswer.{one}
use Rattle.sched_validate.specs.Machine.{machine_of}
use Rattle.mca_run.specs.Asked.{IsWordFault, IsAsked, IsLoadAsked, iterations_of}
use Rattle.region_marks.specs.Marked.{code_of}
use Rattle.region_marks.specs.Regions.{regions_of}
use Rattle.region_marks.specs.declared.region.Region.{Region}
use Rattle.mca_run.specs.LoadReport.{IsLoadReport}
use Rattle.mca_run.specs.Whole.{IsWholeReport}
use Rattle.mca_run.specs.declared.program.Program.{Program}
use Rattle.mca_run.specs.Machines.{fixed_of, built_in_meaning}
use Rattle.mca_run.specs.Refusal.{Contents, IsTextFault, own, of_marks, IsInput, IsTable, IsAsmRefusal, asm_long, asm_fault, IsTableRefusal, table_long, table_fault, IsMachine, built_in, of_table, IsTaken, IsCodeRefusal, IsRunRefusal, by_table, by_illness, by_code, IsRefusal, by_words, by_assembly, by_run}
use Rattle.mca_run.specs.Steps.{TellsName}
use Rattle.mca_run.specs.Report.{IsRunReport, IsFilesReport, IsReport, of_files, of_load}
use Rattle.mca_run.proofs.OneMachine.{built_in_tuned, table_tuned, code_refusal_same, code_refusal_taken}
use Rattle.mca_run.proofs.OneReport.{whole_same, load_report_same}
use Rattle.mca_run.specs.declared.machine.BuiltIn.{BuiltIn}
use Rattle.mca_run.specs.declared.status.MachineRefusal.TheVariants as machine
use Rattle.mca_run.specs.declared.status.Status.{Status}
use Rattle.mca_run.specs.declared.status.Status.TheVariants.{Words, Assembly, Table, Machine}

-- a content that has P is there
pub content_there : (told : List ℕ → Told) (contents : Contents) (name : List ℕ) (P : List ℕ → Type 0) → TellsName told contents name → IfContent (told name) P → (text : List ℕ) × (contents name ≡ Some text) × P text
content_there told contents name P tells h = go (contents name) (subst (λ t. IfContent t P) tells h)
  where
    go : (o : Option (List ℕ)) → IfContent (Some o) P → (text : List ℕ) × (o ≡ Some text) × P text
    go None bad = absurd bad
    go (Some text) p = (text, refl, p)

pub none_is_some : {A : Type 0} (o : Option A) (x : A) → o ≡ None → o ≡ Some x → ⊥
none_is_some o x p q = let both : ◌≡◌ {A = Option _} None (Some x) = sym p ∙ q in cc

some_same : {A : Type 0} (x y : A) → ◌≡◌ {A = Option A} (Some x) (Some y) → x ≡ y
some_same x y e = cc

-- the content of a name is one text
text_same : (o : Option (List ℕ)) (s t : List ℕ) → o ≡ Some s → o ≡ Some t → s ≡ t
text_same o s t p q = some_same s t (sym p ∙ q)

short_or_long : (o : Option (List ℕ)) (s t : List ℕ) → o ≡ Some s → o ≡ Some t → length s ≤ MOST_TEXT_BYTES → MOST_TEXT_BYTES < length t → ⊥
short_or_long o s t p q short long = omega (arith, ap length (text_same o s t p q), short, long)

-- Words

pub asked_same : (words : List (List ℕ)) (a b : Options) → IsAsked words a → IsAsked words b → a ≡ b
asked_same words a b p q = let both : ◌≡◌ {A = Result Options WordFault} (Ok a) (Ok b) = sym p.options ∙ q.options in cc

fault_no_options : (words : List (List ℕ)) (f : WordFault) (o : Options) → answer_of words ≡ Err f → answer_of words ≡ Ok o → ⊥
fault_no_options words f o p q = let both : ◌≡◌ {A = Result Options WordFault} (Err f) (Ok o) = sym p ∙ q in cc

-- words that are refused ask for nothing
pub word_fault_asked : (words : List (List ℕ)) (f : WordFault) (o : Options) → IsWordFault words f → IsAsked words o → ⊥
word_fault_asked words f o p q = fault_no_options words f o p q.options

pub load_not_files : (words : List (List ℕ)) (o : Options) (seed : ℕ) → IsAsked words o → IsLoadAsked words seed → ⊥
load_not_files words o seed p q =
    let both : ◌≡◌ {A = Result Options WordFault} (Ok o) (Ok q.options) = sym p.options ∙ q.answer in
    let same : o ≡ q.options = cc in
    let load : None ≡ Some seed = sym p.of_files ∙ ap (λ x. x.load) same ∙ q.load in
    cc

pub word_fault_load : (words : List (List ℕ)) (f : WordFault) (seed : ℕ) → IsWordFault words f → IsLoadAsked words seed → ⊥
word_fault_load words f seed p q = fault_no_options words f q.options p q.answer

pub load_same : (words : List (List ℕ)) (seed other : ℕ) → IsLoadAsked words seed → IsLoadAsked words other → seed ≡ other
load_same words seed other p q =
    let both : ◌≡◌ {A = Result Options WordFault} (Ok p.options) (Ok q.options) = sym p.answer ∙ q.answer in
    let same : p.options ≡ q.options = cc in
    let load : Some seed ≡ Some other = sym p.load ∙ ap (λ x. x.load) same ∙ q.load in
    cc

pub word_fault_same : (words : List (List ℕ)) (f g : WordFault) → IsWordFault words f → IsWordFault words g → f ≡ g
word_fault_same words f g p q = let both : ◌≡◌ {A = Result Options WordFault} (Err f) (Err g) = sym p ∙ q in cc

-- The assembly

marks_same : (r s : AsmRefusal) → ◌≡◌ {A = Result (List Region) AsmRefusal} (Err r) (Err s) → r ≡ s
marks_same r s e = cc

marks_not_both : (r : AsmRefusal) (regions : List Region) → ◌≡◌ {A = Result (List Region) AsmRefusal} (Err r) (Ok regions) → ⊥
marks_not_both r regions e = cc

regions_same : (a b : List Region) → ◌≡◌ {A = Result (List Region) AsmRefusal} (Ok a) (Ok b) → a ≡ b
regions_same a b e = cc

fault_same : (text : List ℕ) (r s : AsmRefusal) → IsTextFault text r → IsTextFault text s → r ≡ s
fault_same text r s (own p) (own q) = one_fault text r s p q
fault_same text r s (own p) (of_marks items names q e) = absurd (asm_not_both text items names r q p)
fault_same text r s (of_marks items names p e) (own q) = absurd (asm_not_both text items names s p q)
fault_same text r s (of_marks a m p e) (of_marks b n q f) = marks_same r s (sym e ∙ ap regions_of (one_items text a b m n p q) ∙ f)

fault_no_program : (text : List ℕ) (r : AsmRefusal) (items : List Item) (names : List (List ℕ)) (regions : List Region) → IsTextFault text r → IsProgram text items names → regions_of items ≡ Ok regions → ⊥
fault_no_program text r items names regions (own p) program cut = asm_not_both text items names r program p
fault_no_program text r items names regions (of_marks a m p e) program cut = marks_not_both r regions (sym e ∙ ap regions_of (one_items text a items m names p program) ∙ cut)

program_same : (a b : Program) (i j : List Item) → i ≡ j → a.names ≡ b.names → a.code ≡ code_of i → b.code ≡ code_of j → regions_of i ≡ Ok a.regions → regions_of j ≡ Ok b.regions → a ≡ b
program_same a b i j same names a_code b_code a_cut b_cut =
    let code : a.code ≡ b.code = a_code ∙ ap code_of same ∙ sym b_code in
    let regions : a.regions ≡ b.regions = regions_same a.regions b.regions (sym a_cut ∙ ap regions_of same ∙ b_cut) in
    λ k. record { code = code k; regions = regions k; names = names k }

pub input_same : (contents : Contents) (o : Options) (a b : Program) → IsInput contents o a → IsInput contents o b → a ≡ b
input_same contents o a b p q =
    let other : IsProgram p.text q.items b.names = subst (λ t. IsProgram t q.items b.names) (text_same (contents o.input) q.text p.text q.there p.there) q.program in
    program_same a b p.items q.items (one_items p.text p.items q.items a.names b.names p.program other) (one_names p.text p.items q.items a.names b.names p.program other) p.code q.code p.regions q.regions

asm_same : (contents : Contents) (o : Options) (s t : Status) → IsAsmRefusal contents o s → IsAsmRefusal contents o t → s ≡ t
asm_same contents o s t (asm_long x p l e) (asm_long y q m f) = e ∙ sym f
asm_same contents o s t (asm_long x p l e) (asm_fault y r q m h f) = absurd (short_or_long (contents o.input) y x q p m l)
asm_same contents o s t (asm_fault x r p l h e) (asm_long y q m f) = absurd (short_or_long (contents o.input) x y p q l m)
asm_same contents o s t (asm_fault x r p l h e) (asm_fault y z q m i f) =
    e ∙ ap Assembly (fault_same x r z h (subst (λ u. IsTextFault u z) (text_same (contents o.input) y x q p) i)) ∙ sym f

pub asm_no_input : (contents : Contents) (o : Options) (s : Status) (a : Program) → IsAsmRefusal contents o s → IsInput contents o a → ⊥
asm_no_input contents o s a (asm_long x p l e) q = short_or_long (contents o.input) q.text x q.there p q.short l
asm_no_input contents o s a (asm_fault x r p l h e) q = fault_no_program q.text r q.items a.names a.regions (subst (λ u. IsTextFault u r) (text_same (contents o.input) x q.text p q.there) h) q.program q.regions

pub asm_there : (contents : Contents) (o : Options) (s : Status) → IsAsmRefusal contents o s → contents o.input ≡ None → ⊥
asm_there contents o s (asm_long x p l e) none = none_is_some (contents o.input) x none p
asm_there contents o s (asm_fault x r p l h e) none = none_is_some (contents o.input) x none p

-- The table

table_fault_same : (text : List ℕ) (f g : TableRefusal) → HasFault text f → HasFault text g → f ≡ g
table_fault_same text f g h i = let same = one h i in cc

table_one : (text : List ℕ) (a b : List Record) → HasRecords text a → HasRecords text b → a ≡ b
table_one text a b h i = let same = one h i in cc

table_not_both : (text : List ℕ) (a : List Record) (f : TableRefusal) → HasRecords text a → HasFault text f → ⊥
table_not_both text a f h g = let same = one h g in cc

table_same : (contents : Contents) (o : Options) (s t : Status) → IsTableRefusal contents o s → IsTableRefusal contents o t → s ≡ t
table_same contents o s t (table_long x p l e) (table_long y q m f) = e ∙ sym f
table_same contents o s t (table_long x p l e) (table_fault y r q m h f) = absurd (short_or_long (contents o.table) y x q p m l)
table_same contents o s t (table_fault x r p l h e) (table_long y q m f) = absurd (short_or_long (contents o.table) x y p q l m)
table_same contents o s t (table_fault x r p l h e) (table_fault y z q m i f) =
    e ∙ ap Table (table_fault_same x r z h (subst (λ u. HasFault u z) (text_same (contents o.table) y x q p) i)) ∙ sym f

pub table_no_records : (contents : Contents) (o : Options) (s : Status) (records : List Record) → IsTableRefusal contents o s → IsTable contents o records → ⊥
table_no_records contents o s records (table_long x p l e) q = short_or_long (contents o.table) q.text x q.there p q.short l
table_no_records contents o s records (table_fault x r p l h e) q = table_not_both q.text records r q.has (subst (λ u. HasFault u r) (text_same (contents o.table) x q.text p q.there) h)

pub table_there : (contents : Contents) (o : Options) (s : Status) → IsTableRefusal contents o s → contents o.table ≡ None → ⊥
table_there contents o s (table_long x p l e) none = none_is_some (contents o.table) x none p
table_there contents o s (table_fault x r p l h e) none = none_is_some (contents o.table) x none p

records_same : (contents : Contents) (o : Options) (a b : List Record) → IsTable contents o a → IsTable contents o b → a ≡ b
records_same contents o a b p q = table_one p.text a b p.has (subst (λ t. HasRecords t b) (text_same (contents o.table) q.text p.text q.there p.there) q.has)

-- The machine

-- a table that is named where a built-in machine is
named_once : (o : Options) (b : BuiltIn) → fixed_of o ≡ None → fixed_of o ≡ Some b → ⊥
named_once o b none some = none_is_some (fixed_of o) b none some

pub machine_same : (contents : Contents) (o : Options) (m n : MachineMeaning) → IsMachine contents o m → IsMachine contents o n → m ≡ n
machine_same contents o m n (built_in b t p k e) (built_in c u q l d) = e ∙ built_in_tuned b o t u k l ∙ ap (λ x. built_in_meaning x u) (some_same b c (sym p ∙ q)) ∙ sym d
machine_same contents o m n (built_in b t p k e) (of_table rs u q l h j d) = absurd (named_once o b q p)
machine_same contents o m n (of_table rs t p k h j e) (built_in c u q l d) = absurd (named_once o c p q)
machine_same contents o m n (of_table rs t p k h j e) (of_table ss u q l i z d) = e ∙ table_tuned (entries_of rs) (all_defaults rs) o t u j z
    ∙ ap (λ x. machine_of (entries_of x) (all_defaults x) u) (records_same contents o rs ss k l) ∙ sym d

-- a machine of a table has the table there
pub machine_there : (contents : Contents) (o : Options) (m : MachineMeaning) → IsMachine contents o m → fixed_of o ≡ None → contents o.table ≡ None → ⊥
machine_there contents o m (built_in b t p k e) none absent = named_once o b none p
machine_there contents o m (of_table rs t p k h j e) none absent = none_is_some (contents o.table) k.text absent k.there

-- a table that is refused is no machine
pub table_no_machine : (contents : Contents) (o : Options) (s : Status) (m : MachineMeaning) → fixed_of o ≡ None → IsTableRefusal contents o s → IsMachine contents o m → ⊥
table_no_machine contents o s m none r (built_in b t p k e) = named_once o b none p
table_no_machine contents o s m none r (of_table rs t p k h j e) = table_no_records contents o s rs r k

illness_same : (contents : Contents) (o : Options) (a b : List Record) (i : Option TableIllness) → IsTable contents o a → IsTable contents o b → illness_of (entries_of b) ≡ i → illness_of (entries_of a) ≡ i
illness_same contents o a b i p q e = ap (λ x. illness_of (entries_of x)) (records_same contents o a b p q) ∙ e

pub ill_no_machine : (contents : Contents) (o : Options) (records : List Record) (f : TableIllness) (m : MachineMeaning) → fixed_of o ≡ None → IsTable contents o records → illness_of (entries_of records) ≡ Some f → IsMachine contents o m → ⊥
ill_no_machine contents o records f m none table ill (built_in b t p k e) = named_once o b none p
ill_no_machine contents o records f m none table ill (of_table rs t p k h j e) = none_is_some (illness_of (entries_of records)) f (illness_same contents o records rs None table k h) ill

-- What the machine or its run is refused with

run_same : (contents : Contents) (o : Options) (a : Program) (s t : Status) → IsRunRefusal contents o a s → IsRunRefusal contents o a t → s ≡ t
run_same contents o a s t (by_table p r) (by_table q h) = table_same contents o s t r h
run_same contents o a s t (by_table p r) (by_illness rs f q k i e) = absurd (table_no_records contents o s rs r k)
run_same contents o a s t (by_table p r) (by_code m k h) = absurd (table_no_machine contents o s m p r k)
run_same contents o a s t (by_illness rs f p k i e) (by_table q h) = absurd (table_no_records contents o t rs h k)
run_same contents o a s t (by_illness rs f p k i e) (by_illness ss g q l j d) =
    e ∙ ap (λ x. Machine (machine.Record x.number x.kind)) (some_same f g (sym i ∙ illness_same contents o rs ss (Some g) k l j)) ∙ sym d
run_same contents o a s t (by_illness rs f p k i e) (by_code m l h) = absurd (ill_no_machine contents o rs f m p k i l)
run_same contents o a s t (by_code m k h) (by_table q r) = absurd (table_no_machine contents o t m q r k)
run_same contents o a s t (by_code m k h) (by_illness ss g q l j d) = absurd (ill_no_machine contents o ss g m q l j k)
run_same contents o a s t (by_code m k h) (by_code n l j) =
    code_refusal_same m o a s t h (subst (λ x. IsCodeRefusal x o a t) (machine_same contents o n m l k) j)

run_taken : (contents : Contents) (o : Options) (a : Program) (s : Status) (m : MachineMeaning) → IsRunRefusal contents o a s → IsMachine contents o m → IsTaken m a (iterations_of o)
    → ((report : List ℕ) → IsWholeReport m o a report → length report ≤ MOST_REPORT_BYTES) → ⊥
run_taken contents o a s m (by_table p r) k taken short = table_no_machine contents o s m p r k
run_taken contents o a s m (by_illness rs f p l i e) k taken short = ill_no_machine contents o rs f m p l i k
run_taken contents o a s m (by_code n l h) k taken short =
    code_refusal_taken m o a s (subst (λ x. IsCodeRefusal x o a s) (machine_same contents o n m l k) h) taken short

run_there : (contents : Contents) (o : Options) (a : Program) (s : Status) → IsRunRefusal contents o a s → fixed_of o ≡ None → contents o.table ≡ None → ⊥
run_there contents o a s (by_table p r) none absent = table_there contents o s r absent
run_there contents o a s (by_illness rs f p k i e) none absent = none_is_some (contents o.table) k.text absent k.there
run_there contents o a s (by_code m k h) none absent = machine_there contents o m k none absent

-- The report

run_report_same : (contents : Contents) (o : Options) (p : Program) (a b : List ℕ) → IsRunReport contents o p a → IsRunReport contents o p b → a ≡ b
run_report_same contents o p a b x y =
    whole_same x.machine o p a b x.by.whole (subst (λ m. IsWholeReport m o p b) (machine_same contents o y.machine x.machine y.named x.named) y.by.whole)

files_report_same : (words : List (List ℕ)) (contents : Contents) (a b : List ℕ) → IsFilesReport words contents a → IsFilesReport words contents b → a ≡ b
files_report_same words contents a b p q =
    let options : q.options ≡ p.options = asked_same words q.options p.options q.asked p.asked in
    let program : q.program ≡ p.program = input_same contents p.options q.program p.program (subst (λ o. IsInput contents o q.program) options q.input) p.input in
    let run : IsRunReport contents p.options p.program b =
    subst (λ o. IsRunReport contents o p.program b) options
    (subst (λ i. IsRunReport contents q.options i b) program q.run) in
    run_report_same contents p.options p.program a b p.run run

pub report_same : (words : List (List ℕ)) (contents : Contents) (a b : List ℕ) → IsReport words contents a → IsReport words contents b → a ≡ b
report_same words contents a b (of_files p) (of_files q) = files_report_same words contents a b p q
report_same words contents a b (of_files p) (of_load seed asked q) = absurd (load_not_files words p.options seed p.asked asked)
report_same words contents a b (of_load seed asked p) (of_files q) = absurd (load_not_files words q.options seed q.asked asked)
report_same words contents a b (of_load seed asked p) (of_load other again q) = load_report_same seed a b p (subst (λ n. IsLoadReport n b) (load_same words other seed again asked) q)

-- the program that a number gives is not refused
pub refusal_load : (words : List (List ℕ)) (contents : Contents) (s : Status) (seed : ℕ) → IsRefusal words contents s → IsLoadAsked words seed → ⊥
refusal_load words contents s seed (by_words f h e) asked = word_fault_load words f seed h asked
refusal_load words contents s seed (by_assembly o files r) asked = load_not_files words o seed files asked
refusal_load words contents s seed (by_run o p files i r) asked = load_not_files words o seed files asked

-- Refusals

-- the same options and program, for another refusal
pub input_along : (words : List (List ℕ)) (contents : Contents) (o x : Options) (a : Program) → IsAsked words o → IsAsked words x → IsInput contents x a → IsInput contents o a
input_along words contents o x a p q h = subst (λ y. IsInput contents y a) (asked_same words x o q p) h

asm_along : (words : List (List ℕ)) (contents : Contents) (o a : Options) (s : Status) → IsAsked words o → IsAsked words a → IsAsmRefusal contents a s → IsAsmRefusal contents o s
asm_along words contents o a s p q h = subst (λ x. IsAsmRefusal contents x s) (asked_same words a o q p) h

run_along : (words : List (List ℕ)) (contents : Contents) (o x : Options) (a b : Program) (s : Status) → IsAsked words o → IsAsked words x → IsInput contents o a → IsInput contents x b
    → IsRunRefusal contents x b s → IsRunRefusal contents o a s
run_along words contents o x a b s p q i j h =
    subst (λ y. IsRunRefusal contents o y s) (input_same contents o b a (input_along words contents o x b p q j) i)
    (subst (λ y. IsRunRefusal contents y b s) (asked_same words x o q p) h)

pub refusal_same : (words : List (List ℕ)) (contents : Contents) (s t : Status) → IsRefusal words contents s → IsRefusal words contents t → s ≡ t
refusal_same words contents s t (by_words f p e) (by_words g q d) = e ∙ ap Words (word_fault_same words f g p q) ∙ sym d
refusal_same words contents s t (by_words f p e) (by_assembly o a r) = absurd (word_fault_asked words f o p a)
refusal_same words contents s t (by_words f h e) (by_run o p a i r) = absurd (word_fault_asked words f o h a)
refusal_same words contents s t (by_assembly o a r) (by_words f p e) = absurd (word_fault_asked words f o p a)
refusal_same words contents s t (by_assembly o a r) (by_assembly x b q) = asm_same contents o s t r (asm_along words contents o x t a b q)
refusal_same words contents s t (by_assembly o a r) (by_run x p b i q) = absurd (asm_no_input contents o s p r (input_along words contents o x p a b i))
refusal_same words contents s t (by_run o p a i r) (by_words f h e) = absurd (word_fault_asked words f o h a)
refusal_same words contents s t (by_run o p a i r) (by_assembly x b q) = absurd (asm_no_input contents o t p (asm_along words contents o x t a b q) i)
refusal_same words contents s t (by_run o p a i r) (by_run x q b j h) = run_same contents o p s t r (run_along words contents o x p q t a b i j h)

-- what is refused has no assembly and machine that takes it
pub refusal_accepted : (words : List (List ℕ)) (contents : Contents) (s : Status) (o : Options) (p : Program) (m : MachineMeaning) → IsRefusal words contents s → IsAsked words o → IsInput contents o p → IsMachine contents o m
    → IsTaken m p (iterations_of o) → ((report : List ℕ) → IsWholeReport m o p report → length report ≤ MOST_REPORT_BYTES) → ⊥
refusal_accepted words contents s o p m (by_words f h e) a i k taken short = word_fault_asked words f o h a
refusal_accepted words contents s o p m (by_assembly x b r) a i k taken short = asm_no_input contents o s p (asm_along words contents o x s a b r) i
refusal_accepted words contents s o p m (by_run x q b j r) a i k taken short = run_taken contents o p s m (run_along words contents o x p q s a b i j r) k taken short

files_not_both : (words : List (List ℕ)) (contents : Contents) (s : Status) (a : List ℕ) → IsRefusal words contents s → IsFilesReport words contents a → ⊥
files_not_both words contents s a p q = refusal_accepted words contents s q.options q.program q.run.machine p q.asked q.input q.run.named q.run.by.taken
    (λ report whole. subst (λ r. length r ≤ MOST_REPORT_BYTES) (whole_same q.run.machine q.options q.program a report q.run.by.whole whole) q.run.by.short)

pub not_both : (words : List (List ℕ)) (contents : Contents) (s : Status) (a : List ℕ) → IsRefusal words contents s → IsReport words contents a → ⊥
not_both words contents s a p (of_files q) = files_not_both words contents s a p q
not_both words contents s a p (of_load seed asked q) = refusal_load words contents s seed p asked

-- what is refused has the assembly there, and past it the table that is named
pub refusal_assembly : (words : List (List ℕ)) (contents : Contents) (s : Status) (o : Options) → IsRefusal words contents s → IsAsked words o → contents o.input ≡ None → ⊥
refusal_assembly words contents s o (by_words f p e) a none = word_fault_asked words f o p a
refusal_assembly words contents s o (by_assembly x b r) a none = asm_there contents o s (asm_along words contents o x s a b r) none
refusal_assembly words contents s o (by_run x p b j r) a none = none_is_some (contents o.input) _ none (input_along words contents o x p a b j).there

pub refusal_table : (words : List (List ℕ)) (contents : Contents) (s : Status) (o : Options) (p : Program) → IsRefusal words contents s → IsAsked words o → IsInput contents o p → fixed_of o ≡ None → contents o.table ≡ None → ⊥
refusal_table words contents s o p (by_words f h e) a i none absent = word_fault_asked words f o h a
refusal_table words contents s o p (by_assembly x b r) a i none absent = asm_no_input contents o s p (asm_along words contents o x s a b r) i
refusal_table words contents s o p (by_run x q b j r) a i none absent = run_there contents o p s (run_along words contents o x p q s a b i j r) none absent
