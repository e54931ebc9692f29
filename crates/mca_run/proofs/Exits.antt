-- Why the work on a call has no report, at each of its exits.
use Rattle.std.proofs.Common.{◌≡◌, ℕ, ◌+◌, ◌≤◌, inl, inr, List, Some, None, Ok, Err, sym, ◌∙◌, ap, subst, arith, refl}
use Rattle.std.specs.Prelude.{IfOk, IfErr}
use Rattle.std.specs.declared.option.Option.{Option}
use Rattle.std.specs.declared.result.Result.{Result}
use Rattle.mca_io.specs.Devices.{Rose, Told}
use Rattle.mca_words.specs.Answer.{answer_of}
use Rattle.mca_words.specs.declared.fault.WordFault.{WordFault}
use Rattle.mca_words.specs.declared.options.Options.{Options}
use Rattle.mca_run.specs.Asked.{IsWordFault, IsAsked, IsLoadAsked, iterations_of}
use Rattle.mca_run.specs.Turns.{program_turns, StepsRiseBy, LoadStepsRise, StepsRise}
use Rattle.mca_run.specs.declared.program.Program.{Program}
use Rattle.mca_run.specs.Machines.{fixed_of}
use Rattle.mca_run.specs.Report.{IsRunReport, IsReport, of_files}
use Rattle.mca_run.specs.Refusal.{Contents, TellsFiles, WhereTold, IsInput, IsMachine, IsAsmRefusal, IsRunRefusal, IsRefusal, by_words, by_assembly, by_run, IfRefused}
use Rattle.mca_run.specs.Steps.{TellsName, TellsTable, MayRefuseWords, IsOfFiles, IsStopped}
use Rattle.mca_run.specs.Outcome.{NamedFault, NamedInOrder}
use Rattle.mca_run.specs.declared.status.Status.{Status}
use Rattle.mca_run.specs.declared.status.Status.TheVariants.{Done, Words, Assembly, Table, Machine, Limit, ReadFault, WriteFault, Memory}
use Rattle.mca_run.proofs.Causes.{word_fault_asked, load_not_files, load_same, word_fault_same, asked_same, input_same, input_along}
use Rattle.mca_run.proofs.Refused.{refused_along}

words_not_read : (fault : WordFault) → Words fault ≡ ReadFault → ⊥
words_not_read fault e = cc

memory_not_read : Memory ≡ ReadFault → ⊥
memory_not_read e = cc

memory_not_words : (fault : WordFault) → Memory ≡ Words fault → ⊥
memory_not_words fault e = cc

-- there was no memory
pub memory_stopped : (words : List (List ℕ)) (told : List ℕ → Told) (before after : List ℕ → ℕ) (s : Status) → s ≡ Memory → IsStopped words told before after s
memory_stopped words told before after s is = subst (IsStopped words told before after) (sym is) (record {
  refused = λ files tells. tt;
  of_words = λ fault e. absurd (memory_not_words fault e);
  words_first = λ fault h. inr refl;
  fault = λ e. absurd (memory_not_read e);
  in_order = λ files tells e. absurd (memory_not_read e);
})

-- the words were refused
pub words_stopped : (words : List (List ℕ)) (told : List ℕ → Told) (before after : List ℕ → ℕ) (s : Status) → MayRefuseWords words s → IsStopped words told before after s
words_stopped words told before after Done may = absurd may
words_stopped words told before after (Words fault) may = record {
  refused = λ files tells. by_words fault may refl;
  of_words = λ other e. subst (MayRefuseWords words) e may;
  words_first = λ other h. inl (ap Words (word_fault_same words fault other may h));
  fault = λ e. absurd (words_not_read fault e);
  in_order = λ files tells e. absurd (words_not_read fault e);
}
words_stopped words told before after (Assembly refusal) may = absurd may
words_stopped words told before after (Table refusal) may = absurd may
words_stopped words told before after (Machine refusal) may = absurd may
words_stopped words told before after (Limit kind n) may = absurd may
words_stopped words told before after ReadFault may = absurd may
words_stopped words told before after WriteFault may = absurd may
words_stopped words told before after Memory may = memory_stopped words told before after Memory refl

of_files_not_words : (s : Status) (fault : WordFault) → IsOfFiles s → s ≡ Words fault → ⊥
of_files_not_words s fault of e = subst IsOfFiles e of

-- the assembly's count rose
input_fault : (words : List (List ℕ)) (o : Options) (before after : List ℕ → ℕ) → IsAsked words o → Rose (before o.input) (after o.input) → NamedFault words before after
input_fault words o before after asked rose = record { options = o; asked = asked; rose = inl rose }

input_in_order : (words : List (List ℕ)) (contents : Contents) (o : Options) (before after : List ℕ → ℕ) → IsAsked words o → Rose (before o.input) (after o.input) → NamedInOrder words contents before after
input_in_order words contents o before after asked rose = record { options = o; asked = asked; rose = inl rose }

-- the assembly was refused, or not read
pub input_stopped : (words : List (List ℕ)) (told : List ℕ → Told) (before after : List ℕ → ℕ) (o : Options) (s : Status) → IsAsked words o
    → ((contents : Contents) → TellsName told contents o.input → IfRefused (IsAsmRefusal contents o) s) → IsOfFiles s → (s ≡ ReadFault → Rose (before o.input) (after o.input)) → IsStopped words told before after s
input_stopped words told before after o s asked err of fault = record {
  refused = λ files tells. refused_along (IsAsmRefusal files o) (IsRefusal words files) (λ t refusal. by_assembly o asked refusal) s (err files (tells o asked).input);
  of_words = λ f e. absurd (of_files_not_words s f of e);
  words_first = λ f h. absurd (word_fault_asked words f o h asked);
  fault = λ e. input_fault words o before after asked (fault e);
  in_order = λ files tells e. input_in_order words files o before after asked (fault e);
}

rose_later : (a b c : ℕ) → a ≤ b → Rose b c → Rose a c
rose_later a b c later rose = omega (arith, later, rose)

-- the table's count rose, after the assembly was read
table_fault : (words : List (List ℕ)) (o : Options) (before between after : List ℕ → ℕ) → IsAsked words o → ((n : List ℕ) → before n ≤ between n) → fixed_of o ≡ None → Rose (between o.table) (after o.table) → NamedFault words before after
table_fault words o before between after asked later none rose = record { options = o; asked = asked; rose = inr (none, rose_later (before o.table) (between o.table) (after o.table) (later o.table) rose) }

table_in_order : (words : List (List ℕ)) (contents : Contents) (o : Options) (p : Program) (before between after : List ℕ → ℕ) → IsAsked words o → IsInput contents o p → ((n : List ℕ) → before n ≤ between n)
    → fixed_of o ≡ None → Rose (between o.table) (after o.table) → NamedInOrder words contents before after
table_in_order words contents o p before between after asked input later none rose =
    record { options = o; asked = asked; rose = inr (p, input, none, rose_later (before o.table) (between o.table) (after o.table) (later o.table) rose) }

-- what the shelf tells of the table is what it told at first
table_told : (before between : List ℕ → Told) (o : Options) (contents : Contents) → TellsFiles o before contents → ((n : List ℕ) → between n ≡ before n) → TellsTable between contents o
table_told before between o contents tells told = λ none. told o.table ∙ tells.table none

-- the program was reported
pub run_reported : {T E : Type 0} (bytes : T → List ℕ) (words : List (List ℕ)) (before between : List ℕ → Told) (o : Options) (p : Program) (r : Result T E) → IsAsked words o
    → ((contents : Contents) → TellsName before contents o.input → IsInput contents o p) → ((n : List ℕ) → between n ≡ before n)
    → IfOk r (λ x. (contents : Contents) → TellsTable between contents o → IsRunReport contents o p (bytes x)) → IfOk r (λ x. WhereTold words before (λ files. IsReport words files (bytes x)))
run_reported bytes words before between o p (Ok x) asked input told h = λ contents tells. of_files (record {
  options = o;
  asked = asked;
  program = p;
  input = input contents (tells o asked).input;
  run = h contents (table_told before between o contents (tells o asked) told);
})
run_reported bytes words before between o p (Err e) asked input told h = tt

-- or refused, or the table was not read
pub run_stopped : {T E : Type 0} (status : E → Status) (words : List (List ℕ)) (told middle : List ℕ → Told) (before between after : List ℕ → ℕ) (o : Options) (p : Program) (r : Result T E) → IsAsked words o
    → ((contents : Contents) → TellsName told contents o.input → IsInput contents o p) → ((n : List ℕ) → middle n ≡ told n) → ((n : List ℕ) → before n ≤ between n)
    → IfErr r (λ e. (contents : Contents) → TellsTable middle contents o → IfRefused (IsRunRefusal contents o p) (status e)) → IfErr r (λ e. IsOfFiles (status e))
    → IfErr r (λ e. status e ≡ ReadFault → fixed_of o ≡ None) → IfErr r (λ e. status e ≡ ReadFault → Rose (between o.table) (after o.table)) → IfErr r (λ e. IsStopped words told before after (status e))
run_stopped status words told middle before between after o p (Ok x) asked input same later err of none fault = tt
run_stopped status words told middle before between after o p (Err e) asked input same later err of none fault = record {
  refused = λ files tells. refused_along (IsRunRefusal files o p) (IsRefusal words files) (λ t refusal. by_run o p asked (input files (tells o asked).input) refusal) (status e)
      (err files (table_told told middle o files (tells o asked) same));
  of_words = λ f w. absurd (of_files_not_words (status e) f of w);
  words_first = λ f h. absurd (word_fault_asked words f o h asked);
  fault = λ w. table_fault words o before between after asked later (none w) (fault w);
  in_order = λ files tells w. table_in_order words files o p before between after asked (input files (tells o asked).input) later (none w) (fault w);
}

-- the steps of the program's run are those of the call
pub run_steps : (words : List (List ℕ)) (before between : List ℕ → Told) (o : Options) (p : Program) (from to : ℕ) → IsAsked words o
    → ((contents : Contents) → TellsName before contents o.input → IsInput contents o p) → ((n : List ℕ) → between n ≡ before n)
    → ((contents : Contents) → TellsTable between contents o → StepsRiseBy contents o p from to) → WhereTold words before (λ files. StepsRise words files from to)
run_steps words before between o p from to asked input told h = λ files tells.
    (let rise = h files (table_told before between o files (tells o asked) told) in
    record {
      some = λ x q m set_up. (let program : p ≡ q = input_same files o p q (input files (tells o asked).input) (input_along words files o x q asked set_up.asked set_up.input) in
          subst (λ y. to ≤ from + program_turns m (iterations_of y) q) (asked_same words o x asked set_up.asked)
          (subst (λ y. to ≤ from + program_turns m (iterations_of o) y) program
          (rise.some m (subst (λ y. IsMachine files y m) (asked_same words x o set_up.asked asked) set_up.machine))));
      load = λ seed loads. absurd (load_not_files words o seed asked loads);
      none = λ absent loads. rise.none (λ m is. absent o p m (record { asked = asked; input = input files (tells o asked).input; machine = is }));
    })

-- a call without a run takes no steps
pub no_steps : (words : List (List ℕ)) (told : List ℕ → Told) (from to : ℕ) → to ≡ from → WhereTold words told (λ files. StepsRise words files from to)
no_steps words told from to same = λ files tells. record { some = λ o p m set_up. omega (arith, same); load = λ seed loads t tuned. omega (arith, same); none = λ absent loads. same }

-- options without a number ask for the report on files, and those with one for the report on its program
not_some : (load : Option ℕ) → ((seed : ℕ) → load ≡ Some seed → ⊥) → load ≡ None
not_some None none = refl
not_some (Some seed) none = absurd (none seed refl)

pub asked_files : (words : List (List ℕ)) (o : Options) → answer_of words ≡ Ok o → ((seed : ℕ) → o.load ≡ Some seed → ⊥) → IsAsked words o
asked_files words o answer none = record { options = answer; of_files = not_some o.load none }

pub asked_load : (words : List (List ℕ)) (o : Options) (seed : ℕ) → answer_of words ≡ Ok o → o.load ≡ Some seed → IsLoadAsked words seed
asked_load words o seed answer load = record { options = o; answer = answer; load = load }

-- the steps of the run of the program that a number gives
pub load_steps : (words : List (List ℕ)) (told : List ℕ → Told) (from to seed : ℕ) → IsLoadAsked words seed → LoadStepsRise seed from to → WhereTold words told (λ files. StepsRise words files from to)
load_steps words told from to seed loads rise = λ files tells. record {
  some = λ o p m set_up. absurd (load_not_files words o seed set_up.asked loads);
  load = λ other asked. subst (λ n. LoadStepsRise n from to) (load_same words seed other loads asked) rise;
  none = λ absent none. absurd (none seed loads);
}

-- words that ask for something have no fault
pub asked_right : (words : List (List ℕ)) (o : Options) → IsAsked words o → (fault : WordFault) → IsWordFault words fault → ⊥
asked_right words o asked fault h = word_fault_asked words fault o h asked
