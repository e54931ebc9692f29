-- What the steps of a machine answer, in the words of the contents.
use Rattle.std.proofs.Common.{◌≡◌, ℕ, ◌+◌, ◌-◌, ◌*◌, ◌<◌, ◌≤◌, ◌⊎◌, inl, inr, List, [], ◌∷◌, ◌++◌, min, drop, length, None, Some, Ok, Err, true, false, nat_eq, sym, ◌∙◌, ap, subst, refl, arith}
use Rattle.std.specs.Prelude.{IfOk, IfErr, OnOk, if◌then◌else◌}
use Rattle.std.specs.declared.result.Result.{Result}
use Rattle.std.specs.List.{All}
use Rattle.std.proofs.Math.Seq.{get_or-append_seam}
use Rattle.std.proofs.Math.ListN.{get_or-append}
use Rattle.std.proofs.lemmas.Bool.{cases_eq}
use Rattle.std.proofs.lemmas.List.{length-append, length-take, length-drop}
use Rattle.std.proofs.lemmas.List.Elements.{All-take, All-drop}
use Rattle.std.proofs.lemmas.Bool.Decides.{nat_tests}
use Rattle.cycle_rules.specs.declared.bound.Bound.{Bound}
use Rattle.cycle_rules.specs.Bind.{IsBoundBody}
use Rattle.machine_model.specs.Meaning.{MachineMeaning}
use Rattle.rv_asm.specs.Spellable.{IsSpellable}
use Rattle.rv_isa.specs.Instruction.{is_lawful}
use Rattle.rv_isa.specs.declared.instr.Instr.{Instr}
use Rattle.sched_validate.specs.Bind.{bound_code, Caused}
use Rattle.mca_run.specs.Regions.{no_region, region_at, code_at}
use Rattle.mca_fixed.specs.declared.limits.TheConstants.{MOST_ROWS}
use Rattle.mca_io.specs.Devices.{Told}
use Rattle.mca_words.specs.declared.options.Options.{Options}
use Rattle.mca_views.specs.declared.fault.ViewFault.{ViewFault}
use Rattle.mca_views.specs.declared.fault.ViewFault.TheVariants as no_room
use Rattle.sched_checks.specs.Illness.{illness_of}
use Rattle.sched_checks.specs.declared.illness.IllKind.{IllKind}
use Rattle.sched_checks.specs.declared.illness.IllKind.TheVariants as ill
use Rattle.sched_resolve.specs.Entries.{entries_of}
use Rattle.sched_records.specs.declared.records.Record.{Record}
use Rattle.sched_validate.specs.Validate.{UnlessMemory}
use Rattle.sched_validate.specs.declared.fault.BindFault.{BindFault}
use Rattle.sched_validate.specs.declared.fault.BindFault.TheVariants as bind_fault
use Rattle.mca_run.specs.Asked.{iterations_of}
use Rattle.mca_run.specs.Machines.{fixed_of}
use Rattle.mca_run.specs.Refusal.{Contents, IsTable, IsMachine, IsBound, IsTaken, IsUnbound, IsTooLong, rows_at, IsCodeRefusal, IsTableRefusal, IsRunRefusal, IfRefused, opcode_status, by_opcode, by_size, by_length, by_table, by_illness, by_code}
use Rattle.mca_run.specs.Report.{IsMachineReport, IsRunReport}
use Rattle.mca_run.specs.Steps.{TellsName, TellsTable, MayRefuseCode, MayRefuseRecords, IsOfFiles, IsSound, IsBodyOf, AreBodies, body_at, IsOverAll, ill_status, view_status}
use Rattle.mca_run.specs.Turns.{program_turns, StepsRiseBy}
use Rattle.mca_run.specs.declared.program.Program.{Program}
use Rattle.mca_run.proofs.Causes.{machine_same}
use Rattle.mca_run.proofs.Refused.{refused_along}
use Rattle.mca_run.specs.declared.status.LimitKind.TheVariants.{RunSize}
use Rattle.mca_run.specs.declared.status.MachineRefusal.TheVariants as machine
use Rattle.mca_run.specs.declared.status.Status.{Status}
use Rattle.mca_run.specs.declared.status.Status.TheVariants.{Done, Words, Assembly, Table, Machine, Limit, ReadFault, WriteFault, Memory}

-- an instruction that the machine does not run
opcode_may : (m : MachineMeaning) (o : Options) (p : Program) (k : ℕ) (f : BindFault) → IsUnbound m p k f → MayRefuseCode m o p (opcode_status f)
opcode_may m o p k (bind_fault.NoWriteRes op) h = by_opcode k (bind_fault.NoWriteRes op) h refl
opcode_may m o p k (bind_fault.UnsupportedOp op) h = by_opcode k (bind_fault.UnsupportedOp op) h refl
opcode_may m o p k bind_fault.Memory h = tt

pub binding_may : (m : MachineMeaning) (o : Options) (p : Program) (s : Status) → (s ≡ Memory) ⊎ ((k : ℕ) × (fault : BindFault) × IsUnbound m p k fault × (s ≡ opcode_status fault)) → MayRefuseCode m o p s
binding_may m o p s (inl e) = subst (MayRefuseCode m o p) (sym e) tt
binding_may m o p s (inr (k, fault, h, e)) = subst (MayRefuseCode m o p) (sym e) (opcode_may m o p k fault h)

pub spellable_at : (p : Program) (k : ℕ) → IsSound p → All (IsSpellable p.names) (code_at p k)
spellable_at p k sound = All-take (IsSpellable p.names) (region_at p k).count _ (All-drop (IsSpellable p.names) (region_at p k).first p.code sound.spellable)

lawful_at : (p : Program) (k : ℕ) → IsSound p → All (λ i. is_lawful i ≡ true) (code_at p k)
lawful_at p k sound = λ j d lt. (spellable_at p k sound j d lt).lawful

-- bodies that are there show that all regions are bound
pub bodies_bound : (m : MachineMeaning) (p : Program) (n : ℕ) (bodies : List (List Bound)) → AreBodies m p n bodies → (k : ℕ) → k < n → IsBound m p k
bodies_bound m p n bodies h = λ k within. (body_at bodies k, (h.each k within).exact)

-- the first region that does not bind
pub unbound_exit : (m : MachineMeaning) (p : Program) (k : ℕ) (bodies : List (List Bound)) (code : List Instr) (f : BindFault) (s : Status) → k < length p.regions → AreBodies m p k bodies → code ≡ code_at p k
    → Caused f (bound_code m code ≡ Err f) → s ≡ opcode_status f → (s ≡ Memory) ⊎ ((j : ℕ) × (fault : BindFault) × IsUnbound m p j fault × (s ≡ opcode_status fault))
unbound_exit m p k bodies code (bind_fault.NoWriteRes op) s within h is cause e = inr (k, bind_fault.NoWriteRes op, record { region = within; earlier = bodies_bound m p k bodies h; here = subst (λ c. bound_code m c ≡ Err (bind_fault.NoWriteRes op)) is cause }, e)
unbound_exit m p k bodies code (bind_fault.UnsupportedOp op) s within h is cause e = inr (k, bind_fault.UnsupportedOp op, record { region = within; earlier = bodies_bound m p k bodies h; here = subst (λ c. bound_code m c ≡ Err (bind_fault.UnsupportedOp op)) is cause }, e)
unbound_exit m p k bodies code bind_fault.Memory s within h is cause e = inl e

-- one more body
pub no_bodies : (m : MachineMeaning) (p : Program) (bodies : List (List Bound)) → bodies ≡ [] → AreBodies m p 0 bodies
no_bodies m p bodies none = record { count = ap length none; each = λ j below. absurd (omega (arith, below)) }

pub more_bodies : (m : MachineMeaning) (p : Program) (k : ℕ) (bodies next : List (List Bound)) (body : List Bound) → AreBodies m p k bodies → IsBodyOf m (code_at p k) body → next ≡ bodies ++ body ∷ [] → AreBodies m p (k + 1) next
more_bodies m p k bodies next body h is put = record {
  count = ap length put ∙ length-append bodies (body ∷ []) ∙ ap (λ n. n + 1) h.count;
  each = λ j below. elim (cases_eq j k) [
    | inl here ↦ subst (λ n. IsBodyOf m (code_at p n) (body_at next n)) (sym here)
        (subst (IsBodyOf m (code_at p k)) (sym (ap (λ bs. body_at bs k) put ∙ ap (λ n. body_at (bodies ++ body ∷ []) n) (sym h.count) ∙ get_or-append_seam bodies body [] [])) is)
    | inr other ↦ (let before : j < k = grind (arith, below, other) in
        subst (IsBodyOf m (code_at p j)) (sym (ap (λ bs. body_at bs j) put ∙ get_or-append bodies (body ∷ []) [] j (omega (arith, before, h.count)))) (h.each j before))
  ];
}

pub body_of : (m : MachineMeaning) (p : Program) (k : ℕ) (code : List Instr) (body : List Bound) → IsSound p → code ≡ code_at p k → bound_code m code ≡ Ok body
    → (All (λ i. is_lawful i ≡ true) code → IsBoundBody m body) → length body ≡ length code → IsBodyOf m (code_at p k) body
body_of m p k code body sound is exact right many = subst (λ c. IsBodyOf m c body) is (record { exact = exact; bound = right (subst (All (λ i. is_lawful i ≡ true)) (sym is) (lawful_at p k sound)); many = many })

-- a region has an instruction
pub some_code : (p : Program) (k : ℕ) → IsSound p → k < length p.regions → 0 < length (code_at p k)
some_code p k sound within =
    let size = sound.sizes k no_region within in
    let place : (region_at p k).first + (region_at p k).count ≤ length p.code = sound.within k no_region within in
    let rest : length (drop (region_at p k).first p.code) ≡ length p.code - (region_at p k).first = length-drop (region_at p k).first p.code in
    let own : length (code_at p k) ≡ min (region_at p k).count (length (drop (region_at p k).first p.code)) = length-take (region_at p k).count (drop (region_at p k).first p.code) in
    grind (arith, size.some, place, rest, own)

-- a region with too many rows
pub long_exit : (p : Program) (n k rows : ℕ) (code : List Instr) (s : Status) → k < length p.regions → ((j : ℕ) → j < k → rows_at p n j ≤ MOST_ROWS) → code ≡ code_at p k → rows ≡ n * length code → MOST_ROWS < rows → s ≡ Limit RunSize rows
    → (j : ℕ) × IsTooLong p n j × (s ≡ Limit RunSize (rows_at p n j))
long_exit p n k rows code s within earlier is product more e =
    let all : rows ≡ rows_at p n k = product ∙ ap (λ c. n * length c) is in
    (k, record { region = within; earlier = earlier; here = subst (λ r. MOST_ROWS < r) all more }, e ∙ ap (λ r. Limit RunSize r) all)

-- a region has too many rows
pub size_may : (m : MachineMeaning) (o : Options) (p : Program) (bodies : List (List Bound)) (n : ℕ) (s : Status) → n ≡ iterations_of o → AreBodies m p (length p.regions) bodies
    → (k : ℕ) × IsTooLong p n k × (s ≡ Limit RunSize (rows_at p n k)) → MayRefuseCode m o p s
size_may m o p bodies n s same h (k, long, e) = subst (MayRefuseCode m o p) (sym e) (by_size k (bodies_bound m p (length p.regions) bodies h) (subst (λ i. IsTooLong p i k) same long) (ap (λ i. Limit RunSize (rows_at p i k)) same))

-- a program that a machine takes
pub bodies_taken : (m : MachineMeaning) (p : Program) (bodies : List (List Bound)) (n i : ℕ) → i ≡ n → AreBodies m p (length p.regions) bodies → ((k : ℕ) → k < length p.regions → rows_at p i k ≤ MOST_ROWS) → IsTaken m p n
bodies_taken m p bodies n i same h few = record { bound = bodies_bound m p (length p.regions) bodies h; few = subst (λ j. (k : ℕ) → k < length p.regions → rows_at p j k ≤ MOST_ROWS) same few }

-- the report is too long
pub length_may : (m : MachineMeaning) (o : Options) (p : Program) (fault : ViewFault) → IsTaken m p (iterations_of o) → IsOverAll m o p fault → MayRefuseCode m o p (view_status fault)
length_may m o p no_room.TooLong taken (report, whole, long) = by_length report taken whole long refl
length_may m o p no_room.Memory taken h = tt

-- the code is repeated at least once
pub some_iterations : (o : Options) (n : ℕ) → n ≡ iterations_of o → 0 < n
some_iterations o n is = elim (cases_eq o.iterations 0) [
  | inl none ↦ (let zero_times : nat_eq o.iterations 0 ≡ true = grind (arith, nat_tests, none) in
      let all : n ≡ 100 = is ∙ ap (λ b. if b then 100 else o.iterations) zero_times in omega (arith, all))
  | inr some ↦ (let some_times : nat_eq o.iterations 0 ≡ false = grind (arith, nat_tests, some) in
      let all : n ≡ o.iterations = is ∙ ap (λ b. if b then 100 else o.iterations) some_times in omega (arith, all, some))
]

-- an illness
pub ill_may : (records : List Record) (number : ℕ) (kind : IllKind) → UnlessMemory kind (illness_of (entries_of records) ≡ Some (record { number = number; kind = kind })) → MayRefuseRecords records (ill_status number kind)
ill_may records number ill.Memory h = tt
ill_may records number _ h = h

-- What a machine refuses is refused of the machine that the options name

code_refused : (m : MachineMeaning) (o : Options) (p : Program) (s : Status) → MayRefuseCode m o p s → IfRefused (IsCodeRefusal m o p) s
code_refused m o p Done h = tt
code_refused m o p (Words fault) h = absurd h
code_refused m o p (Assembly refusal) h = absurd h
code_refused m o p (Table refusal) h = absurd h
code_refused m o p (Machine refusal) h = h
code_refused m o p (Limit kind n) h = h
code_refused m o p ReadFault h = tt
code_refused m o p WriteFault h = tt
code_refused m o p Memory h = tt

pub named_ok : {T E : Type 0} (bytes : T → List ℕ) (Q : Contents → Type 0) (o : Options) (m : MachineMeaning) (p : Program) (r : Result T E) → ((contents : Contents) → Q contents → IsMachine contents o m)
    → IfOk r (λ x. IsMachineReport m o p (bytes x)) → IfOk r (λ x. (contents : Contents) → Q contents → IsRunReport contents o p (bytes x))
named_ok bytes Q o m p (Ok x) named h = λ contents tells. record { machine = m; named = named contents tells; by = h }
named_ok bytes Q o m p (Err e) named h = tt

pub named_err : {T E : Type 0} (status : E → Status) (Q : Contents → Type 0) (o : Options) (m : MachineMeaning) (p : Program) (r : Result T E) → ((contents : Contents) → Q contents → IsMachine contents o m)
    → IfErr r (λ e. MayRefuseCode m o p (status e)) → IfErr r (λ e. (contents : Contents) → Q contents → IfRefused (IsRunRefusal contents o p) (status e))
named_err status Q o m p (Ok x) named h = tt
named_err status Q o m p (Err e) named h = λ contents tells. refused_along (IsCodeRefusal m o p) (IsRunRefusal contents o p) (λ s refusal. by_code m (named contents tells) refusal) (status e)
    (code_refused m o p (status e) h)

-- the steps rise by the turns of the machine that the options name, and of no other
pub named_steps : (Q : Contents → Type 0) (o : Options) (m : MachineMeaning) (p : Program) (before after : ℕ) → ((contents : Contents) → Q contents → IsMachine contents o m) → after ≤ before + program_turns m (iterations_of o) p
    → (contents : Contents) → Q contents → StepsRiseBy contents o p before after
named_steps Q o m p before after named few = λ contents tells. record {
  some = λ other is. subst (λ n. after ≤ before + program_turns n (iterations_of o) p) (machine_same contents o m other (named contents tells) is) few;
  none = λ absent. absurd (absent m (named contents tells));
}

code_status : (m : MachineMeaning) (o : Options) (p : Program) (s : Status) → MayRefuseCode m o p s → IsOfFiles s
code_status m o p Done h = tt
code_status m o p (Words fault) h = h
code_status m o p (Assembly refusal) h = tt
code_status m o p (Table refusal) h = tt
code_status m o p (Machine refusal) h = tt
code_status m o p (Limit kind n) h = tt
code_status m o p ReadFault h = tt
code_status m o p WriteFault h = tt
code_status m o p Memory h = tt

pub code_of_files : {T E : Type 0} (status : E → Status) (m : MachineMeaning) (o : Options) (p : Program) (r : Result T E) → IfErr r (λ e. MayRefuseCode m o p (status e)) → IfErr r (λ e. IsOfFiles (status e))
code_of_files status m o p (Ok x) h = tt
code_of_files status m o p (Err e) h = code_status m o p (status e) h

-- a machine reads no file
pub code_read : {T E : Type 0} (status : E → Status) (m : MachineMeaning) (o : Options) (p : Program) (P : Type 0) (r : Result T E) → IfErr r (λ e. MayRefuseCode m o p (status e)) → IfErr r (λ e. status e ≡ ReadFault → P)
code_read status m o p P (Ok x) h = tt
code_read status m o p P (Err e) h = λ is. (let bad : MayRefuseCode m o p ReadFault = subst (MayRefuseCode m o p) is h in absurd bad)

-- the table is named by the options where they name no built-in machine
pub by_name_ok : {T E : Type 0} (P : T → Contents → Type 0) (told : List ℕ → Told) (o : Options) (r : Result T E) → fixed_of o ≡ None → IfOk r (λ x. (contents : Contents) → TellsName told contents o.table → P x contents)
    → IfOk r (λ x. (contents : Contents) → TellsTable told contents o → P x contents)
by_name_ok P told o (Ok x) none h = λ contents tells. h contents (tells none)
by_name_ok P told o (Err e) none h = tt

pub by_name_err : {T E : Type 0} (P : E → Contents → Type 0) (told : List ℕ → Told) (o : Options) (r : Result T E) → fixed_of o ≡ None → IfErr r (λ e. (contents : Contents) → TellsName told contents o.table → P e contents)
    → IfErr r (λ e. (contents : Contents) → TellsTable told contents o → P e contents)
by_name_err P told o (Ok x) none h = tt
by_name_err P told o (Err e) none h = λ contents tells. h contents (tells none)

pub always_err : {T E : Type 0} (P : Type 0) (Q : E → Type 0) (r : Result T E) → P → IfErr r (λ e. Q e → P)
always_err P Q (Ok x) p = tt
always_err P Q (Err e) p = λ q. p

pub on_ok : {T E : Type 0} (r : Result T E) (P : Type 0) → P → OnOk r P
on_ok (Ok x) P p = p
on_ok (Err e) P p = tt

-- What is refused of a table

pub table_run : (contents : Contents) (o : Options) (p : Program) (s : Status) → fixed_of o ≡ None → IfRefused (IsTableRefusal contents o) s → IfRefused (IsRunRefusal contents o p) s
table_run contents o p s none may = refused_along (IsTableRefusal contents o) (IsRunRefusal contents o p) (λ t refusal. by_table none refusal) s may

pub records_run : (contents : Contents) (o : Options) (p : Program) (records : List Record) (s : Status) → fixed_of o ≡ None → IsTable contents o records → MayRefuseRecords records s → IfRefused (IsRunRefusal contents o p) s
records_run contents o p records (Machine (machine.Record number kind)) none table may = by_illness records (record { number = number; kind = kind }) none table may refl
records_run contents o p records (Machine (machine.Opcode op kind)) none table may = absurd may
records_run contents o p records Done none table may = tt
records_run contents o p records (Words fault) none table may = absurd may
records_run contents o p records (Assembly refusal) none table may = absurd may
records_run contents o p records (Table refusal) none table may = absurd may
records_run contents o p records (Limit kind n) none table may = absurd may
records_run contents o p records ReadFault none table may = tt
records_run contents o p records WriteFault none table may = tt
records_run contents o p records Memory none table may = tt

pub records_of_files : (records : List Record) (s : Status) → MayRefuseRecords records s → IsOfFiles s
records_of_files records Done may = tt
records_of_files records (Words fault) may = may
records_of_files records (Assembly refusal) may = tt
records_of_files records (Table refusal) may = tt
records_of_files records (Machine refusal) may = tt
records_of_files records (Limit kind n) may = tt
records_of_files records ReadFault may = tt
records_of_files records WriteFault may = tt
records_of_files records Memory may = tt

-- reading the records' illness reads no file
pub records_read : (records : List Record) (s : Status) → MayRefuseRecords records s → s ≡ ReadFault → ⊥
records_read records s may e = let known : MayRefuseRecords records ReadFault = subst (MayRefuseRecords records) e may in known
