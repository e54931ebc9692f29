-- Options and contents name one machine, and a machine has one answer to a program.
use Rattle.std.proofs.Common.{◌≡◌, ℕ, ◌<◌, ◌≤◌, List, length, Ok, Err, sym, ◌∙◌, ap, arith}
use Rattle.std.specs.Prelude.{slice_get}
use Rattle.std.specs.declared.result.Result.{Result}
use Rattle.cycle_rules.specs.declared.bound.Bound.{Bound}
use Rattle.machine_model.specs.Fixed.{fixed_meaning, given_or}
use Rattle.machine_model.specs.Meaning.{MachineMeaning}
use Rattle.machine_model.specs.declared.tuning.Tuning.{Tuning}
use Rattle.mca_words.specs.declared.options.Options.{Options}
use Rattle.sched_checks.specs.Resources.{count_of, resources_of}
use Rattle.sched_resolve.specs.declared.entry.Defaults.{Defaults}
use Rattle.sched_resolve.specs.declared.entry.Entry.{Entry}
use Rattle.sched_validate.specs.Bind.{bound_code}
use Rattle.sched_validate.specs.Machine.{machine_of, or_own, model_of, bound_by}
use Rattle.sched_validate.specs.Lists.{load_queues_of, store_queues_of}
use Rattle.sched_validate.specs.declared.fault.BindFault.{BindFault}
use Rattle.mca_run.specs.Machines.{IsTuned, built_in_meaning}
use Rattle.mca_run.specs.Asked.{iterations_of}
use Rattle.mca_run.specs.Refusal.{IsBound, IsTaken, IsUnbound, IsTooLong, rows_at, IsCodeRefusal, by_opcode, by_size, by_length, opcode_status}
use Rattle.mca_run.specs.Regions.{code_at}
use Rattle.mca_run.specs.Whole.{IsWholeReport}
use Rattle.mca_run.specs.declared.program.Program.{Program}
use Rattle.mca_run.specs.declared.status.LimitKind.TheVariants.{RunSize}
use Rattle.mca_run.specs.declared.status.Status.TheVariants.{Limit}
use Rattle.mca_fixed.specs.declared.limits.TheConstants.{MOST_ROWS, MOST_REPORT_BYTES}
use Rattle.mca_run.specs.declared.machine.BuiltIn.{BuiltIn}
use Rattle.mca_run.specs.declared.machine.BuiltIn.TheVariants.{Tiny, Dual, Quad}
use Rattle.mca_run.specs.declared.status.Status.{Status}

-- Two tunings of the same options

fixed_tuned : (width reorder alus : ℕ) (o : Options) (t u : Tuning) → IsTuned o t → IsTuned o u → fixed_meaning width reorder alus t ≡ fixed_meaning width reorder alus u
fixed_tuned width reorder alus o t u p q =
    let dispatch : t.dispatch ≡ u.dispatch = p.dispatch ∙ sym q.dispatch in
    let registers : t.registers ≡ u.registers = p.registers ∙ sym q.registers in
    let loads : t.loads ≡ u.loads = p.loads ∙ sym q.loads in
    let stores : t.stores ≡ u.stores = p.stores ∙ sym q.stores in
    let no_alias : t.no_alias ≡ u.no_alias = p.no_alias ∙ sym q.no_alias in
    λ i. record (fixed_meaning width reorder alus t) {
      limits = record {
        width = given_or (dispatch i) width;
        reorder = reorder;
        retire = width;
        loads = given_or (loads i) 16;
        stores = given_or (stores i) 16;
        registers = given_or (registers i) 0;
        no_alias = no_alias i;
      };
    }

pub built_in_tuned : (b : BuiltIn) (o : Options) (t u : Tuning) → IsTuned o t → IsTuned o u → built_in_meaning b t ≡ built_in_meaning b u
built_in_tuned Tiny o t u p q = fixed_tuned 1 8 1 o t u p q
built_in_tuned Dual o t u p q = fixed_tuned 2 32 2 o t u p q
built_in_tuned Quad o t u p q = fixed_tuned 4 128 4 o t u p q

pub table_tuned : (es : List Entry) (ds : List Defaults) (o : Options) (t u : Tuning) → IsTuned o t → IsTuned o u → machine_of es ds t ≡ machine_of es ds u
table_tuned es ds o t u p q =
    let dispatch : t.dispatch ≡ u.dispatch = p.dispatch ∙ sym q.dispatch in
    let registers : t.registers ≡ u.registers = p.registers ∙ sym q.registers in
    let loads : t.loads ≡ u.loads = p.loads ∙ sym q.loads in
    let stores : t.stores ≡ u.stores = p.stores ∙ sym q.stores in
    let no_alias : t.no_alias ≡ u.no_alias = p.no_alias ∙ sym q.no_alias in
    λ i. record (machine_of es ds t) {
      limits = record (machine_of es ds t).limits {
        width = or_own (dispatch i) (count_of (model_of es).width);
        loads = or_own (loads i) (bound_by (resources_of es) (slice_get (load_queues_of es) 0));
        stores = or_own (stores i) (bound_by (resources_of es) (slice_get (store_queues_of es) 0));
        registers = registers i;
        no_alias = no_alias i;
      };
    }

-- The answer of a machine to a program

err_same : (a b : BindFault) → ◌≡◌ {A = Result (List Bound) BindFault} (Err a) (Err b) → a ≡ b
err_same a b e = cc

err_not_ok : (r : Result (List Bound) BindFault) (f : BindFault) (b : List Bound) → r ≡ Err f → r ≡ Ok b → ⊥
err_not_ok r f b p q = let both : ◌≡◌ {A = Result (List Bound) BindFault} (Err f) (Ok b) = sym p ∙ q in cc

unbound_not_bound : (m : MachineMeaning) (p : Program) (k : ℕ) (f : BindFault) → IsUnbound m p k f → IsBound m p k → ⊥
unbound_not_bound m p k f u (body, bound) = err_not_ok (bound_code m (code_at p k)) f body u.here bound

unbound_same : (m : MachineMeaning) (p : Program) (k j : ℕ) (f g : BindFault) → IsUnbound m p k f → IsUnbound m p j g → f ≡ g
unbound_same m p k j f g u v =
    let not_below : k < j → ⊥ = λ below. unbound_not_bound m p k f u (v.earlier k below) in
    let not_above : j < k → ⊥ = λ below. unbound_not_bound m p j g v (u.earlier j below) in
    let same : k ≡ j = grind (arith, not_below, not_above) in
    err_same f g (sym u.here ∙ ap (λ n. bound_code m (code_at p n)) same ∙ v.here)

long_same : (p : Program) (n k j : ℕ) → IsTooLong p n k → IsTooLong p n j → k ≡ j
long_same p n k j u v =
    let not_below : k < j → ⊥ = λ below. (let few : rows_at p n k ≤ MOST_ROWS = v.earlier k below in omega (arith, few, u.here)) in
    let not_above : j < k → ⊥ = λ below. (let few : rows_at p n j ≤ MOST_ROWS = u.earlier j below in omega (arith, few, v.here)) in
    grind (arith, not_below, not_above)

long_not_few : (p : Program) (n k : ℕ) → IsTooLong p n k → rows_at p n k ≤ MOST_ROWS → ⊥
long_not_few p n k u few = omega (arith, few, u.here)

pub code_refusal_same : (m : MachineMeaning) (o : Options) (p : Program) (s t : Status) → IsCodeRefusal m o p s → IsCodeRefusal m o p t → s ≡ t
code_refusal_same m o p s t (by_opcode k f u e) (by_opcode j g v d) = e ∙ ap opcode_status (unbound_same m p k j f g u v) ∙ sym d
code_refusal_same m o p s t (by_opcode k f u e) (by_size j bound v d) = absurd (unbound_not_bound m p k f u (bound k u.region))
code_refusal_same m o p s t (by_opcode k f u e) (by_length report taken whole long d) = absurd (unbound_not_bound m p k f u (taken.bound k u.region))
code_refusal_same m o p s t (by_size k bound u e) (by_opcode j g v d) = absurd (unbound_not_bound m p j g v (bound j v.region))
code_refusal_same m o p s t (by_size k bound u e) (by_size j other v d) = e ∙ ap (λ n. Limit RunSize (rows_at p (iterations_of o) n)) (long_same p (iterations_of o) k j u v) ∙ sym d
code_refusal_same m o p s t (by_size k bound u e) (by_length report taken whole long d) = absurd (long_not_few p (iterations_of o) k u (taken.few k u.region))
code_refusal_same m o p s t (by_length report taken whole long e) (by_opcode j g v d) = absurd (unbound_not_bound m p j g v (taken.bound j v.region))
code_refusal_same m o p s t (by_length report taken whole long e) (by_size j other v d) = absurd (long_not_few p (iterations_of o) j v (taken.few j v.region))
code_refusal_same m o p s t (by_length report taken whole long e) (by_length other taken_too whole_too long_too d) = e ∙ sym d

too_long : (report : List ℕ) → MOST_REPORT_BYTES < length report → length report ≤ MOST_REPORT_BYTES → ⊥
too_long report long short = omega (arith, long, short)

pub code_refusal_taken : (m : MachineMeaning) (o : Options) (p : Program) (s : Status) → IsCodeRefusal m o p s → IsTaken m p (iterations_of o)
    → ((report : List ℕ) → IsWholeReport m o p report → length report ≤ MOST_REPORT_BYTES) → ⊥
code_refusal_taken m o p s (by_opcode k f u e) taken short = unbound_not_bound m p k f u (taken.bound k u.region)
code_refusal_taken m o p s (by_size k bound u e) taken short = long_not_few p (iterations_of o) k u (taken.few k u.region)
code_refusal_taken m o p s (by_length report also whole long e) taken short = too_long report long (short report whole)
