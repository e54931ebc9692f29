-- The report on the program that a number gives, and the turns of its run.
use Rattle.std.proofs.Common.{◌≡◌, ℕ, ◌+◌, ◌*◌, ◌<◌, ◌≤◌, List, [], ◌∷◌, length, map, true, codes, decimal, Ok, sym, ◌∙◌, ap, subst, refl, arith}
use Rattle.std.specs.List.{All}
use Rattle.cycle_rules.specs.Bind.{row_of, IsBoundBody}
use Rattle.cycle_rules.specs.CycleBound.{turn_bound}
use Rattle.cycle_rules.specs.Row.{input}
use Rattle.cycle_rules.specs.Run.{IsRun}
use Rattle.cycle_rules.specs.declared.bound.Bound.{Bound}
use Rattle.cycle_rules.specs.declared.times.Times.{Times}
use Rattle.machine_model.specs.Fixed.{AreSizes}
use Rattle.machine_model.specs.FixedLaw.{fixed_valid}
use Rattle.machine_model.specs.Meaning.{MachineMeaning}
use Rattle.machine_model.specs.Valid.{IsValidMachine}
use Rattle.machine_model.specs.declared.tuning.Tuning.{Tuning}
use Rattle.mca_views.specs.Lines.{lines, labelled}
use Rattle.mca_views.specs.Shown.{IsShown}
use Rattle.mca_views.specs.Summary.{summary_lines}
use Rattle.mca_views.proofs.RanShown.{run_is_shown}
use Rattle.mca_words.specs.Options.{load_options}
use Rattle.rv_isa.specs.Instruction.{is_lawful}
use Rattle.rv_isa.specs.Spelling.{IsNamed}
use Rattle.rv_isa.specs.declared.instr.Instr.{Instr}
use Rattle.sched_validate.specs.Bind.{bound_code}
use Rattle.mca_run.specs.Load.{generated}
use Rattle.mca_run.specs.LoadReport.{IsLoadReport}
use Rattle.mca_run.specs.Machines.{built_in_meaning, IsTuned}
use Rattle.mca_run.specs.Turns.{body_turns, LoadStepsRise}
use Rattle.mca_run.specs.declared.machine.BuiltIn.TheVariants.{Quad}
use Rattle.mca_run.proofs.Generated.{has_length, all_lawful, all_named}
use Rattle.mca_run.proofs.OneMachine.{built_in_tuned}

quad_valid : (t : Tuning) → IsValidMachine 64 64 (built_in_meaning Quad t)
quad_valid t =
    let sizes : AreSizes 4 128 4 = record {
      width_low = omega arith;
      width_high = omega arith;
      reorder_low = omega arith;
      reorder_high = omega arith;
      alus_low = omega arith;
      alus_high = omega arith;
    } in
    fixed_valid 4 128 4 sizes t

-- the program is neither empty nor too long
pub some_body : (seed : ℕ) (code : List Instr) (body : List Bound) → code ≡ generated seed → length body ≡ length code → 0 < length body
some_body seed code body is many = let count : length body ≡ 512 = many ∙ ap length is ∙ has_length seed in omega (arith, count)

pub few_rows : (seed : ℕ) (code : List Instr) (body : List Bound) → code ≡ generated seed → length body ≡ length code → 100 * length body ≤ 1048576
few_rows seed code body is many = let count : length body ≡ 512 = many ∙ ap length is ∙ has_length seed in omega (arith, count)

pub load_shown : (seed : ℕ) (t : Tuning) (m : MachineMeaning) (code : List Instr) (names : List (List ℕ)) (body : List Bound) (table : List Times) → m ≡ built_in_meaning Quad t → code ≡ generated seed → names ≡ [] → length body ≡ length code
    → IsBoundBody m body → IsRun m (map row_of body) 100 table → IsShown (record { machine = m; code = code; names = names; body = body; iterations = 100; table = table })
load_shown seed t m code names body table machine is unnamed many bound run =
    run_is_shown 64 64 (record { machine = m; code = code; names = names; body = body; iterations = 100; table = table }) (record {
      machine = subst (IsValidMachine 64 64) (sym machine) (quad_valid t);
      lawful = subst (All (λ i. is_lawful i ≡ true)) (sym is) (all_lawful seed);
      named = subst (λ ns. All (λ i. IsNamed (length ns) i.imm) code) (sym unnamed) (subst (All (λ i. IsNamed 0 i.imm)) (sym is) (all_named seed));
      some = let count : length code ≡ 512 = ap length is ∙ has_length seed in omega (arith, count);
      entries = many;
      bound = bound;
      iterations = omega arith;
      few = few_rows seed code body is many;
      run = run;
    })

pub load_reported : (seed : ℕ) (t : Tuning) (m : MachineMeaning) (code : List Instr) (names : List (List ℕ)) (body : List Bound) (table : List Times) (report : List ℕ) → IsTuned (load_options seed) t → m ≡ built_in_meaning Quad t → code ≡ generated seed → names ≡ []
    → bound_code m code ≡ Ok body → IsRun m (map row_of body) 100 table
    → report ≡ lines (labelled (codes "Load:") (decimal seed) ∷ [] ∷ summary_lines (record { machine = m; code = code; names = names; body = body; iterations = 100; table = table }))
    → IsLoadReport seed report
load_reported seed t m code names body table report tuned machine is unnamed bound run bytes = record {
  tuning = t;
  untuned = tuned;
  body = body;
  bound = (λ i. bound_code (sym machine i) (sym is i)) ∙ bound;
  table = table;
  run = subst (λ n. IsRun n (map row_of body) 100 table) machine run;
  bytes = bytes ∙ (λ i. lines (labelled (codes "Load:") (decimal seed) ∷ [] ∷ summary_lines (record { machine = machine i; code = is i; names = unnamed i; body = body; iterations = 100; table = table })));
}

-- the turns of the run
pub load_rise : (seed : ℕ) (u : Tuning) (m : MachineMeaning) (code : List Instr) (body : List Bound) (from to : ℕ) → IsTuned (load_options seed) u → m ≡ built_in_meaning Quad u → code ≡ generated seed → bound_code m code ≡ Ok body
    → to ≤ from + turn_bound (input m (map row_of body) 100) → LoadStepsRise seed from to
load_rise seed u m code body from to tuned machine is bound few = λ t also.
    (let same : m ≡ built_in_meaning Quad t = machine ∙ built_in_tuned Quad (load_options seed) u t tuned also in
    let by : bound_code (built_in_meaning Quad t) (generated seed) ≡ Ok body = (λ i. bound_code (sym same i) (sym is i)) ∙ bound in
    subst (λ r. to ≤ from + body_turns (built_in_meaning Quad t) 100 r) (sym by) (subst (λ n. to ≤ from + turn_bound (input n (map row_of body) 100)) same few))

-- .. where instructions and body were borrowed twice, to be run and to be shown
pub lent_shown : (seed : ℕ) (t : Tuning) (m : MachineMeaning) (ran code : List Instr) (b run_body body : List Bound) (table : List Times) → m ≡ built_in_meaning Quad t → ran ≡ generated seed → code ≡ generated seed → run_body ≡ b → body ≡ b
    → length b ≡ length ran → (All (λ i. is_lawful i ≡ true) ran → IsBoundBody m b) → IsRun m (map row_of run_body) 100 table → IsShown (record { machine = m; code = code; names = []; body = body; iterations = 100; table = table })
lent_shown seed t m ran code b run_body body table machine ran_is is lent shown many bound run =
    load_shown seed t m code [] body table machine is refl
    (ap length shown ∙ many ∙ ap length (ran_is ∙ sym is))
    (subst (IsBoundBody m) (sym shown) (bound (subst (All (λ i. is_lawful i ≡ true)) (sym ran_is) (all_lawful seed))))
    (subst (λ x. IsRun m (map row_of x) 100 table) (lent ∙ sym shown) run)

pub lent_reported : (seed : ℕ) (t : Tuning) (m : MachineMeaning) (ran code : List Instr) (b run_body body : List Bound) (table : List Times) (report : List ℕ) → IsTuned (load_options seed) t → m ≡ built_in_meaning Quad t → ran ≡ generated seed → code ≡ generated seed
    → run_body ≡ b → body ≡ b → bound_code m ran ≡ Ok b → IsRun m (map row_of run_body) 100 table
    → report ≡ lines (labelled (codes "Load:") (decimal seed) ∷ [] ∷ summary_lines (record { machine = m; code = code; names = []; body = body; iterations = 100; table = table }))
    → IsLoadReport seed report
lent_reported seed t m ran code b run_body body table report tuned machine ran_is is lent shown bound run bytes =
    load_reported seed t m code [] body table report tuned machine is refl
    (ap (bound_code m) (is ∙ sym ran_is) ∙ bound ∙ ap Ok (sym shown))
    (subst (λ x. IsRun m (map row_of x) 100 table) (lent ∙ sym shown) run)
    bytes
