-- A program on a machine has one report.
use Rattle.std.proofs.Common.{◌≡◌, ℕ, ◌<◌, List, [], length, map, Ok, sym, ◌∙◌, ap, subst, arith}
use Rattle.std.specs.declared.result.Result.{Result}
use Rattle.std.proofs.lemmas.List.{ext_get_or}
use Rattle.cycle_rules.specs.Bind.{row_of}
use Rattle.cycle_rules.specs.Row.{input}
use Rattle.cycle_rules.specs.Run.{IsRun}
use Rattle.cycle_rules.specs.declared.bound.Bound.{Bound}
use Rattle.cycle_rules.proofs.OneRun.{table_unique}
use Rattle.machine_model.specs.Meaning.{MachineMeaning}
use Rattle.mca_views.specs.Bottleneck.{IsAsked as IsSequenceFor}
use Rattle.mca_views.specs.Lines.{lines}
use Rattle.mca_views.specs.Region.{region_lines}
use Rattle.mca_views.proofs.OneSequence.{one_asked}
use Rattle.mca_words.specs.Options.{load_options}
use Rattle.mca_words.specs.declared.options.Options.{Options}
use Rattle.sched_validate.specs.Bind.{bound_code}
use Rattle.sched_validate.specs.declared.fault.BindFault.{BindFault}
use Rattle.mca_run.specs.Asked.{iterations_of}
use Rattle.mca_run.specs.Load.{generated}
use Rattle.mca_run.specs.LoadReport.{IsLoadReport, load_lines}
use Rattle.mca_run.specs.Machines.{built_in_meaning}
use Rattle.mca_run.specs.Regions.{region_at}
use Rattle.mca_run.specs.Whole.{shown_at, IsRegionReport, IsWholeReport, report_at, with_gaps}
use Rattle.mca_run.specs.declared.machine.BuiltIn.TheVariants.{Quad}
use Rattle.mca_run.specs.declared.program.Program.{Program}
use Rattle.mca_run.proofs.OneMachine.{built_in_tuned}

body_same : (a b : List Bound) → ◌≡◌ {A = Result (List Bound) BindFault} (Ok a) (Ok b) → a ≡ b
body_same a b e = cc

-- a region has one report, since its body has one run, and that one critical sequence
pub region_same : (m : MachineMeaning) (o : Options) (p : Program) (k : ℕ) (a b : List (List ℕ)) → IsRegionReport m o p k a → IsRegionReport m o p k b → a ≡ b
region_same m o p k a b x y =
    let body : x.body ≡ y.body = body_same x.body y.body (sym x.bound ∙ y.bound) in
    let other : IsRun m (map row_of x.body) (iterations_of o) y.table = subst (λ body. IsRun m (map row_of body) (iterations_of o) y.table) (sym body) y.run in
    let table : x.table ≡ y.table = table_unique (input m (map row_of x.body) (iterations_of o)) x.table y.table x.run other in
    let shown : shown_at m o p k x.body x.table ≡ shown_at m o p k y.body y.table = λ i. shown_at m o p k (body i) (table i) in
    let chain : x.chain ≡ y.chain = one_asked o (shown_at m o p k x.body x.table) x.chain y.chain x.sequence (subst (λ s. IsSequenceFor o s y.chain) (sym shown) y.sequence) in
    x.lines ∙ (λ i. region_lines k (region_at p k).name o (shown i) (chain i)) ∙ sym y.lines

-- and so has the program that a number gives
pub load_report_same : (seed : ℕ) (a b : List ℕ) → IsLoadReport seed a → IsLoadReport seed b → a ≡ b
load_report_same seed a b x y =
    let machine : built_in_meaning Quad x.tuning ≡ built_in_meaning Quad y.tuning = built_in_tuned Quad (load_options seed) x.tuning y.tuning x.untuned y.untuned in
    let bound : bound_code (built_in_meaning Quad x.tuning) (generated seed) ≡ Ok y.body = ap (λ n. bound_code n (generated seed)) machine ∙ y.bound in
    let body : x.body ≡ y.body = body_same x.body y.body (sym x.bound ∙ bound) in
    let run : IsRun (built_in_meaning Quad x.tuning) (map row_of y.body) 100 y.table = subst (λ n. IsRun n (map row_of y.body) 100 y.table) (sym machine) y.run in
    let other : IsRun (built_in_meaning Quad x.tuning) (map row_of x.body) 100 y.table = subst (λ body. IsRun (built_in_meaning Quad x.tuning) (map row_of body) 100 y.table) (sym body) run in
    let table : x.table ≡ y.table = table_unique (input (built_in_meaning Quad x.tuning) (map row_of x.body) 100) x.table y.table x.run other in
    x.bytes ∙ (λ i. lines (load_lines (machine i) seed (body i) (table i))) ∙ sym y.bytes

pub whole_same : (m : MachineMeaning) (o : Options) (p : Program) (a b : List ℕ) → IsWholeReport m o p a → IsWholeReport m o p b → a ≡ b
whole_same m o p a b x y =
    x.bytes
    ∙ ap (λ reports. lines (with_gaps reports)) (ext_get_or [] x.reports y.reports (x.count ∙ sym y.count)
    (λ k below. (let within : k < length p.regions = omega (arith, below, x.count) in region_same m o p k (report_at x.reports k) (report_at y.reports k) (x.each k within) (y.each k within))))
    ∙ sym y.bytes
