use Rattle.std.proofs.Common.{◌≡◌, Some, None, refl, rules, arith}
use Rattle.mca_run.specs.Machines.{fixed_of, built_in_meaning}
use Rattle.mca_run.specs.Refusal.{built_in, IsRunRefusal, IfRefused}
use Rattle.mca_run.specs.Report.{IsRunReport}
use Rattle.mca_run.specs.Steps.{TellsTable}
use Rattle.mca_run.specs.declared.stop.Stop.{Stop}
use Rattle.mca_run.proofs.MachineSteps.{named_ok, named_err, named_steps, code_of_files, code_read, by_name_ok, by_name_err, always_err}
use Rattle.mca_run.proofs.machine.report_as_asked.Goals as goal

-- A built-in machine

pub returns-in-Some-clause-ok : goal.returns-in-Some-clause-ok
returns-in-Some-clause-ok g c =
    let named : fixed_of c.args.options.now ≡ Some c.in-Some.machine = first_of (cc, search rules, grind arith) in
    named_ok (λ bytes. bytes.items) (λ contents. TellsTable (g.F.Shelf.told c.args.shelf.now) contents c.args.options.now) c.args.options.now (built_in_meaning c.in-Some.machine c.tuning.result) c.args.program.now c.report_built_in.result
    (λ contents tells. built_in c.in-Some.machine c.tuning.result named c.tuning.ensures refl) c.report_built_in.ensures.ok

pub returns-in-Some-clause-err : goal.returns-in-Some-clause-err
returns-in-Some-clause-err g c =
    let named : fixed_of c.args.options.now ≡ Some c.in-Some.machine = first_of (cc, search rules, grind arith) in
    named_err (λ (s : Stop). s.status) (λ contents. TellsTable (g.F.Shelf.told c.args.shelf.now) contents c.args.options.now) c.args.options.now (built_in_meaning c.in-Some.machine c.tuning.result) c.args.program.now c.report_built_in.result
    (λ contents tells. built_in c.in-Some.machine c.tuning.result named c.tuning.ensures refl) c.report_built_in.ensures.err

pub returns-in-Some-clause-steps : goal.returns-in-Some-clause-steps
returns-in-Some-clause-steps g c =
    let named : fixed_of c.args.options.now ≡ Some c.in-Some.machine = first_of (cc, search rules, grind arith) in
    named_steps (λ contents. TellsTable (g.F.Shelf.told c.args.shelf.now) contents c.args.options.now) c.args.options.now (built_in_meaning c.in-Some.machine c.tuning.result) c.args.program.now _ _
    (λ contents tells. built_in c.in-Some.machine c.tuning.result named c.tuning.ensures refl) c.report_built_in.ensures.steps

pub returns-in-Some-clause-of_files : goal.returns-in-Some-clause-of_files
returns-in-Some-clause-of_files g c = code_of_files (λ (s : Stop). s.status) (built_in_meaning c.in-Some.machine c.tuning.result) c.args.options.now c.args.program.now c.report_built_in.result c.report_built_in.ensures.err

pub returns-in-Some-clause-by_table : goal.returns-in-Some-clause-by_table
returns-in-Some-clause-by_table g c = code_read (λ (s : Stop). s.status) (built_in_meaning c.in-Some.machine c.tuning.result) c.args.options.now c.args.program.now _ c.report_built_in.result c.report_built_in.ensures.err

pub returns-in-Some-clause-fault : goal.returns-in-Some-clause-fault
returns-in-Some-clause-fault g c = code_read (λ (s : Stop). s.status) (built_in_meaning c.in-Some.machine c.tuning.result) c.args.options.now c.args.program.now _ c.report_built_in.result c.report_built_in.ensures.err

-- A table

pub returns-in-None-clause-ok : goal.returns-in-None-clause-ok
returns-in-None-clause-ok g c =
    let none : fixed_of c.args.options.now ≡ None = first_of (cc, search rules, grind arith) in
    by_name_ok (λ x contents. IsRunReport contents c.args.options.now c.args.program.now x.items) (g.F.Shelf.told c.args.shelf.now) c.args.options.now c.report_by_table.result none c.report_by_table.ensures.ok

pub returns-in-None-clause-err : goal.returns-in-None-clause-err
returns-in-None-clause-err g c =
    let none : fixed_of c.args.options.now ≡ None = first_of (cc, search rules, grind arith) in
    by_name_err (λ (e : Stop) contents. IfRefused (IsRunRefusal contents c.args.options.now c.args.program.now) e.status) (g.F.Shelf.told c.args.shelf.now) c.args.options.now c.report_by_table.result none c.report_by_table.ensures.err

pub returns-in-None-clause-steps : goal.returns-in-None-clause-steps
returns-in-None-clause-steps g c =
    let none : fixed_of c.args.options.now ≡ None = first_of (cc, search rules, grind arith) in
    λ contents tells. c.report_by_table.ensures.steps contents (tells none)

pub returns-in-None-clause-by_table : goal.returns-in-None-clause-by_table
returns-in-None-clause-by_table g c =
    let none : fixed_of c.args.options.now ≡ None = first_of (cc, search rules, grind arith) in
    always_err _ _ c.report_by_table.result none
