use Rattle.std.proofs.Common.{map, string_bytes}
use Rattle.std.proofs.lemmas.Result.{err_from_is_err_and}
use Rattle.mca_run.specs.declared.stop.Stop.{Stop}
use Rattle.mca_run.proofs.Exits.{asked_files, asked_load, load_steps, words_stopped, input_stopped, run_reported, run_stopped, run_steps, asked_right}
use Rattle.mca_run.proofs.MachineSteps.{on_ok}
use Rattle.mca_run.specs.Report.{of_load}
use Rattle.mca_run.proofs.Causes.{load_not_files, word_fault_load}
use Rattle.mca_run.proofs.tool.work.Goals as goal

pub returns-in_err-options-clause-err : goal.returns-in_err-options-clause-err
returns-in_err-options-clause-err g c =
    let p = err_from_is_err_and c.from_residual.result c.from_residual.ensures.1 in
    rw (p.1, p.2) (words_stopped (map string_bytes c.args.words.now) (g.F.Shelf.told c.args.shelf.now) (g.F.Shelf.faults c.args.shelf.now) (g.F.Shelf.faults c.args.shelf.now) c.in_err-options.field-0.0.status c.in_err-options.ensures.err)

pub returns-in_err-report_on_load-clause-steps : goal.returns-in_err-report_on_load-clause-steps
returns-in_err-report_on_load-clause-steps g c = load_steps (map string_bytes c.args.words.now) (g.F.Shelf.told c.args.shelf.now) c.args.steps.now c.report_on_load.new.steps c.in-Some.seed
    (asked_load (map string_bytes c.args.words.now) c.in_ok-options.options c.in-Some.seed c.in_ok-options.ensures.ok c.in-Some.is) c.report_on_load.ensures.steps

pub returns-in-Some-clause-ok : goal.returns-in-Some-clause-ok
returns-in-Some-clause-ok g c = λ files tells. of_load c.in-Some.seed (asked_load (map string_bytes c.args.words.now) c.in_ok-options.options c.in-Some.seed c.in_ok-options.ensures.ok c.in-Some.is) c.in_ok-report_on_load.ensures.report

pub returns-in-Some-clause-steps : goal.returns-in-Some-clause-steps
returns-in-Some-clause-steps g c = load_steps (map string_bytes c.args.words.now) (g.F.Shelf.told c.args.shelf.now) c.args.steps.now c.report_on_load.new.steps c.in-Some.seed
    (asked_load (map string_bytes c.args.words.now) c.in_ok-options.options c.in-Some.seed c.in_ok-options.ensures.ok c.in-Some.is) c.report_on_load.ensures.steps

pub returns-in-Some-clause-asked : goal.returns-in-Some-clause-asked
returns-in-Some-clause-asked g c = λ fault h. word_fault_load (map string_bytes c.args.words.now) fault c.in-Some.seed h
    (asked_load (map string_bytes c.args.words.now) c.in_ok-options.options c.in-Some.seed c.in_ok-options.ensures.ok c.in-Some.is)

pub returns-in-Some-clause-end : goal.returns-in-Some-clause-end
returns-in-Some-clause-end g c = λ o asked. absurd (load_not_files (map string_bytes c.args.words.now) o c.in-Some.seed asked
    (asked_load (map string_bytes c.args.words.now) c.in_ok-options.options c.in-Some.seed c.in_ok-options.ensures.ok c.in-Some.is))

pub returns-in_err-program-clause-untouched : goal.returns-in_err-program-clause-untouched
returns-in_err-program-clause-untouched g c = λ seed asked. absurd (load_not_files (map string_bytes c.args.words.now) c.in_ok-options.options seed
    (asked_files (map string_bytes c.args.words.now) c.in_ok-options.options c.in_ok-options.ensures.ok c.in_default.not-Some) asked)

pub returns-clause-untouched : goal.returns-clause-untouched
returns-clause-untouched g c = λ seed asked. absurd (load_not_files (map string_bytes c.args.words.now) c.in_ok-options.options seed
    (asked_files (map string_bytes c.args.words.now) c.in_ok-options.options c.in_ok-options.ensures.ok c.in_default.not-Some) asked)

pub returns-in_err-program-clause-err : goal.returns-in_err-program-clause-err
returns-in_err-program-clause-err g c =
    let p = err_from_is_err_and c.from_residual-in_err-program.result c.from_residual-in_err-program.ensures.1 in
    rw (p.1, p.2) (input_stopped (map string_bytes c.args.words.now) (g.F.Shelf.told c.args.shelf.now) (g.F.Shelf.faults c.args.shelf.now) (g.F.Shelf.faults c.read_assembly.new.shelf) c.in_ok-options.options c.in_err-program.field-0.0.status
    (asked_files (map string_bytes c.args.words.now) c.in_ok-options.options c.in_ok-options.ensures.ok c.in_default.not-Some) c.in_err-program.ensures.err c.in_err-program.ensures.of_files c.in_err-program.ensures.fault)

pub returns-clause-ok : goal.returns-clause-ok
returns-clause-ok g c = run_reported (λ bytes. bytes.items) (map string_bytes c.args.words.now) (g.F.Shelf.told c.args.shelf.now) (g.F.Shelf.told c.read_assembly.new.shelf) c.in_ok-options.options c.in_ok-program.program
    c.report_as_asked.result (asked_files (map string_bytes c.args.words.now) c.in_ok-options.options c.in_ok-options.ensures.ok c.in_default.not-Some) c.in_ok-program.ensures.ok c.read_assembly.ensures.told c.report_as_asked.ensures.ok

pub returns-clause-err : goal.returns-clause-err
returns-clause-err g c = run_stopped (λ (s : Stop). s.status) (map string_bytes c.args.words.now) (g.F.Shelf.told c.args.shelf.now) (g.F.Shelf.told c.read_assembly.new.shelf) (g.F.Shelf.faults c.args.shelf.now) (g.F.Shelf.faults c.read_assembly.new.shelf)
    (g.F.Shelf.faults c.report_as_asked.new.shelf) c.in_ok-options.options c.in_ok-program.program c.report_as_asked.result (asked_files (map string_bytes c.args.words.now) c.in_ok-options.options c.in_ok-options.ensures.ok c.in_default.not-Some) c.in_ok-program.ensures.ok c.read_assembly.ensures.told
    c.read_assembly.ensures.later c.report_as_asked.ensures.err c.report_as_asked.ensures.of_files c.report_as_asked.ensures.by_table c.report_as_asked.ensures.fault

pub returns-clause-asked : goal.returns-clause-asked
returns-clause-asked g c = on_ok c.report_as_asked.result _ (asked_right (map string_bytes c.args.words.now) c.in_ok-options.options (asked_files (map string_bytes c.args.words.now) c.in_ok-options.options c.in_ok-options.ensures.ok c.in_default.not-Some))

pub returns-clause-steps : goal.returns-clause-steps
returns-clause-steps g c = run_steps (map string_bytes c.args.words.now) (g.F.Shelf.told c.args.shelf.now) (g.F.Shelf.told c.read_assembly.new.shelf) c.in_ok-options.options c.in_ok-program.program
    _ _ (asked_files (map string_bytes c.args.words.now) c.in_ok-options.options c.in_ok-options.ensures.ok c.in_default.not-Some) c.in_ok-program.ensures.ok c.read_assembly.ensures.told c.report_as_asked.ensures.steps
