use Rattle.std.proofs.lemmas.Result.{err_from_is_err_and}
use Rattle.mca_run.specs.Refusal.{of_table}
use Rattle.mca_run.specs.Steps.{TellsName}
use Rattle.mca_run.specs.declared.stop.Stop.{Stop}
use Rattle.mca_run.proofs.MachineSteps.{named_ok, named_err, named_steps, code_of_files, code_read, table_run, records_run, records_of_files, records_read}
use Rattle.mca_run.proofs.machine.report_by_table.Goals as goal

-- The records were refused, or not read

pub returns-in_err-records-clause-err : goal.returns-in_err-records-clause-err
returns-in_err-records-clause-err g c =
    let p = err_from_is_err_and c.from_residual.result c.from_residual.ensures.1 in
    rw (p.1, p.2) (λ contents tells. table_run contents c.args.options.now c.args.program.now c.in_err-records.field-0.0.status c.requires.table (c.in_err-records.ensures.err contents tells))

pub returns-in_err-records-clause-of_files : goal.returns-in_err-records-clause-of_files
returns-in_err-records-clause-of_files g c =
    let p = err_from_is_err_and c.from_residual.result c.from_residual.ensures.1 in
    rw (p.1, p.2) c.in_err-records.ensures.of_files

pub returns-in_err-records-clause-fault : goal.returns-in_err-records-clause-fault
returns-in_err-records-clause-fault g c =
    let p = err_from_is_err_and c.from_residual.result c.from_residual.ensures.1 in
    rw (p.1, p.2) c.in_err-records.ensures.fault

-- They have an illness

pub returns-in_err-table-clause-err : goal.returns-in_err-table-clause-err
returns-in_err-table-clause-err g c =
    let p = err_from_is_err_and c.from_residual-in_err-table.result c.from_residual-in_err-table.ensures.1 in
    rw (p.1, p.2) (λ contents tells. records_run contents c.args.options.now c.args.program.now c.in_ok-records.records c.in_err-table.field-0.0.status c.requires.table
    (c.in_ok-records.ensures.ok contents tells) c.in_err-table.ensures.ill)

pub returns-in_err-table-clause-of_files : goal.returns-in_err-table-clause-of_files
returns-in_err-table-clause-of_files g c =
    let p = err_from_is_err_and c.from_residual-in_err-table.result c.from_residual-in_err-table.ensures.1 in
    rw (p.1, p.2) (records_of_files c.in_ok-records.records c.in_err-table.field-0.0.status c.in_err-table.ensures.ill)

pub returns-in_err-table-clause-fault : goal.returns-in_err-table-clause-fault
returns-in_err-table-clause-fault g c =
    let p = err_from_is_err_and c.from_residual-in_err-table.result c.from_residual-in_err-table.ensures.1 in
    rw (p.1, p.2) (λ e. absurd (records_read c.in_ok-records.records c.in_err-table.field-0.0.status c.in_err-table.ensures.ill e))

-- The machine runs the program, or refuses it

pub returns-clause-ok : goal.returns-clause-ok
returns-clause-ok g c = named_ok (λ bytes. bytes.items) (λ contents. TellsName (g.F.Shelf.told c.args.shelf.now) contents c.args.options.now.table) c.args.options.now _ c.args.program.now c.report_by.result
    (λ contents tells. of_table c.in_ok-records.records c.tuning.result c.requires.table (c.in_ok-records.ensures.ok contents tells)
    c.in_ok-table.ensures.healthy c.tuning.ensures c.in_ok-table.ensures.machine) c.report_by.ensures.ok

pub returns-clause-err : goal.returns-clause-err
returns-clause-err g c = named_err (λ (s : Stop). s.status) (λ contents. TellsName (g.F.Shelf.told c.args.shelf.now) contents c.args.options.now.table) c.args.options.now _ c.args.program.now c.report_by.result
    (λ contents tells. of_table c.in_ok-records.records c.tuning.result c.requires.table (c.in_ok-records.ensures.ok contents tells)
    c.in_ok-table.ensures.healthy c.tuning.ensures c.in_ok-table.ensures.machine) c.report_by.ensures.err

pub returns-clause-steps : goal.returns-clause-steps
returns-clause-steps g c = named_steps (λ contents. TellsName (g.F.Shelf.told c.args.shelf.now) contents c.args.options.now.table) c.args.options.now _ c.args.program.now _ _
    (λ contents tells. of_table c.in_ok-records.records c.tuning.result c.requires.table (c.in_ok-records.ensures.ok contents tells)
    c.in_ok-table.ensures.healthy c.tuning.ensures c.in_ok-table.ensures.machine) c.report_by.ensures.steps

pub returns-clause-of_files : goal.returns-clause-of_files
returns-clause-of_files g c = code_of_files (λ (s : Stop). s.status) _ c.args.options.now c.args.program.now c.report_by.result c.report_by.ensures.err

pub returns-clause-fault : goal.returns-clause-fault
returns-clause-fault g c = code_read (λ (s : Stop). s.status) _ c.args.options.now c.args.program.now _ c.report_by.result c.report_by.ensures.err
