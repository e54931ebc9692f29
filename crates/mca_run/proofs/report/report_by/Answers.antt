use Rattle.std.proofs.Common.{subst, sym}
use Rattle.std.proofs.lemmas.Result.{err_from_is_err_and}
use Rattle.mca_run.specs.Asked.{iterations_of}
use Rattle.mca_run.specs.Steps.{MayRefuseCode}
use Rattle.mca_run.proofs.MachineSteps.{binding_may, size_may, length_may, bodies_taken}
use Rattle.mca_run.proofs.report.report_by.Goals as goal

pub returns-in_err-bodies-clause-err : goal.returns-in_err-bodies-clause-err
returns-in_err-bodies-clause-err g c =
    let p = err_from_is_err_and c.from_residual.result c.from_residual.ensures.1 in
    rw (p.1, p.2) (binding_may (g.M.Machine.meaning c.args.machine.now) c.args.options.now c.args.program.now c.in_err-bodies.field-0.0.status c.in_err-bodies.ensures.err)

pub returns-in_err-check_sizes-clause-err : goal.returns-in_err-check_sizes-clause-err
returns-in_err-check_sizes-clause-err g c =
    let p = err_from_is_err_and c.from_residual-in_err-check_sizes.result c.from_residual-in_err-check_sizes.ensures.1 in
    rw (p.1, p.2) (size_may (g.M.Machine.meaning c.args.machine.now) c.args.options.now c.args.program.now c.in_ok-bodies.bodies.items c.iterations.result c.in_err-check_sizes.field-0.0.status
    c.iterations.ensures c.in_ok-bodies.ensures.ok c.in_err-check_sizes.ensures.err)

pub returns-in-Ok-clause-ok : goal.returns-in-Ok-clause-ok
returns-in-Ok-clause-ok g c = record {
  taken = bodies_taken (g.M.Machine.meaning c.args.machine.now) c.args.program.now c.in_ok-bodies.bodies.items (iterations_of c.args.options.now) c.iterations.result
      c.iterations.ensures c.in_ok-bodies.ensures.ok c.in_ok-check_sizes.ensures.ok;
  whole = c.in-Ok.ensures.ok;
  short = c.in-Ok.ensures.short;
}

pub returns-clause-err : goal.returns-clause-err
returns-clause-err g c = subst (MayRefuseCode (g.M.Machine.meaning c.args.machine.now) c.args.options.now c.args.program.now) (sym c.from.ensures)
    (length_may (g.M.Machine.meaning c.args.machine.now) c.args.options.now c.args.program.now c.in-Err.fault
    (bodies_taken (g.M.Machine.meaning c.args.machine.now) c.args.program.now c.in_ok-bodies.bodies.items (iterations_of c.args.options.now) c.iterations.result
    c.iterations.ensures c.in_ok-bodies.ensures.ok c.in_ok-check_sizes.ensures.ok) c.in-Err.ensures.err)
