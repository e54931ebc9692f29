use Rattle.std.proofs.Common.{◌<◌, length, arith}
use Rattle.std.proofs.lemmas.Result.{err_from_is_err_and}
use Rattle.mca_run.proofs.MachineSteps.{unbound_exit, more_bodies, body_of}
use Rattle.mca_run.proofs.bodies.bind_regions.Goals as goal

pub returns-in_err-body-clause-err : goal.returns-in_err-body-clause-err
returns-in_err-body-clause-err g c =
    let p = err_from_is_err_and c.from_residual-in_err-body.result c.from_residual-in_err-body.ensures.1 in
    let within : c.loop-k.k < length c.args.program.now.regions = omega (arith, c.loop-k-test.true, c.len-k-end.ensures) in
    rw p.1 (unbound_exit (g.M.Machine.meaning c.args.machine.now) c.args.program.now c.loop-k.k c.loop-k.bodies.items c.instructions.result.now c.in_err-body.field-0.0 p.0.status
    within c.loop-k.invariant c.instructions.ensures c.in_err-body.ensures.exact p.2)

pub loop-k-preserved : goal.loop-k-preserved
loop-k-preserved g c = more_bodies (g.M.Machine.meaning c.args.machine.now) c.args.program.now c.loop-k.k c.loop-k.bodies.items c.push.new.self.items c.in_ok-body.body c.loop-k.invariant
    (body_of (g.M.Machine.meaning c.args.machine.now) c.args.program.now c.loop-k.k c.instructions.result.now c.in_ok-body.body c.requires.sound c.instructions.ensures
    c.in_ok-body.ensures.exact c.in_ok-body.ensures.body c.in_ok-body.ensures.many)
    c.in_ok-push.ensures.items
