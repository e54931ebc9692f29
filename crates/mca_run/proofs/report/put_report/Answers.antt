use Rattle.std.proofs.lemmas.Result.{err_from_is_err_and}
use Rattle.mca_views.specs.Bottleneck.{sequence_of}
use Rattle.mca_run.proofs.Reports.{gap_fails, put_ok, put_err, is_shown}
use Rattle.mca_run.proofs.report.put_report.Goals as goal

pub returns-in_err-put_gap-clause-err : goal.returns-in_err-put_gap-clause-err
returns-in_err-put_gap-clause-err g c =
    let p = err_from_is_err_and c.from_residual-in_err-put_gap.result c.from_residual-in_err-put_gap.ensures.1 in
    rw (p.1, p.2) (gap_fails (g.M.Machine.meaning c.args.machine.now) c.args.options.now c.args.program.now c.args.k c.iterations-iterations.result c.instructions.result.now c.as_slice.result.now c.args.body.now c.in_ok-run.run'.rows (sequence_of c.in_ok-held.held) c.args.page.now c.in_err-put_gap.field-0.0
    c.instructions.ensures c.as_slice.ensures c.iterations-iterations.ensures c.requires.bound c.in_ok-run.ensures.run c.in_ok-held.ensures.asked c.in_err-put_gap.ensures.long)

pub held_up_for-requires-clause-shown : goal.held_up_for-requires-clause-shown
held_up_for-requires-clause-shown g c = is_shown _ _ (g.M.Machine.meaning c.args.machine.now) c.args.options.now c.args.program.now c.args.k c.iterations-iterations.result c.instructions.result.now c.as_slice.result.now c.args.body.now c.in_ok-run.run'.rows
    (g.met.M.Machine.valid c.args.machine.now) c.requires.sound c.requires.region c.instructions.ensures c.as_slice.ensures c.iterations-iterations.ensures c.requires.rows c.requires.bound c.in_ok-run.ensures.run

pub put_region-requires-clause-shown : goal.put_region-requires-clause-shown
put_region-requires-clause-shown g c = is_shown _ _ (g.M.Machine.meaning c.args.machine.now) c.args.options.now c.args.program.now c.args.k c.iterations-iterations.result c.instructions.result.now c.as_slice.result.now c.args.body.now c.in_ok-run.run'.rows
    (g.met.M.Machine.valid c.args.machine.now) c.requires.sound c.requires.region c.instructions.ensures c.as_slice.ensures c.iterations-iterations.ensures c.requires.rows c.requires.bound c.in_ok-run.ensures.run

pub returns-clause-ok : goal.returns-clause-ok
returns-clause-ok g c = put_ok (g.M.Machine.meaning c.args.machine.now) c.args.options.now c.args.program.now c.args.k c.iterations-iterations.result c.instructions.result.now c.as_slice.result.now c.name.result.now c.args.body.now c.in_ok-run.run'.rows (sequence_of c.in_ok-held.held)
    c.args.page.now c.put_gap.new.page c.put_region.new.page c.put_region.result c.instructions.ensures c.as_slice.ensures c.name.ensures c.iterations-iterations.ensures c.requires.bound c.in_ok-run.ensures.run c.in_ok-held.ensures.asked c.in_ok-put_gap.ensures.ok c.put_region.ensures.ok

pub returns-clause-err : goal.returns-clause-err
returns-clause-err g c = put_err (g.M.Machine.meaning c.args.machine.now) c.args.options.now c.args.program.now c.args.k c.iterations-iterations.result c.instructions.result.now c.as_slice.result.now c.name.result.now c.args.body.now c.in_ok-run.run'.rows (sequence_of c.in_ok-held.held)
    c.args.page.now c.put_gap.new.page c.put_region.result c.instructions.ensures c.as_slice.ensures c.name.ensures c.iterations-iterations.ensures c.requires.bound c.in_ok-run.ensures.run c.in_ok-held.ensures.asked c.in_ok-put_gap.ensures.ok c.put_region.ensures.long
