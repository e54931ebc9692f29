use Rattle.std.proofs.Common.{ℕ, ◌+◌, ◌<◌, ◌≤◌, length, arith}
use Rattle.std.proofs.lemmas.Result.{err_from_is_err_and}
use Rattle.cycle_rules.specs.Below.{sum_below}
use Rattle.mca_run.specs.Asked.{iterations_of}
use Rattle.mca_run.specs.Turns.{region_turns}
use Rattle.mca_run.proofs.Reports.{no_reports, one_more, over_all, all_reported, sum_next, sum_to}
use Rattle.mca_run.proofs.report.put_reports.Goals as goal

pub loop-k-init : goal.loop-k-init
loop-k-init g c = record {
  page = no_reports (g.M.Machine.meaning c.args.machine.now) c.args.options.now c.args.program.now c.make-page.result c.make-page.ensures;
  steps = omega arith;
}

pub returns-in_err-put_report-clause-err : goal.returns-in_err-put_report-clause-err
returns-in_err-put_report-clause-err g c =
    let p = err_from_is_err_and c.from_residual.result c.from_residual.ensures.1 in
    let within : c.loop-k.k < length c.args.program.now.regions = omega (arith, c.loop-k-test.true, c.len-k-end.ensures) in
    rw (p.1, p.2) (over_all (g.M.Machine.meaning c.args.machine.now) c.args.options.now c.args.program.now c.loop-k.k c.loop-k.page c.in_err-put_report.field-0.0
    (all_reported _ _ (g.M.Machine.meaning c.args.machine.now) c.args.options.now c.args.program.now c.args.bodies.now (g.met.M.Machine.valid c.args.machine.now) c.requires.sound c.requires.bodies c.requires.rows)
    within c.loop-k.invariant.page c.in_err-put_report.ensures.err)

pub returns-in_err-put_report-clause-steps : goal.returns-in_err-put_report-clause-steps
returns-in_err-put_report-clause-steps g c =
    let f : ℕ → ℕ = region_turns (g.M.Machine.meaning c.args.machine.now) (iterations_of c.args.options.now) c.args.program.now in
    let within : c.loop-k.k + 1 ≤ length c.args.program.now.regions = omega (arith, c.loop-k-test.true, c.len-k-end.ensures) in
    let here : c.put_report.new.steps ≤ c.loop-k.steps + f c.loop-k.k = c.put_report.ensures.steps in
    let before : c.loop-k.steps ≤ c.args.steps.now + sum_below c.loop-k.k f = c.loop-k.invariant.steps in
    omega (arith, here, before, sum_next c.loop-k.k f, sum_to (c.loop-k.k + 1) (length c.args.program.now.regions) f within)

pub loop-k-preserved : goal.loop-k-preserved
loop-k-preserved g c =
    let f : ℕ → ℕ = region_turns (g.M.Machine.meaning c.args.machine.now) (iterations_of c.args.options.now) c.args.program.now in
    let here : c.put_report.new.steps ≤ c.loop-k.steps + f c.loop-k.k = c.put_report.ensures.steps in
    let before : c.loop-k.steps ≤ c.args.steps.now + sum_below c.loop-k.k f = c.loop-k.invariant.steps in
    record {
      page = one_more (g.M.Machine.meaning c.args.machine.now) c.args.options.now c.args.program.now c.loop-k.k c.loop-k.page c.put_report.new.page c.in_ok-put_report.ensures.ok.0
          c.loop-k.invariant.page c.in_ok-put_report.ensures.ok.1 c.in_ok-put_report.ensures.ok.2;
      steps = omega (arith, here, before, sum_next c.loop-k.k f);
    }
