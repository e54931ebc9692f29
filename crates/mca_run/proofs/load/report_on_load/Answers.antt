use Rattle.std.proofs.Common.{◌∙◌}
use Rattle.std.proofs.lemmas.Result.{IfOk-weaker}
use Rattle.mca_run.specs.LoadReport.{IsLoadReport}
use Rattle.mca_run.proofs.LoadReports.{lent_shown, lent_reported}
use Rattle.mca_run.proofs.load.report_on_load.Goals as goal

pub text-requires : goal.text-requires
text-requires g c = record {
  shown = lent_shown c.args.seed c.new.result _ c.deref.result.now c.deref-2.result.now c.in-Ok.body c.as_slice.result.now c.as_slice-2.result.now c.in_ok-run.run'.rows
      c.make-machine.ensures (c.deref.ensures.value ∙ c.in_ok-code.ensures.program) (c.deref-2.ensures.value ∙ c.in_ok-code.ensures.program) c.as_slice.ensures c.as_slice-2.ensures
      c.in-Ok.ensures.many c.in-Ok.ensures.body c.in_ok-run.ensures.run;
}

pub returns-clause-report : goal.returns-clause-report
returns-clause-report g c = IfOk-weaker c.text.result _ (λ bytes. IsLoadReport c.args.seed bytes.items)
    (λ bytes is. lent_reported c.args.seed c.new.result _ c.deref.result.now c.deref-2.result.now c.in-Ok.body c.as_slice.result.now c.as_slice-2.result.now c.in_ok-run.run'.rows bytes.items
    (record { dispatch = c.new.ensures.dispatch; registers = c.new.ensures.registers; loads = c.new.ensures.loads; stores = c.new.ensures.stores; no_alias = c.new.ensures.no_alias })
    c.make-machine.ensures (c.deref.ensures.value ∙ c.in_ok-code.ensures.program) (c.deref-2.ensures.value ∙ c.in_ok-code.ensures.program) c.as_slice.ensures c.as_slice-2.ensures
    c.in-Ok.ensures.exact c.in_ok-run.ensures.run is)
    c.text.ensures
