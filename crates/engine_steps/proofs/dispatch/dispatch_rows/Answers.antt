use Rattle.std.proofs.Common.{refl, sym, ◌∙◌}
use Rattle.cycle_rules.specs.Row.{Input}
use Rattle.engine_steps.proofs.Steps.{flight_at, dispatches_first, dispatches_no_more, next_cycle}
use Rattle.engine_steps.proofs.dispatch.dispatch_rows.Goals as goal

pub loop-any-init : goal.loop-any-init
loop-any-init g c = record {
  flight = dispatches_first (g.R.Rows.input c.args.rows.now) c.args.f.now c.args.c c.requires.flight;
  units = c.requires.units;
  machine = c.requires.machine;
  event = λ e. cc;
  none = λ _. refl;
}

pub returns-clause-flight : goal.returns-clause-flight
returns-clause-flight g c =
    let run : Input = g.R.Rows.input c.args.rows.now in
    flight_at run c.loop-any.f c.args.c _ _ c.loop-any.invariant.flight
    (next_cycle run c.args.c _ (dispatches_no_more run c.loop-any.f c.args.c c.loop-any.invariant.flight (sym c.dispatches_now.ensures ∙ c.loop-any-test.false)))
