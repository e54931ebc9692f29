use Rattle.std.proofs.Common.{◌+◌, ◌≤◌, arith, sym, ◌∙◌, ap, refl}
use Rattle.std.specs.Prelude.{nat_eq}
use Rattle.cycle_rules.specs.Row.{Input, times}
use Rattle.cycle_rules.proofs.Counts.{count_le}
use Rattle.engine_state.specs.State.{at}
use Rattle.engine_state.specs.Flight.{retired_in}
use Rattle.engine_state.proofs.Flow.{none_yet, one_yet}
use Rattle.engine_steps.proofs.Falling.{retire_falls}
use Rattle.engine_steps.proofs.Steps.{retires_first, retires_no_more, flight_key}
use Rattle.engine_steps.proofs.retire.retire_rows.Goals as goal

pub loop-f-init : goal.loop-f-init
loop-f-init g c =
    let run : Input = g.R.Rows.input c.args.rows.now in
    record {
      flight = retires_first run c.args.f.now c.args.c c.requires.flight;
      count = sym (none_yet run c.args.c c.args.f.now.front c.args.f.now.head c.args.f.now.table.items c.requires.flight.state c.requires.flight.flow c.args.f.now.front (omega arith));
      taken = refl;
      event = λ lt. absurd (omega (arith, lt));
      none = λ _. refl;
    }

pub overflow_add-count : goal.overflow_add-count
overflow_add-count g c = omega (
  arith,
  c.loop-f.invariant.count,
  count_le c.loop-f.f.front (λ k. nat_eq (times c.loop-f.f.table.items k).retire c.args.c),
  c.loop-f.invariant.flight.flow.order,
  c.loop-f.invariant.flight.flow.within,
  c.loop-f.invariant.flight.ranges.rows,
)

pub loop-f-preserved : goal.loop-f-preserved
loop-f-preserved g c =
    let run : Input = g.R.Rows.input c.args.rows.now in
    let low : c.loop-f.f.front + 1 ≤ run.rows = omega (arith, c.retire_front.ensures.front, c.retire_front.ensures.flight.flow.order, c.retire_front.ensures.flight.flow.within) in
    record {
      flight = flight_key run c.retire_front.new.f c.args.c (at run c.args.c 0 (c.loop-f.f.front + 1)) (at run c.args.c 0 c.retire_front.new.f.front) (ap (at run c.args.c 0) (sym c.retire_front.ensures.front)) c.retire_front.ensures.flight;
      count = ap (λ n. n + 1) c.loop-f.invariant.count ∙ sym (one_yet c.args.c c.loop-f.f.front c.loop-f.f.table.items c.retire_front.new.f.table.items c.retire_front.ensures.retire c.retire_front.ensures.others)
          ∙ ap (retired_in c.retire_front.new.f.table.items c.args.c) (sym c.retire_front.ensures.front);
      taken = c.retire_front.ensures.taken ∙ c.loop-f.invariant.taken;
      event = λ _. retire_falls run c.args.c (c.loop-f.f.front + 1) c.loop-f.f.front _ c.retire_front.ensures.flight.state (omega (arith, low)) (omega (arith, low)) (omega (arith, c.requires.low)) c.retire_front.ensures.retire;
      none = λ zero_count. absurd (omega (arith, zero_count));
    }

pub returns-clause-flight : goal.returns-clause-flight
returns-clause-flight g c = retires_no_more (g.R.Rows.input c.args.rows.now) c.loop-f.f c.args.c c.loop-f.invariant.flight (sym c.retires_now.ensures ∙ c.loop-f-test.false)
