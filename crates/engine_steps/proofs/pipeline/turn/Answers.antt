use Rattle.std.proofs.Common.{◌≡◌, ◌+◌, ◌-◌, false, arith, sym, ◌∙◌, subst}
use Rattle.resource_units.specs.Stand.{StandsFor as UnitsStandFor}
use Rattle.cycle_rules.specs.Row.{Input}
use Rattle.engine_state.specs.State.{at}
use Rattle.engine_steps.specs.Done.{AreParts}
use Rattle.engine_steps.proofs.Falling.{idle_cycle, one_of, none_of}
use Rattle.engine_steps.proofs.pipeline.turn.Goals as goal

pub retire_rows-retired-requires-clause-flight : goal.retire_rows-retired-requires-clause-flight
retire_rows-retired-requires-clause-flight g c = c.advance.ensures.parts.flight

pub issue_rows-issued-requires-clause-machine : goal.issue_rows-issued-requires-clause-machine
issue_rows-issued-requires-clause-machine g c = c.advance.ensures.parts.machine

pub issue_rows-issued-requires-clause-units : goal.issue_rows-issued-requires-clause-units
issue_rows-issued-requires-clause-units g c = subst (UnitsStandFor g.M.Machine.meaning g.M.Mask.UnitMask.holds c.args.c c.advance.new.units) (sym c.retire_rows-retired.ensures.taken)
    c.advance.ensures.parts.taken

pub returns-clause-done : goal.returns-clause-done
returns-clause-done g c =
    let run : Input = g.R.Rows.input c.args.rows.now in
    let last : c.args.c + 1 - 1 ≡ c.args.c = omega arith in
    subst (λ b. AreParts g.M.Machine.meaning g.M.Mask.UnitMask.holds run c.dispatch_rows-dispatched.new.units c.dispatch_rows-dispatched.new.f b (at run (c.args.c + 1) 0 0)) (sym last)
    (record { machine = c.dispatch_rows-dispatched.ensures.machine; taken = c.dispatch_rows-dispatched.ensures.units; flight = c.dispatch_rows-dispatched.ensures.flight })

pub returns-clause-event : goal.returns-clause-event
returns-clause-event g c told = one_of _ _ _ (sym c.any.ensures ∙ told) c.retire_rows-retired.ensures.event c.issue_rows-issued.ensures.event c.dispatch_rows-dispatched.ensures.event

pub returns-clause-none : goal.returns-clause-none
returns-clause-none g c told =
    let run : Input = g.R.Rows.input c.args.rows.now in
    let all : (c.retire_rows-retired.result ≡ false) × (c.issue_rows-issued.result ≡ false) × (c.dispatch_rows-dispatched.result ≡ false) = none_of _ _ _ (sym c.any.ensures ∙ told) in
    idle_cycle run c.args.c (c.args.c + 1) c.advance.new.f.table.items c.dispatch_rows-dispatched.new.f.table.items
    c.advance.ensures.parts.flight.state c.dispatch_rows-dispatched.ensures.flight.state
    (c.dispatch_rows-dispatched.ensures.none all.2 ∙ c.issue_rows-issued.ensures.none all.1 ∙ c.retire_rows-retired.ensures.none all.0)
