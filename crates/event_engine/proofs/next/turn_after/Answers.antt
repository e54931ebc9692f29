use Rattle.std.proofs.Common.{◌≡◌, ◌+◌, ◌-◌, arith, sym, subst}
use Rattle.cycle_rules.specs.Row.{Input}
use Rattle.engine_steps.specs.Done.{IsIdle, Falls}
use Rattle.engine_steps.specs.Pipeline.{run_of}
use Rattle.event_engine.proofs.Turning.{turn_after_event}
use Rattle.event_engine.proofs.next.turn_after.Goals as goal

pub returns-then-event : goal.returns-then-event
returns-then-event g c =
    let run : Input = run_of g.M.Machine.meaning c.args.pipeline.now in
    let f : Falls run c.args.c = c.requires.event c.if-event.true in
    turn_after_event run c.args.c f.phase f.row f.fall c.requires.bounded (omega (arith, c.requires.low)) c.requires.more f.in_phases f.in_rows f.there f.then_is

pub next_time-requires-clause-idle : goal.next_time-requires-clause-idle
next_time-requires-clause-idle g c =
    let run : Input = run_of g.M.Machine.meaning c.args.pipeline.now in
    let before : c.args.c + 1 - 1 ≡ c.args.c = omega arith in
    subst (λ b. IsIdle run b (c.args.c + 1)) (sym before) (c.requires.none c.if-event.false)
