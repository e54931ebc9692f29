use Rattle.std.proofs.Common.{◌+◌, ◌<◌, ◌≤◌, arith, sym, subst}
use Rattle.cycle_rules.specs.CycleBound.{cycle_bound}
use Rattle.cycle_rules.specs.Row.{Input}
use Rattle.engine_steps.specs.Done.{Falls, IsIdle}
use Rattle.event_engine.specs.Sound.{input_of}
use Rattle.event_engine.specs.Turn.{left_at, IsTurn, IsBounded}
use Rattle.event_engine.proofs.Turning.{turn_of, left_falls}
use Rattle.event_engine.proofs.engine.EventEnginePipe.turn.Goals as goal

pub turn-event-requires-clause-low : goal.turn-event-requires-clause-low
turn-event-requires-clause-low g c =
    let run : Input = input_of g.M.Machine.meaning c.args.self.now in
    let t : IsTurn run c.args.self.now.from c.args.c = turn_of run c.args.self.now.from c.args.c c.args.self.now.next c.requires.sound.turn c.requires.due in
    omega (arith, t.before, c.requires.sound.bounded.fits)

pub turn-event-requires-clause-done : goal.turn-event-requires-clause-done
turn-event-requires-clause-done g c =
    let run : Input = input_of g.M.Machine.meaning c.args.self.now in
    let t : IsTurn run c.args.self.now.from c.args.c = turn_of run c.args.self.now.from c.args.c c.args.self.now.next c.requires.sound.turn c.requires.due in
    (c.args.self.now.from, t.later, t.same, c.requires.sound.done)

pub next_turn-self-requires-clause-bounded : goal.next_turn-self-requires-clause-bounded
next_turn-self-requires-clause-bounded g c = subst IsBounded (sym c.turn-event.ensures.run) c.requires.sound.bounded

pub next_turn-self-requires-clause-low : goal.next_turn-self-requires-clause-low
next_turn-self-requires-clause-low g c =
    let run : Input = input_of g.M.Machine.meaning c.args.self.now in
    let t : IsTurn run c.args.self.now.from c.args.c = turn_of run c.args.self.now.from c.args.c c.args.self.now.next c.requires.sound.turn c.requires.due in
    subst (λ (r : Input). c.args.c < cycle_bound r) (sym c.turn-event.ensures.run) t.before

pub next_turn-self-requires-clause-event : goal.next_turn-self-requires-clause-event
next_turn-self-requires-clause-event g c told = subst (λ (r : Input). Falls r c.args.c) (sym c.turn-event.ensures.run) (c.turn-event.ensures.event told)

pub next_turn-self-requires-clause-none : goal.next_turn-self-requires-clause-none
next_turn-self-requires-clause-none g c told = subst (λ (r : Input). IsIdle r c.args.c (c.args.c + 1)) (sym c.turn-event.ensures.run) (c.turn-event.ensures.none told)

pub returns-clause-sound : goal.returns-clause-sound
returns-clause-sound g c =
    let run : Input = input_of g.M.Machine.meaning c.args.self.now in
    let t : IsTurn run c.args.self.now.from c.args.c = turn_of run c.args.self.now.from c.args.c c.args.self.now.next c.requires.sound.turn c.requires.due in
    record {
      bounded = subst IsBounded (sym c.turn-event.ensures.run) c.requires.sound.bounded;
      low = subst (λ (r : Input). c.args.c + 1 ≤ cycle_bound r) (sym c.turn-event.ensures.run) (omega (arith, t.before));
      done = c.turn-event.ensures.done;
      turn = c.next_turn-self.ensures;
    }

pub returns-clause-left : goal.returns-clause-left
returns-clause-left g c =
    let run : Input = input_of g.M.Machine.meaning c.args.self.now in
    let t : IsTurn run c.args.self.now.from c.args.c = turn_of run c.args.self.now.from c.args.c c.args.self.now.next c.requires.sound.turn c.requires.due in
    subst (λ (r : Input). left_at r (c.args.c + 1) + 1 ≤ left_at run c.args.self.now.from) (sym c.turn-event.ensures.run) (left_falls run c.args.self.now.from c.args.c t)
