use Rattle.std.proofs.Common.{◌≡◌, true, false, rules, sym, ◌∙◌, ap}
use Rattle.cycle_rules.specs.Dispatch.{has_room}
use Rattle.cycle_rules.specs.Given.{input_in}
use Rattle.cycle_rules.specs.Row.{times}
use Rattle.cycle_rules.proofs.Judging.{retire_unissued, retire_undone, retire_early, retire_room}
use Rattle.cycle_rules.proofs.judge.can_retire.Goals as goal

pub returns-then-time-c : goal.returns-then-time-c
returns-then-time-c g c = retire_unissued (input_in (g.M.Machine.meaning c.args.machine.now) c.args.given.now.body.now c.args.given.now.count) (times c.args.given.now.rows.now) c.args.j c.args.c _ c.requires.run (ap (λ t. t.issue) c.time.ensures) c.if-time-c.true

pub returns-then-time-c-2 : goal.returns-then-time-c-2
returns-then-time-c-2 g c = retire_undone (input_in (g.M.Machine.meaning c.args.machine.now) c.args.given.now.body.now c.args.given.now.count) (times c.args.given.now.rows.now) c.args.j c.args.c _ c.requires.run (ap (λ t. t.complete) c.time-2.ensures) c.if-time-c-2.true

pub returns-then-not-follows_retire : goal.returns-then-not-follows_retire
returns-then-not-follows_retire g c = retire_early (input_in (g.M.Machine.meaning c.args.machine.now) c.args.given.now.body.now c.args.given.now.count) (times c.args.given.now.rows.now) c.args.j c.args.c c.requires.run
    (sym c.follows_retire.ensures ∙ (let e : c.follows_retire.result ≡ false = search rules in e))

pub returns : goal.returns
returns g c = retire_room (input_in (g.M.Machine.meaning c.args.machine.now) c.args.given.now.body.now c.args.given.now.count) (times c.args.given.now.rows.now) c.args.j c.args.c _ _ _ c.requires.run
    (ap (λ t. t.issue) c.time.ensures) c.if-time-c.false (ap (λ t. t.complete) c.time-2.ensures) c.if-time-c-2.false
    (sym c.follows_retire.ensures ∙ (let e : c.follows_retire.result ≡ true = search rules in e))
    (c.has_room.ensures ∙ (λ i. has_room (c.limits.ensures i).retire (c.retiring.ensures i)))
