use Rattle.std.proofs.Common.{ap}
use Rattle.cycle_rules.specs.Given.{input_in}
use Rattle.cycle_rules.specs.Row.{times}
use Rattle.cycle_rules.proofs.Judging.{issue_early, issue_later}
use Rattle.cycle_rules.proofs.judge.can_issue.Goals as goal

pub returns-then-time-c : goal.returns-then-time-c
returns-then-time-c g c = issue_early (input_in (g.M.Machine.meaning c.args.machine.now) c.args.given.now.body.now c.args.given.now.count) (times c.args.given.now.rows.now) c.args.j c.args.c _ c.requires.run (ap (λ t. t.dispatch) c.time.ensures) c.if-time-c.true

pub returns : goal.returns
returns g c = issue_later (input_in (g.M.Machine.meaning c.args.machine.now) c.args.given.now.body.now c.args.given.now.count) (times c.args.given.now.rows.now) c.args.j c.args.c _ _ c.requires.run (ap (λ t. t.dispatch) c.time.ensures) c.if-time-c.false c.can_start.ensures
