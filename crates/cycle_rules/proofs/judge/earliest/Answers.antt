use Rattle.std.proofs.Common.{◌≡◌, ◌<◌, arith, ap, sym, subst, true, false}
use Rattle.cycle_rules.specs.Given.{input_in, may_take}
use Rattle.cycle_rules.specs.Row.{times}
use Rattle.cycle_rules.proofs.Judging.{dispatch_early, issue_early, issue_after, retire_after, retire_before}
use Rattle.cycle_rules.proofs.judge.earliest.Goals as goal

pub overflow_add-result : goal.overflow_add-result
overflow_add-result g c =
    let after : (times c.args.given.now.rows.now c.args.j).dispatch < c.args.taken = issue_after (input_in (g.M.Machine.meaning c.args.machine.now) c.args.given.now.body.now c.args.given.now.count) (times c.args.given.now.rows.now) c.args.j c.args.taken c.requires.run
    (subst (λ s. may_take (input_in (g.M.Machine.meaning c.args.machine.now) c.args.given.now.body.now c.args.given.now.count) (times c.args.given.now.rows.now) c.args.j s c.args.taken ≡ true) c.in-ToIssue.is c.requires.taken) in
    omega (arith, ap (λ t. t.dispatch) c.time.ensures)

pub earliest_retire-requires-clause-room : goal.earliest_retire-requires-clause-room
earliest_retire-requires-clause-room g c =
    let after : (times c.args.given.now.rows.now c.args.j).complete < c.args.taken = retire_after (input_in (g.M.Machine.meaning c.args.machine.now) c.args.given.now.body.now c.args.given.now.count) (times c.args.given.now.rows.now) c.args.j c.args.taken c.requires.run
    (subst (λ s. may_take (input_in (g.M.Machine.meaning c.args.machine.now) c.args.given.now.body.now c.args.given.now.count) (times c.args.given.now.rows.now) c.args.j s c.args.taken ≡ true) c.in-ToRetire.is c.requires.taken) in
    omega arith

pub returns-in-ToDispatch : goal.returns-in-ToDispatch
returns-in-ToDispatch g c = λ b lt. subst (λ s. may_take (input_in (g.M.Machine.meaning c.args.machine.now) c.args.given.now.body.now c.args.given.now.count) (times c.args.given.now.rows.now) c.args.j s b ≡ false) (sym c.in-ToDispatch.is)
    (sym (dispatch_early (input_in (g.M.Machine.meaning c.args.machine.now) c.args.given.now.body.now c.args.given.now.count) (times c.args.given.now.rows.now) c.args.j b c.requires.run (c.earliest_dispatch.ensures b lt)))

pub returns-in-ToIssue : goal.returns-in-ToIssue
returns-in-ToIssue g c = λ b lt. subst (λ s. may_take (input_in (g.M.Machine.meaning c.args.machine.now) c.args.given.now.body.now c.args.given.now.count) (times c.args.given.now.rows.now) c.args.j s b ≡ false) (sym c.in-ToIssue.is)
    (sym (issue_early (input_in (g.M.Machine.meaning c.args.machine.now) c.args.given.now.body.now c.args.given.now.count) (times c.args.given.now.rows.now) c.args.j b c.time.result.now.dispatch c.requires.run (ap (λ t. t.dispatch) c.time.ensures) (omega (arith, lt))))

pub returns-in-ToRetire : goal.returns-in-ToRetire
returns-in-ToRetire g c = λ b lt. subst (λ s. may_take (input_in (g.M.Machine.meaning c.args.machine.now) c.args.given.now.body.now c.args.given.now.count) (times c.args.given.now.rows.now) c.args.j s b ≡ false) (sym c.in-ToRetire.is)
    (retire_before (input_in (g.M.Machine.meaning c.args.machine.now) c.args.given.now.body.now c.args.given.now.count) (times c.args.given.now.rows.now) c.args.j b c.requires.run (c.earliest_retire.ensures b lt))
