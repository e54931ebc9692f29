use Rattle.std.proofs.Common.{◌≡◌, arith, subst, sym, ◌∙◌}
use Rattle.machine_model.specs.declared.limits.Limits.{Limits}
use Rattle.cycle_rules.specs.Below.{sum_below}
use Rattle.cycle_rules.specs.Dispatch.{share}
use Rattle.cycle_rules.specs.Given.{input_in, size_in, may_take}
use Rattle.cycle_rules.specs.Row.{times}
use Rattle.cycle_rules.specs.declared.given.Step.{Step}
use Rattle.cycle_rules.proofs.Stills.{all_still, dispatch_still, issue_still}
use Rattle.cycle_rules.proofs.next.next_cycle.Goals as goal

pub returns-in-ToDispatch : goal.returns-in-ToDispatch
returns-in-ToDispatch g c = record {
  later = c.next_due.ensures.later;
  same = λ b le lt. subst (λ (s : Step). may_take (input_in (g.M.Machine.meaning c.args.machine.now) c.args.given.now.body.now c.args.given.now.count) (times c.args.given.now.rows.now) c.args.j s b
      ≡ may_take (input_in (g.M.Machine.meaning c.args.machine.now) c.args.given.now.body.now c.args.given.now.count) (times c.args.given.now.rows.now) c.args.j s c.args.c) (sym c.in-ToDispatch.is)
      (sym (dispatch_still (input_in (g.M.Machine.meaning c.args.machine.now) c.args.given.now.body.now c.args.given.now.count) (times c.args.given.now.rows.now) c.args.c b c.args.j (omega (arith, (g.met.M.Machine.valid c.args.machine.now).limits.width_low)) le c.requires.run
      (all_still (input_in (g.M.Machine.meaning c.args.machine.now) c.args.given.now.body.now c.args.given.now.count) c.args.given.now.rows.now c.args.c b (omega (arith, c.if-c-eq0.false)) le (λ k run given. c.next_due.ensures.rows b k le lt run given))
      (λ i low. c.next_due.ensures.reads b i le lt low)
      (subst (λ (l : Limits). sum_below c.args.j (λ k. share l.width (size_in c.args.given.now.body.now l.reorder k) (times c.args.given.now.rows.now k).dispatch c.args.c) ≡ 0) c.limits-limits.ensures (sym c.shares.ensures.is ∙ c.if-shares-ne0.false))));
}

pub returns-in-ToIssue : goal.returns-in-ToIssue
returns-in-ToIssue g c = record {
  later = c.next_due-in-ToIssue.ensures.later;
  same = λ b le lt. subst (λ (s : Step). may_take (input_in (g.M.Machine.meaning c.args.machine.now) c.args.given.now.body.now c.args.given.now.count) (times c.args.given.now.rows.now) c.args.j s b
      ≡ may_take (input_in (g.M.Machine.meaning c.args.machine.now) c.args.given.now.body.now c.args.given.now.count) (times c.args.given.now.rows.now) c.args.j s c.args.c) (sym c.in-ToIssue.is)
      (sym (issue_still (input_in (g.M.Machine.meaning c.args.machine.now) c.args.given.now.body.now c.args.given.now.count) (times c.args.given.now.rows.now) c.args.c b c.args.j le c.requires.run
      (all_still (input_in (g.M.Machine.meaning c.args.machine.now) c.args.given.now.body.now c.args.given.now.count) c.args.given.now.rows.now c.args.c b (omega (arith, c.if-c-eq0.false)) le (λ k run given. c.next_due-in-ToIssue.ensures.rows b k le lt run given))
      (λ i low. c.next_due-in-ToIssue.ensures.reads b i le lt low)));
}
