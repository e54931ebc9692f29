use Rattle.std.proofs.Common.{ℕ, ◌+◌, List, arith, ap, subst, ◌∙◌}
use Rattle.machine_model.specs.declared.facts.Use.{Use}
use Rattle.cycle_rules.specs.Given.{row_in}
use Rattle.cycle_rules.specs.Held.{NoChange}
use Rattle.cycle_rules.specs.Pick.{taken_by}
use Rattle.cycle_rules.specs.Row.{Row, times}
use Rattle.cycle_rules.specs.Still.{IsStill}
use Rattle.cycle_rules.specs.declared.times.Times.{Times}
use Rattle.cycle_rules.proofs.next.nearer_of_row.Goals as goal

pub returns-clause-still : goal.returns-clause-still
returns-clause-still c = λ m b le lt. record {
  dispatch = subst (λ (x : Times). IsStill x.dispatch c.args.c b) c.time-time.ensures (c.nearer-dispatch.ensures.still b le (omega (arith, lt, c.nearer_of_uses.ensures.low, c.nearer-retire.ensures.low, c.nearer-complete.ensures.low, c.nearer_after-issued.ensures.low, c.nearer-issue.ensures.low, c.nearer_after-dispatched.ensures.low)));
  dispatched = subst (λ (x : Times). IsStill (x.dispatch + 1) c.args.c b) c.time-time.ensures (c.nearer_after-dispatched.ensures.still b le (omega (arith, lt, c.nearer_of_uses.ensures.low, c.nearer-retire.ensures.low, c.nearer-complete.ensures.low, c.nearer_after-issued.ensures.low, c.nearer-issue.ensures.low)));
  issue = subst (λ (x : Times). IsStill x.issue c.args.c b) c.time-time.ensures (c.nearer-issue.ensures.still b le (omega (arith, lt, c.nearer_of_uses.ensures.low, c.nearer-retire.ensures.low, c.nearer-complete.ensures.low, c.nearer_after-issued.ensures.low)));
  issued = subst (λ (x : Times). IsStill (x.issue + 1) c.args.c b) c.time-time.ensures (c.nearer_after-issued.ensures.still b le (omega (arith, lt, c.nearer_of_uses.ensures.low, c.nearer-retire.ensures.low, c.nearer-complete.ensures.low)));
  complete = subst (λ (x : Times). IsStill x.complete c.args.c b) c.time-time.ensures (c.nearer-complete.ensures.still b le (omega (arith, lt, c.nearer_of_uses.ensures.low, c.nearer-retire.ensures.low)));
  retire = subst (λ (x : Times). IsStill x.retire c.args.c b) c.time-time.ensures (c.nearer-retire.ensures.still b le (omega (arith, lt, c.nearer_of_uses.ensures.low)));
  units = subst (λ (x : ℕ). NoChange m c.args.c b (taken_by x (row_in c.args.given.now.body.now c.args.k).uses (times c.args.given.now.rows.now c.args.k).units)) (ap (λ t. t.issue) c.time-time.ensures)
      (subst (λ (us : List Use). NoChange m c.args.c b (taken_by c.time-time.result.now.issue us (times c.args.given.now.rows.now c.args.k).units)) (c.used_by.ensures ∙ ap (λ (r : Row). r.uses) c.row.ensures.row)
      (c.nearer_of_uses.ensures.still m (times c.args.given.now.rows.now c.args.k).units b le lt));
}
