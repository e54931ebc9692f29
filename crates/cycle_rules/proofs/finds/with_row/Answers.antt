use Rattle.std.proofs.Common.{arith, sym, ◌∙◌}
use Rattle.cycle_rules.specs.Given.{input_in}
use Rattle.cycle_rules.specs.Row.{times}
use Rattle.cycle_rules.proofs.Earlier.{last_same, last_first, last_later, last_kept}
use Rattle.cycle_rules.proofs.finds.with_row.Goals as goal

pub returns-then-place-eq0-clause-last : goal.returns-then-place-eq0-clause-last
returns-then-place-eq0-clause-last c = λ m. last_same (input_in m c.args.given.now.body.now c.args.given.now.count) (times c.args.given.now.rows.now) c.args.at.cycle c.args.at.phase c.args.at.row c.args.resource c.args.k c.args.last.row c.args.last.place (c.requires.last m) (sym (c.place_of_row-place.ensures m) ∙ c.if-place-eq0.true)

pub returns-then-last-eq0-clause-last : goal.returns-then-last-eq0-clause-last
returns-then-last-eq0-clause-last c = λ m. last_first (input_in m c.args.given.now.body.now c.args.given.now.count) (times c.args.given.now.rows.now) c.args.at.cycle c.args.at.phase c.args.at.row c.args.resource c.args.k c.args.last.row c.args.last.place c.place_of_row-place.result (c.requires.last m) (c.place_of_row-place.ensures m) (omega (arith, c.if-place-eq0.false)) c.if-last-eq0.true

pub returns-then-issues_before-clause-last : goal.returns-then-issues_before-clause-last
returns-then-issues_before-clause-last c = λ m. last_later (input_in m c.args.given.now.body.now c.args.given.now.count) (times c.args.given.now.rows.now) c.args.at.cycle c.args.at.phase c.args.at.row c.args.resource c.args.k c.args.last.row c.args.last.place c.place_of_row-place.result (c.requires.last m) (c.place_of_row-place.ensures m) (omega (arith, c.if-place-eq0.false)) (omega (arith, c.if-last-eq0.false)) (sym c.issues_before.ensures ∙ c.if-issues_before.true)

pub returns-clause-last : goal.returns-clause-last
returns-clause-last c = λ m. last_kept (input_in m c.args.given.now.body.now c.args.given.now.count) (times c.args.given.now.rows.now) c.args.at.cycle c.args.at.phase c.args.at.row c.args.resource c.args.k c.args.last.row c.args.last.place (c.requires.last m) (omega (arith, c.if-last-eq0.false)) (sym c.issues_before.ensures ∙ c.if-issues_before.false)
