use Rattle.std.proofs.Common.{◌≡◌, true, false, rules, ap, sym, ◌∙◌}
use Rattle.cycle_rules.specs.Given.{input_in}
use Rattle.cycle_rules.specs.Pick.{place_after, taken_by}
use Rattle.cycle_rules.specs.Row.{Row, times}
use Rattle.cycle_rules.proofs.Earlier.{place_issued, place_not}
use Rattle.cycle_rules.proofs.finds.place_of_row.Goals as goal

pub returns-then-not-has_issued : goal.returns-then-not-has_issued
returns-then-not-has_issued c = λ m. place_not (input_in m c.args.given.now.body.now c.args.given.now.count) (times c.args.given.now.rows.now) c.args.at.cycle c.args.at.phase c.args.at.row c.args.resource c.args.k (sym (c.has_issued.ensures m) ∙ (let e : c.has_issued.result ≡ false = search rules in e))

pub returns : goal.returns
returns c = λ m. c.place_among.ensures (times c.args.given.now.rows.now c.args.k).issue
    ∙ (λ i. place_after c.args.resource (taken_by (times c.args.given.now.rows.now c.args.k).issue ((c.used_by.ensures ∙ ap (λ (r : Row). r.uses) c.row.ensures.row) i) (c.time.ensures i).units))
    ∙ place_issued (input_in m c.args.given.now.body.now c.args.given.now.count) (times c.args.given.now.rows.now) c.args.at.cycle c.args.at.phase c.args.at.row c.args.resource c.args.k (sym (c.has_issued.ensures m) ∙ (let e : c.has_issued.result ≡ true = search rules in e))
