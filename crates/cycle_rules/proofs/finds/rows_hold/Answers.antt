use Rattle.std.proofs.Common.{arith, sym, ◌∙◌, below_more}
use Rattle.cycle_rules.specs.Given.{input_in}
use Rattle.cycle_rules.specs.Row.{times}
use Rattle.cycle_rules.proofs.Earlier.{some_earlier, none_earlier}
use Rattle.cycle_rules.proofs.finds.rows_hold.Goals as goal

pub returns-then-row_holds : goal.returns-then-row_holds
returns-then-row_holds c = λ m. some_earlier (input_in m c.args.given.now.body.now c.args.given.now.count) (times c.args.given.now.rows.now) _ c.args.at.cycle c.args.at.phase c.args.at.row c.loop-k.k (omega (arith, c.known-k-end.ensures)) (sym (c.row_holds.ensures m) ∙ c.if-row_holds.true)

pub loop-k-preserved : goal.loop-k-preserved
loop-k-preserved c = λ m. below_more _ _ (c.loop-k.invariant m) (sym (c.row_holds.ensures m) ∙ c.if-row_holds.false)

pub returns : goal.returns
returns c = λ m. none_earlier (input_in m c.args.given.now.body.now c.args.given.now.count) c.args.given.now.rows.now _ c.args.at.cycle c.args.at.phase c.args.at.row (λ k low in_table. c.loop-k.invariant m k (omega (arith, c.known-k-end.ensures)))
