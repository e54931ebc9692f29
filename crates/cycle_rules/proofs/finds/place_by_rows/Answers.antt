use Rattle.std.proofs.Common.{arith}
use Rattle.cycle_rules.specs.Given.{input_in}
use Rattle.cycle_rules.specs.Row.{times}
use Rattle.cycle_rules.proofs.Earlier.{last_start, last_place}
use Rattle.cycle_rules.proofs.finds.place_by_rows.Goals as goal

pub loop-k-init : goal.loop-k-init
loop-k-init c = record { low = omega arith; last = λ m. last_start (input_in m c.args.given.now.body.now c.args.given.now.count) (times c.args.given.now.rows.now) c.args.at.cycle c.args.at.phase c.args.at.row c.args.resource }

pub returns : goal.returns
returns c = λ m. last_place (input_in m c.args.given.now.body.now c.args.given.now.count) c.args.given.now.rows.now c.args.at.cycle c.args.at.phase c.args.at.row c.args.resource c.loop-k.k c.loop-k.last.row c.loop-k.last.place
    (λ k low in_table. omega (arith, c.known-k-end.ensures)) (omega (arith, c.known-k-end.ensures)) (c.loop-k.invariant.last m)
