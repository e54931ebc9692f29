use Rattle.std.proofs.Common.{arith}
use Rattle.cycle_rules.specs.Given.{input_in}
use Rattle.cycle_rules.proofs.Wrong.{all_right, row_more}
use Rattle.cycle_rules.proofs.judge.first_place.Goals as goal

pub loop-j-preserved : goal.loop-j-preserved
loop-j-preserved g c = row_more (input_in (g.M.Machine.meaning c.args.machine.now) c.args.given.now.body.now c.args.given.now.count) c.args.given.now.rows.now c.loop-j.j c.loop-j.invariant c.loop-j-test.true (omega (arith, c.if-j-given.false)) c.in-None.ensures.none

pub returns-clause-none : goal.returns-clause-none
returns-clause-none g c = all_right (input_in (g.M.Machine.meaning c.args.machine.now) c.args.given.now.body.now c.args.given.now.count) c.args.given.now.rows.now c.loop-j.j c.loop-j.invariant
    (omega (arith, c.loop-j-test.false, c.loop-j.auto.j-end)) (omega (arith, c.loop-j-test.false, c.loop-j.auto.j-end, c.if-given.false))
