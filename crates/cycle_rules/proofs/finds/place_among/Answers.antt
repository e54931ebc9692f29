use Rattle.std.proofs.Common.{arith, sym, ◌∙◌}
use Rattle.cycle_rules.proofs.Places.{taken_over, taken_past, place_step, place_end}
use Rattle.cycle_rules.proofs.finds.place_among.Goals as goal

pub returns-then-i-taken : goal.returns-then-i-taken
returns-then-i-taken c = λ from. sym (c.loop-i.invariant from ∙ place_end c.args.resource c.loop-i.place _ (taken_over from c.loop-i.i c.args.uses.now c.args.taken.now c.if-i-taken.true))

pub loop-i-preserved : goal.loop-i-preserved
loop-i-preserved c = λ from. c.loop-i.invariant from ∙ place_step c.args.resource from c.loop-i.i c.loop-i.place c.place_of-place.result c.args.uses.now c.args.taken.now _ 0 c.loop-i-test.true (omega arith) (c.place_of-place.ensures from)

pub returns : goal.returns
returns c = λ from. sym (c.loop-i.invariant from ∙ place_end c.args.resource c.loop-i.place _ (taken_past from c.loop-i.i c.args.uses.now c.args.taken.now (omega arith)))
