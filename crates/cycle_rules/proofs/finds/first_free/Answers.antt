use Rattle.std.proofs.Common.{arith, sym, ◌∙◌}
use Rattle.cycle_rules.proofs.Free.{first_step, first_here, first_over}
use Rattle.cycle_rules.proofs.finds.first_free.Goals as goal

pub returns-then-may_have-clause-is : goal.returns-then-may_have-clause-is
returns-then-may_have-clause-is g c = sym (c.loop-unit.invariant ∙ first_here c.loop-unit.unit g.M.Machine.UNITS _ (omega (arith, c.UNITS-unit-end.ensures, c.loop-unit-test.true)) (sym c.may_have.ensures ∙ c.if-may_have.true))

pub loop-unit-preserved : goal.loop-unit-preserved
loop-unit-preserved g c = c.loop-unit.invariant ∙ first_step c.loop-unit.unit g.M.Machine.UNITS _ (omega (arith, c.UNITS-unit-end.ensures, c.loop-unit-test.true)) (sym c.may_have.ensures ∙ c.if-may_have.false)

pub returns-clause-is : goal.returns-clause-is
returns-clause-is g c = sym (c.loop-unit.invariant ∙ first_over c.loop-unit.unit g.M.Machine.UNITS _ (omega (arith, c.UNITS-unit-end.ensures, c.loop-unit-test.false)))
