use Rattle.std.proofs.Common.{◌&&◌, arith, ap, sym, ◌∙◌}
use Rattle.std.specs.Prelude.{nat_eq}
use Rattle.std.specs.List.{list_any}
use Rattle.cycle_rules.specs.Pick.{holds_at}
use Rattle.cycle_rules.proofs.Places.{taken_over, taken_past, any_step, any_found}
use Rattle.cycle_rules.proofs.finds.one_holds.Goals as goal

pub returns-then-i-taken : goal.returns-then-i-taken
returns-then-i-taken c = sym (c.loop-i.invariant ∙ ap (list_any (λ h. nat_eq h.unit c.args.unit && holds_at c.args.c h)) (taken_over c.args.from c.loop-i.i c.args.uses.now c.args.taken.now c.if-i-taken.true))

pub returns-then-holds : goal.returns-then-holds
returns-then-holds c = sym (c.loop-i.invariant ∙ any_found _ c.args.from c.loop-i.i c.args.uses.now c.args.taken.now _ 0 c.loop-i-test.true (omega arith) (sym c.holds.ensures ∙ c.if-holds.true))

pub loop-i-preserved : goal.loop-i-preserved
loop-i-preserved c = c.loop-i.invariant ∙ any_step _ c.args.from c.loop-i.i c.args.uses.now c.args.taken.now _ 0 c.loop-i-test.true (omega arith) (sym c.holds.ensures ∙ c.if-holds.false)

pub returns : goal.returns
returns c = sym (c.loop-i.invariant ∙ ap (list_any (λ h. nat_eq h.unit c.args.unit && holds_at c.args.c h)) (taken_past c.args.from c.loop-i.i c.args.uses.now c.args.taken.now (omega arith)))
