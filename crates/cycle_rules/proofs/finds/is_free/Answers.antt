use Rattle.std.proofs.Common.{sym, ◌∙◌}
use Rattle.cycle_rules.proofs.Free.{free_held, free_own}
use Rattle.cycle_rules.proofs.finds.is_free.Goals as goal

pub returns-then-rows_hold : goal.returns-then-rows_hold
returns-then-rows_hold c = λ m. free_held _ _ c.args.at.cycle c.args.unit (sym (c.rows_hold.ensures m) ∙ c.if-rows_hold.true)

pub returns : goal.returns
returns c = λ m. free_own _ _ c.args.at.cycle c.args.unit c.one_holds.result (sym (c.rows_hold.ensures m) ∙ c.if-rows_hold.false) c.one_holds.ensures
