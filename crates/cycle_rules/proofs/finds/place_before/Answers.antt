use Rattle.cycle_rules.proofs.Free.{place_own, place_rows}
use Rattle.cycle_rules.proofs.finds.place_before.Goals as goal

pub returns-then-own-ne0 : goal.returns-then-own-ne0
returns-then-own-ne0 c = λ m. place_own c.args.resource _ _ _ (c.place_among-own.ensures c.args.at.cycle) c.if-own-ne0.true

pub returns : goal.returns
returns c = λ m. place_rows c.args.resource _ _ _ _ (c.place_among-own.ensures c.args.at.cycle) c.if-own-ne0.false (c.place_by_rows.ensures m)
