use Rattle.std.proofs.Common.{◌≡◌, false, arith, rules, sym, ◌∙◌}
use Rattle.cycle_rules.proofs.Below.{all_not}
use Rattle.cycle_rules.proofs.room.all_let_join.Goals as goal

pub returns-then-not-lets_join : goal.returns-then-not-lets_join
returns-then-not-lets_join c = all_not c.args.j _ c.loop-k.k (omega arith) (let e : c.lets_join.result ≡ false = search rules in sym c.lets_join.ensures ∙ e)
