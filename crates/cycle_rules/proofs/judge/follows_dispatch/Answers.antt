use Rattle.std.proofs.Common.{◌-◌, arith, ap}
use Rattle.cycle_rules.proofs.Judging.{follows_first, follows_next}
use Rattle.cycle_rules.proofs.judge.follows_dispatch.Goals as goal

pub returns-then-j-eq0 : goal.returns-then-j-eq0
returns-then-j-eq0 c = follows_first _ _ _ c.if-j-eq0.true

pub returns : goal.returns
returns c = follows_next _ c.args.j (c.args.j - 1) c.args.c _ (omega arith) (ap (λ t. t.dispatch) c.time.ensures)
