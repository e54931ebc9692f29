use Rattle.std.proofs.Common.{◌-◌, arith, ap}
use Rattle.cycle_rules.specs.Row.{times}
use Rattle.cycle_rules.proofs.Judging.{max_early}
use Rattle.cycle_rules.proofs.judge.earliest_retire.Goals as goal

pub returns : goal.returns
returns c = λ b lt. max_early _ (times c.args.given.now.rows.now c.args.j).complete c.args.j (c.args.j - 1) b c.time-2.result.now.retire c.max.result (omega arith) (ap (λ t. t.retire) c.time-2.ensures)
    (omega (arith, c.max.ensures, ap (λ t. t.complete) c.time.ensures)) lt
