use Rattle.std.proofs.Common.{◌≡◌, ◌<◌, ◌-◌, ℕ, false}
use Rattle.cycle_rules.specs.Given.{input_in, may_take}
use Rattle.cycle_rules.specs.Row.{times}
use Rattle.cycle_rules.proofs.judge.is_least.Given as goal

abbrev pub invariant-loop-c : goal.invariant-loop-c
invariant-loop-c g l = (b : ℕ) → b < l.c → may_take (input_in (g.M.Machine.meaning l.machine) l.given.body.now l.given.count) (times l.given.rows.now) l.j l.step b ≡ false

abbrev pub decreases-loop-c : goal.decreases-loop-c
decreases-loop-c g l = l.taken - l.c
