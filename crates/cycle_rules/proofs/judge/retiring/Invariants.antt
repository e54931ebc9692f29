use Rattle.std.proofs.Common.{◌≡◌, ◌≤◌}
use Rattle.std.specs.Prelude.{nat_eq}
use Rattle.cycle_rules.specs.Below.{count_below}
use Rattle.cycle_rules.specs.Row.{times}
use Rattle.cycle_rules.proofs.judge.retiring.Given as goal

abbrev pub invariant-loop-k : goal.invariant-loop-k
invariant-loop-k l = record { is : l.count ≡ count_below l.k (λ k. nat_eq (times l.given.rows.now k).retire l.c); low : l.count ≤ l.k }
