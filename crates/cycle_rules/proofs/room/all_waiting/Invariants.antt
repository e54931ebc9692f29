use Rattle.std.proofs.Common.{◌≡◌, ◌≤◌, ◌&&◌}
use Rattle.std.specs.Prelude.{nat_lt}
use Rattle.cycle_rules.specs.Below.{count_below}
use Rattle.cycle_rules.specs.Given.{row_in}
use Rattle.cycle_rules.specs.Row.{times, names}
use Rattle.cycle_rules.proofs.room.all_waiting.Given as goal

abbrev pub invariant-loop-k : goal.invariant-loop-k
invariant-loop-k l = record { is : l.count ≡ count_below l.k (λ k. names l.resource (row_in l.given.body.now k) && nat_lt l.c (times l.given.rows.now k).issue); low : l.count ≤ l.k }
