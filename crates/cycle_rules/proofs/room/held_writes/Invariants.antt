use Rattle.std.proofs.Common.{◌≡◌, ◌≤◌, ◌&&◌}
use Rattle.std.specs.Prelude.{nat_lt}
use Rattle.cycle_rules.specs.Below.{count_below}
use Rattle.cycle_rules.specs.Dispatch.{is_held}
use Rattle.cycle_rules.specs.Given.{row_in}
use Rattle.cycle_rules.specs.Row.{times}
use Rattle.cycle_rules.proofs.room.held_writes.Given as goal

abbrev pub invariant-loop-k : goal.invariant-loop-k
invariant-loop-k l = record { is : l.count ≡ count_below l.k (λ k. nat_lt 0 (row_in l.given.body.now k).rd && is_held (times l.given.rows.now) l.c k); low : l.count ≤ l.k }
