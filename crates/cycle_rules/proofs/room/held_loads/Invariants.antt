use Rattle.std.proofs.Common.{◌≡◌, ◌≤◌, ◌&&◌}
use Rattle.cycle_rules.specs.Below.{count_below}
use Rattle.cycle_rules.specs.Dispatch.{is_held}
use Rattle.cycle_rules.specs.Given.{row_in}
use Rattle.cycle_rules.specs.Row.{times, is_load}
use Rattle.cycle_rules.proofs.room.held_loads.Given as goal

abbrev pub invariant-loop-k : goal.invariant-loop-k
invariant-loop-k l = record { is : l.count ≡ count_below l.k (λ k. is_load (row_in l.given.body.now k).kind && is_held (times l.given.rows.now) l.c k); low : l.count ≤ l.k }
