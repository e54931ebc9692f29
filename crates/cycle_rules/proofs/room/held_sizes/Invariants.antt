use Rattle.std.proofs.Common.{◌≡◌, ◌≤◌, ◌*◌, ◌^◌}
use Rattle.std.specs.Prelude.{if◌then◌else◌}
use Rattle.cycle_rules.specs.Below.{sum_below}
use Rattle.cycle_rules.specs.Dispatch.{is_held}
use Rattle.cycle_rules.specs.Given.{size_in}
use Rattle.cycle_rules.specs.Row.{times}
use Rattle.cycle_rules.proofs.room.held_sizes.Given as goal

abbrev pub invariant-loop-k : goal.invariant-loop-k
invariant-loop-k l = record { is : l.sum ≡ sum_below l.k (λ k. if is_held (times l.given.rows.now) l.c k then size_in l.given.body.now l.reorder k else 0); low : l.sum ≤ l.k * 2 ^ 32 }
