use Rattle.std.proofs.Common.{◌≡◌, ◌≤◌, ◌*◌, ◌^◌}
use Rattle.cycle_rules.specs.Below.{sum_below}
use Rattle.cycle_rules.specs.Dispatch.{share}
use Rattle.cycle_rules.specs.Given.{size_in}
use Rattle.cycle_rules.specs.Row.{times}
use Rattle.cycle_rules.proofs.room.shares.Given as goal

abbrev pub invariant-loop-k : goal.invariant-loop-k
invariant-loop-k l = record { is : l.sum ≡ sum_below l.k (λ k. share l.width (size_in l.given.body.now l.reorder k) (times l.given.rows.now k).dispatch l.c); low : l.sum ≤ l.k * 2 ^ 32 }
