use Rattle.std.proofs.Common.{◌≡◌, ◌≤◌, ◌*◌, ◌^◌}
use Rattle.std.specs.Prelude.{if◌then◌else◌}
use Rattle.cycle_rules.specs.Below.{sum_below}
use Rattle.cycle_rules.specs.Dispatch.{is_held, cost_in}
use Rattle.cycle_rules.specs.Given.{row_in}
use Rattle.cycle_rules.specs.Row.{times}
use Rattle.cycle_rules.proofs.room.held_costs.Given as goal

abbrev pub invariant-loop-k : goal.invariant-loop-k
invariant-loop-k g l = record { is : l.sum ≡ sum_below l.k (λ k. if is_held (times l.given.rows.now) l.c k then cost_in (g.M.Machine.meaning l.machine) l.file (row_in l.given.body.now k).rd else 0); low : l.sum ≤ l.k * 2 ^ 32 }
