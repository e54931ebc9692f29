-- The ranges of a run on which the parts of a machine rest.
use Rattle.std.specs.Prelude.{ℕ, ◌<◌, ◌≤◌}
use Rattle.cycle_rules.specs.Bind.{AreBoundRows}
use Rattle.cycle_rules.specs.Row.{Input, uops_of}
use Rattle.mca_fixed.specs.declared.limits.TheConstants.{MOST_ROWS}

pub record AreRanges (g : Input) : Type 0 where
  pub width_low : 1 ≤ g.machine.limits.width
  pub width_high : g.machine.limits.width ≤ 64
  pub reorder_high : g.machine.limits.reorder ≤ 4096
  pub rows : g.rows ≤ MOST_ROWS
  pub some_uops : (j : ℕ) → j < g.rows → 1 ≤ uops_of g j
  pub bound : AreBoundRows g
