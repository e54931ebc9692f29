-- What each part of a machine keeps of a row in flight.
use Rattle.std.specs.Prelude.{ℕ, List}
use Rattle.dispatch_unit.specs.Group.{Dispatched}
use Rattle.reorder_buffer.specs.declared.rob.RobEntry.{RobEntry}
use Rattle.cycle_rules.specs.Row.{Input, times, uops_of}
use Rattle.cycle_rules.specs.declared.times.Times.{Times}

-- the dispatch group, of a row that has dispatched
abbrev pub dispatched_row : Input → List Times → ℕ → Dispatched
dispatched_row g table k = record { uops = uops_of g k; from = (times table k).dispatch; ends = (g.row k).ends_group }

-- the reorder buffer
abbrev pub entry_of : Input → ℕ → RobEntry
entry_of g k = record { row = k; uops = uops_of g k }

-- the register files: the register that it writes
abbrev pub write_of : Input → ℕ → ℕ
write_of g k = (g.row k).rd
