-- Those conditions of a dispatch that are told by the memory queues and the issue queues.
use Rattle.std.specs.Prelude.{ℕ, Bool, ◌&&◌, if◌then◌else◌}
use Rattle.cycle_rules.specs.Row.{Input, Table}
use Rattle.cycle_rules.specs.Dispatch.{fits_loads, fits_stores, fits_buffers}
use Rattle.cycle_rules.specs.Issue.{can_start}

-- the loads and stores in flight leave room for row j
abbrev pub fits_memory : Input → Table → ℕ → ℕ → Bool
fits_memory g t j c = fits_loads g t j c && fits_stores g t j c

-- so do the rows that wait; a reserved row must be able to start
abbrev pub enters : Input → Table → ℕ → ℕ → Bool
enters g t j c = if (g.row j).reserved then can_start g t j c else fits_buffers g t j c
