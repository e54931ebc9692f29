-- The cycle of the next turn of an engine that has recorded all events below a cycle.
use Rattle.std.specs.Prelude.{ℕ, ◌^◌, ◌≡◌, ◌≤◌, ◌<◌, true, false, Option, Some, None}
use Rattle.cycle_rules.specs.CycleBound.{cycle_bound}
use Rattle.cycle_rules.specs.Events.{retired_below}
use Rattle.cycle_rules.specs.Row.{Input}
use Rattle.event_rules.specs.Due.{is_set, turns_left}
use Rattle.engine_steps.specs.Done.{known_below, all_retired, IsIdle}

-- the turns that are left when all cycles below c are done: the times from c on that the rows of the run set
abbrev pub left_at : Input → ℕ → ℕ
left_at g c = turns_left g (known_below g (cycle_bound g)) c

-- the next turn may be at x: no event falls from c on before x, and x is one of the times that are counted
pub record IsTurn (g : Input) (c x : ℕ) : Type 0 where
  pub later : c ≤ x
  pub before : x < cycle_bound g
  pub same : IsIdle g c x
  pub set : is_set g (known_below g (cycle_bound g)) x ≡ true

-- there is no next turn exactly where all rows have retired
abbrev pub IsNextTurn : Input → ℕ → Option ℕ → Type 0
IsNextTurn g c None = all_retired g c ≡ true
IsNextTurn g c (Some x) = (all_retired g c ≡ false) × IsTurn g c x

-- there are rows, and all of them retire below the bound on the cycles of the run, which is low
pub record IsBounded (g : Input) : Type 0 where
  pub some : 0 < g.rows
  pub ends : g.rows ≤ retired_below g (cycle_bound g)
  pub fits : cycle_bound g < 2 ^ 41
