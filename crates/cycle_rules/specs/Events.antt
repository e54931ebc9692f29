-- The run as a schedule of events: the tool by which its laws are proved, and what the rules give below a bound on cycles.
use Rattle.std.specs.Prelude.{zero, suc, ℕ, ◌+◌, ◌*◌, List, [], Bool, not, ◌&&◌, Option, Some, None, is_some, map, nat_lt, nat_eq, if◌then◌else◌}
use Rattle.std.specs.List.{range_with_len}
use Rattle.cycle_rules.specs.Below.{count_below}
use Rattle.cycle_rules.specs.Schedule.{Fall, Known, Rules, made, event, by_rows}
use Rattle.cycle_rules.specs.Row.{Input, Table, phase}
use Rattle.cycle_rules.specs.Pick.{pick, padded}
use Rattle.cycle_rules.specs.Dispatch.{can_dispatch}
use Rattle.cycle_rules.specs.Issue.{can_issue}
use Rattle.cycle_rules.specs.Retire.{can_retire}
use Rattle.cycle_rules.specs.declared.times.Times.{Times}

-- A row has three events, one for each phase: 0 it retires, 1 it issues, 2 it dispatches. A reserved row issues by its dispatch, and its event of phase 1 is allowed in no cycle. What an event takes are the units of the row, where it issues by it.

abbrev pub events : Input → ℕ
events g = 3 * g.rows

abbrev pub cycle_or : ℕ → Option (Fall (List ℕ)) → ℕ
cycle_or ahead None = ahead
cycle_or ahead (Some f) = f.cycle

abbrev pub units_or_none : Option (Fall (List ℕ)) → List ℕ
units_or_none None = []
units_or_none (Some f) = f.what

-- what is known of the event of row j in phase p
abbrev pub known_of : Input → Known (List ℕ) → ℕ → ℕ → Option (Fall (List ℕ))
known_of g known p j = if nat_lt j g.rows then known (event g.rows p j) else None

-- the table of what is known: an event that is not known is read as one of the cycle ahead
abbrev pub table_of : Input → ℕ → Known (List ℕ) → Table
table_of g ahead known j = record {
  dispatch = cycle_or ahead (known_of g known 2 j);
  issue = cycle_or ahead (known_of g known (phase (g.row j)) j);
  complete = cycle_or ahead (known_of g known (phase (g.row j)) j) + (g.row j).latency;
  retire = cycle_or ahead (known_of g known 0 j);
  units = units_or_none (known_of g known (phase (g.row j)) j);
}

-- the table as it is read in cycle c: what is not known comes in the next cycle or later
abbrev pub in_cycle : Input → ℕ → Known (List ℕ) → Table
in_cycle g c known = table_of g (c + 1) known

-- whether an event may fall in a cycle
abbrev pub may_fall : Input → Known (List ℕ) → ℕ → ℕ → ℕ → Bool
may_fall g known c zero j = can_retire g (in_cycle g c known) j c
may_fall g known c (suc zero) j = not (g.row j).reserved && can_issue g (in_cycle g c known) j c
may_fall g known c (suc (suc p)) j = can_dispatch g (in_cycle g c known) j c

abbrev pub units_taken : Input → Known (List ℕ) → ℕ → ℕ → ℕ → List ℕ
units_taken g known c p j = if nat_eq p (phase (g.row j)) then padded (pick g (in_cycle g c known) j c) else []

-- the rules of the machine
abbrev pub rules_of : Input → Rules (List ℕ)
rules_of g = by_rows g.rows (may_fall g) (units_taken g)

-- the table that the rules give below a bound: where they give an event no cycle, its time is not below the bound
abbrev pub run_below : Input → ℕ → List Times
run_below g bound = map (table_of g bound (made (rules_of g) (events g) bound)) (range_with_len 0 g.rows)

-- how many rows retire below the bound, by the rules
abbrev pub retired_below : Input → ℕ → ℕ
retired_below g bound = count_below g.rows (λ j. is_some (made (rules_of g) (events g) bound (event g.rows 0 j)))
