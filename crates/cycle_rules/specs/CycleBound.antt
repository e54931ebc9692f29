-- A bound on the cycles of a run, below which every run ends (`run_ends`), and one on the turns of an engine that skips the cycles in which nothing happens.
use Rattle.std.specs.Prelude.{zero, suc, ℕ, ◌+◌, ◌-◌, ◌/◌, max, ℤ, pos, negsuc, List, [], ◌∷◌, length}
use Rattle.machine_model.specs.Meaning.{MachineMeaning}
use Rattle.machine_model.specs.declared.facts.Use.{Use}
use Rattle.cycle_rules.specs.Below.{sum_below}
use Rattle.cycle_rules.specs.Row.{Input, uops_of}

unfoldable pub max_below : ℕ → (ℕ → ℕ) → ℕ
max_below zero f = 0
max_below (suc n) f = max (max_below n f) (f n)

-- the cycles that an advance adds to a latency
abbrev pub lag : ℤ → ℕ
lag (pos a) = 0
lag (negsuc a) = a + 1

-- the most that an advance of the machine's classes adds
unfoldable pub most_lag : MachineMeaning → ℕ
most_lag m = max_below m.read_count (λ r. max_below m.write_count (λ w. lag (m.advance r w)))

-- the reach of a row: the greatest hold of its uses
abbrev pub reach : List Use → ℕ
reach [] = 0
reach (w ∷ ws) = max w.hold (reach ws)

-- the cycles that so many micro-ops take of a dispatch width
abbrev pub cycles_of : ℕ → ℕ → ℕ
cycles_of uops width = (uops + width - 1) / width

-- for the total of a run: 1, and for each row 4, its latency, the most lag, its reach and the cycles of its micro-ops
unfoldable pub cycle_bound : Input → ℕ
cycle_bound g = 1 + sum_below g.rows (λ j. 4 + (g.row j).latency + most_lag g.machine + reach (g.row j).uses + cycles_of (uops_of g j) g.machine.limits.width)

-- for the turns of an engine: 1, and for each row 8 and as many as it has uses. One that turns only in cycles in which something falls due keeps below it (`event_rules`)
unfoldable pub turn_bound : Input → ℕ
turn_bound g = 1 + sum_below g.rows (λ j. 8 + length (g.row j).uses)
