-- In which order the rows issue that share a buffer of one entry.
use Rattle.std.specs.Prelude.{◌≡◌, ℕ, ◌<◌, List, true, false}
use Rattle.cycle_rules.specs.Row.{Input, times, names, entries}
use Rattle.cycle_rules.specs.declared.times.Times.{Times}

-- of two rows that are not reserved and name one resource with a buffer of one entry, the older one issues first
abbrev pub IssuesInTurn : Input → List Times → Type 0
IssuesInTurn g table = (r j k : ℕ) → j < k → k < g.rows → entries (g.machine.buffer r) ≡ 1 → (g.row j).reserved ≡ false → (g.row k).reserved ≡ false
    → names r (g.row j) ≡ true → names r (g.row k) ≡ true → (times table j).issue < (times table k).issue
