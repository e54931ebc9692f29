-- The run: the table in which every dispatch, issue and retirement is the least cycle that the rules allow.
use Rattle.std.specs.Prelude.{◌≡◌, ℕ, ◌+◌, ◌-◌, ◌<◌, List, length, Bool, true, false}
use Rattle.machine_model.specs.Meaning.{MachineMeaning}
use Rattle.cycle_rules.specs.Below.{Least}
use Rattle.cycle_rules.specs.Row.{Row, Input, Table, input, times, phase}
use Rattle.cycle_rules.specs.Pick.{pick, padded}
use Rattle.cycle_rules.specs.Dispatch.{can_dispatch}
use Rattle.cycle_rules.specs.Issue.{can_issue}
use Rattle.cycle_rules.specs.Retire.{can_retire}
use Rattle.cycle_rules.specs.Seen.{sees}
use Rattle.cycle_rules.specs.declared.times.Times.{Times}

-- the issue of a reserved row, and of another
abbrev pub IsIssue : Input → Table → ℕ → Bool → Type 0
IsIssue g t j true = (t j).issue ≡ (t j).dispatch
IsIssue g t j false = Least (λ c. can_issue g (sees g t 1 j c) j c) (t j).issue

-- row j is as the rules say
pub record IsRow (g : Input) (t : Table) (j : ℕ) : Type 0 where
  pub dispatch : Least (λ c. can_dispatch g (sees g t 2 j c) j c) (t j).dispatch
  pub issue : IsIssue g t j (g.row j).reserved
  pub units : (t j).units ≡ padded (pick g (sees g t (phase (g.row j)) j (t j).issue) j (t j).issue)
  pub complete : (t j).complete ≡ (t j).issue + (g.row j).latency
  pub retire : Least (λ c. can_retire g (sees g t 0 j c) j c) (t j).retire

-- a table has one row for each that is run, and each is as the rules say
pub record IsRunOf (g : Input) (table : List Times) : Type 0 where
  pub rows : length table ≡ g.rows
  pub each : (j : ℕ) → j < g.rows → IsRow g (times table) j

-- the run of a body, repeated
abbrev pub IsRun : MachineMeaning → List Row → ℕ → List Times → Type 0
IsRun m body iterations table = IsRunOf (input m body iterations) table

-- the cycles of a run: one more than the retirement of its last row
abbrev pub total_of : List Times → ℕ
total_of table = (times table (length table - 1)).retire + 1
