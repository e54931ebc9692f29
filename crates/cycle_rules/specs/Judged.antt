-- Which field of a table of times is the first that is not as the rules say, evaluated on the rows that the table gives.
use Rattle.std.specs.Prelude.{◌≡◌, ℕ, ◌+◌, ◌<◌, max, List, length}
use Rattle.cycle_rules.specs.Below.{Least}
use Rattle.cycle_rules.specs.Row.{Input, Table, times, phase}
use Rattle.cycle_rules.specs.Pick.{pick, padded}
use Rattle.cycle_rules.specs.Dispatch.{can_dispatch}
use Rattle.cycle_rules.specs.Retire.{can_retire}
use Rattle.cycle_rules.specs.Seen.{sees}
use Rattle.cycle_rules.specs.Run.{IsIssue}
use Rattle.cycle_rules.specs.declared.place.Field.{Field}
use Rattle.cycle_rules.specs.declared.place.Field.TheVariants.{Dispatch, Issue, Complete, Retire, Units}
use Rattle.cycle_rules.specs.declared.place.Place.{Place}
use Rattle.cycle_rules.specs.declared.times.Times.{Times}

-- what the rules say of a field of row j
abbrev pub IsRight : Input → Table → ℕ → Field → Type 0
IsRight g t j Dispatch = Least (λ c. can_dispatch g (sees g t 2 j c) j c) (t j).dispatch
IsRight g t j Issue = IsIssue g t j (g.row j).reserved
IsRight g t j Complete = (t j).complete ≡ (t j).issue + (g.row j).latency
IsRight g t j Retire = Least (λ c. can_retire g (sees g t 0 j c) j c) (t j).retire
IsRight g t j Units = (t j).units ≡ padded (pick g (sees g t (phase (g.row j)) j (t j).issue) j (t j).issue)

-- the order in which the fields of a row are judged
abbrev pub order : Field → ℕ
order Dispatch = 0
order Issue = 1
order Complete = 2
order Retire = 3
order Units = 4

-- a field of a row that is run and that the table gives is as the rules say
pub record IsAsRuled (g : Input) (table : List Times) (j : ℕ) (field : Field) : Type 0 where
  pub run : j < g.rows
  pub given : j < length table
  pub right : IsRight g (times table) j field

-- the first place that is wrong: a field of a row that is run or given, or of both; a row that is missing or too many is wrong in its dispatch
pub record IsFirstWrong (g : Input) (table : List Times) (place : Place) : Type 0 where
  pub row : place.row < max g.rows (length table)
  pub wrong : IsAsRuled g table place.row place.field → ⊥
  pub rows : (k : ℕ) (field : Field) → k < place.row → IsAsRuled g table k field
  pub fields : (field : Field) → order field < order place.field → IsAsRuled g table place.row field
