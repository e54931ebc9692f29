-- From when on a row has its operands, and the order of memory lets it go, read from a table of times without walking its cycles.
use Rattle.std.specs.Prelude.{◌≡◌, ℕ, ◌+◌, ◌<◌, ◌≤◌, min, max, List, [], ◌∷◌, Bool, true, not, ◌&&◌, Option, Some, None, nat_eq, nat_le, if◌then◌else◌}
use Rattle.rv_isa.specs.declared.facts.Kind.{Kind}
use Rattle.rv_isa.specs.declared.facts.Kind.TheVariants.{Plain, Load, Store}
use Rattle.cycle_rules.specs.CycleBound.{max_below}
use Rattle.cycle_rules.specs.Row.{Input, Table, lead, advance_of}
use Rattle.cycle_rules.specs.Issue.{producer, has_operand, memory_order, older_row, is_fenced}
use Rattle.cycle_rules.specs.Waits.{earliest, at_issue, operands_at, memory_at, register_wait, memory_wait, resource_wait}
use Rattle.cycle_rules.specs.declared.bound.Source.{Source}

-- the first cycle in which a row finds that row k has issued: a reserved row issues behind those of its cycle that are not
abbrev pub seen_from : Input → Table → Bool → ℕ → ℕ
seen_from g t reserved k = if (g.row k).reserved && not reserved then (t k).issue + 1 else (t k).issue

-- the same for each row that looks
abbrev pub by_phase : Input → Table → ℕ → ℕ → ℕ
by_phase g t j = seen_from g t (g.row j).reserved

-- the issues, whoever looks
abbrev pub by_issue : Table → ℕ → ℕ → ℕ
by_issue t j k = (t k).issue

-- the first cycle in which the value of a row can be read, where the row's issue is found from a cycle on; 0 where no row makes it
abbrev pub value_time : Input → Table → (ℕ → ℕ) → ℕ → Option ℕ → ℕ
value_time g t seen read None = 0
value_time g t seen read (Some k) = max (seen k) ((t k).issue + lead (g.row k).latency (advance_of g.machine read (g.row k).write))

unfoldable pub read_time : Input → Table → (ℕ → ℕ) → ℕ → Source → ℕ
read_time g t seen j s = if nat_eq s.reg 0 then 0 else value_time g t seen s.read (producer g j s.reg)

abbrev pub reads_time : Input → Table → (ℕ → ℕ) → ℕ → List Source → ℕ
reads_time g t seen j [] = 0
reads_time g t seen j (s ∷ rest) = max (read_time g t seen j s) (reads_time g t seen j rest)

-- the first cycle in which an older row of one kind lets a row of another go, by the cycles from which it has issued and has completed; 0 where it need not wait
unfoldable pub let_go : Kind → Kind → Bool → Bool → ℕ → ℕ → ℕ
let_go Plain _ may_pass fenced issued completed = 0
let_go _ Plain may_pass fenced issued completed = 0
let_go Load Load may_pass fenced issued completed = if fenced then issued else 0
let_go Load Store may_pass fenced issued completed = if may_pass then 0 else completed
let_go Store Load may_pass fenced issued completed = issued
let_go Store Store may_pass fenced issued completed = issued
let_go _ _ may_pass fenced issued completed = completed

unfoldable pub pass_time : Input → Table → (ℕ → ℕ) → ℕ → ℕ → ℕ
pass_time g t seen j k = let_go (g.row j).kind (g.row k).kind g.machine.limits.no_alias (is_fenced g k j) (seen k) (max (seen k) (t k).complete)

-- the two waits of every row follow from the cycles from which it finds that the older rows have issued
pub record IsTimed (g : Input) (t : Table) (seen : ℕ → ℕ → ℕ) : Type 0 where
  -- a read has its value from its time on, an older row lets the row go from its time on, as the row sees it
  pub operand : (j c : ℕ) (s : Source) → j < g.rows → earliest g t j ≤ c → has_operand g (at_issue g t j c) j c s ≡ nat_le (read_time g t (seen j) j s) c
  pub passes : (j k c : ℕ) → j < g.rows → k < j → earliest g t j ≤ c → memory_order (g.row j).kind (g.row k).kind (older_row g (at_issue g t j c) j c k) ≡ nat_le (pass_time g t (seen j) j k) c
  -- so the two cycles are the greatest of these times, though no later than the issue
  pub operands : (j : ℕ) → j < g.rows → operands_at g t j ≡ max (earliest g t j) (min (t j).issue (reads_time g t (seen j) j (g.row j).reads))
  pub memory : (j : ℕ) → j < g.rows → memory_at g t j ≡ max (operands_at g t j) (min (t j).issue (max_below j (pass_time g t (seen j) j)))

-- what the rows of a run find in time
pub record IsInTime (g : Input) (t : Table) : Type 0 where
  pub start : (j : ℕ) → j < g.rows → earliest g t j ≤ (t j).issue
  pub reads : (j : ℕ) → j < g.rows → reads_time g t (by_issue t j) j (g.row j).reads ≤ (t j).issue
  pub order : (j : ℕ) → j < g.rows → max_below j (pass_time g t (by_issue t j) j) ≤ (t j).issue
  -- so the three waits are all of the time until the issue
  pub sum : (j : ℕ) → j < g.rows → register_wait g t j + memory_wait g t j + resource_wait g t j + earliest g t j ≡ (t j).issue
  -- and a reserved row waits for nothing
  pub reserved : (j : ℕ) → j < g.rows → (g.row j).reserved ≡ true → earliest g t j ≡ (t j).issue
