-- The rows in flight: those that have dispatched and not retired, one after another in program order.
use Rattle.std.specs.Prelude.{◌≡◌, ℕ, ◌<◌, ◌≤◌, List, map, nat_eq}
use Rattle.std.specs.List.{range_with_len}
use Rattle.cycle_rules.specs.Below.{count_below}
use Rattle.cycle_rules.specs.Row.{Input, times}
use Rattle.engine_state.specs.State.{never}
use Rattle.cycle_rules.specs.declared.times.Times.{Times}

-- what a table has recorded of rows: those below front have retired, those below head have dispatched, and no others
pub record IsFlow (g : Input) (table : List Times) (front head : ℕ) : Type 0 where
  pub order : front ≤ head
  pub within : head ≤ g.rows
  pub retired : (k : ℕ) → k < front → (times table k).retire ≡ never → ⊥
  pub issued : (k : ℕ) → k < front → (times table k).issue ≡ never → ⊥
  pub held : (k : ℕ) → front ≤ k → k < g.rows → (times table k).retire ≡ never
  pub dispatched : (k : ℕ) → k < head → (times table k).dispatch ≡ never → ⊥
  pub waiting : (k : ℕ) → head ≤ k → k < g.rows → (times table k).dispatch ≡ never
  pub unissued : (k : ℕ) → head ≤ k → k < g.rows → (times table k).issue ≡ never

-- what a part keeps of n rows from a row on, oldest first
abbrev pub window : {X : Type 0} → (ℕ → X) → ℕ → ℕ → List X
window of_row first n = map of_row (range_with_len first n)

-- how many of the oldest n rows have retired in a cycle
abbrev pub retired_in : List Times → ℕ → ℕ → ℕ
retired_in table c n = count_below n (λ k. nat_eq (times table k).retire c)
