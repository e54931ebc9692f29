-- The stalls of one row, counted without walking its cycles: each condition, once it holds, keeps holding, so its count is how far the first cycle in which it holds lies beyond those of the conditions before it.
use Rattle.std.specs.Prelude.{zero, suc, ◌≡◌, ℕ, ◌+◌, ◌-◌, ◌<◌, ◌≤◌, max, Bool, nat_eq}
use Rattle.cycle_rules.specs.Below.{sum_below, count_below}
use Rattle.cycle_rules.specs.Row.{Input, Table}
use Rattle.cycle_rules.specs.Waits.{least_from}
use Rattle.dep_graph.specs.Stalls.{first_failing, holds, last_dispatch}

-- of n cycles from a on, those in which condition k is the first that fails
abbrev pub counted : ℕ → ℕ → (ℕ → ℕ → Bool) → ℕ → ℕ
counted a n p k = count_below n (λ x. nat_eq (first_failing (λ q. p q (a + x))) k)

-- the first of these cycles in which a condition holds, a + n where none is
abbrev pub threshold : ℕ → ℕ → (ℕ → ℕ → Bool) → ℕ → ℕ
threshold a n p k = least_from a n (p k)

-- the greatest threshold of the first k conditions, a for none
abbrev pub mark : ℕ → ℕ → (ℕ → ℕ → Bool) → ℕ → ℕ
mark a n p zero = a
mark a n p (suc k) = max (mark a n p k) (threshold a n p k)

-- the cycles in which row j is the next to dispatch: from the dispatch of the row before it, up to its own
abbrev pub start : Table → ℕ → ℕ
start t j = last_dispatch t j

-- and how many they are
abbrev pub span : Table → ℕ → ℕ
span t j = (t j).dispatch - start t j

-- those of them in which condition k is the first that fails
abbrev pub row_stalls : Input → Table → ℕ → ℕ → ℕ
row_stalls g t k j = counted (start t j) (span t j) (holds g t j) k

-- the weight of the rows from f on that are older than row j
abbrev pub weight_from : (ℕ → ℕ) → ℕ → ℕ → ℕ
weight_from w f j = sum_below (j - f) (λ x. w (f + x))

-- the retirement of the last of the first f rows, 0 for none
abbrev pub last_retire : Table → ℕ → ℕ
last_retire t zero = 0
last_retire t (suc f) = (t f).retire

-- f is the least number of rows that must have retired, so that what the others weigh leaves room
pub record IsPointer (w : ℕ → ℕ) (bound x j f : ℕ) : Type 0 where
  pub low : f ≤ j
  pub fits : weight_from w f j + x ≤ bound
  pub least : (i : ℕ) → suc i ≡ f → bound < weight_from w i j + x

-- between two rows: the others weigh so much, and with the last of the first f among them more than the bound
pub record IsKept (w : ℕ → ℕ) (bound j f held : ℕ) : Type 0 where
  pub low : f ≤ j
  pub sum : held ≡ weight_from w f j
  pub least : (i : ℕ) → suc i ≡ f → bound < weight_from w i j
