-- Sums of waits over rows, as they are kept while the rows are passed.
use Rattle.std.specs.Prelude.{◌≡◌, ◌<◌, ◌≤◌, ℕ, length, slice_index_or}
use Rattle.cycle_rules.specs.Below.{sum_below}
use Rattle.mca_views.specs.Shown.{Shown}
use Rattle.mca_views.specs.WaitTimes.{to_issue, while_ready, to_retire, at_place}
use Rattle.mca_views.specs.declared.sums.Sums.{Sums as SumsOf}
use Rattle.mca_views.specs.declared.sums.AllSums.{AllSums}

-- the three waits of a row
pub record AreWaits (s : Shown) (j : ℕ) (w : SumsOf) : Type 0 where
  pub issue : w.to_issue ≡ to_issue s j
  pub ready : w.while_ready ≡ while_ready s j
  pub retire : w.to_retire ≡ to_retire s j

-- the sums over n rows of what is counted of each wait
pub record AreSums (s : Shown) (counted : (ℕ → ℕ) → ℕ → ℕ) (n : ℕ) (x : SumsOf) : Type 0 where
  pub issue : x.to_issue ≡ sum_below n (counted (to_issue s))
  pub ready : x.while_ready ≡ sum_below n (counted (while_ready s))
  pub retire : x.to_retire ≡ sum_below n (counted (to_retire s))

pub record AreLow (most : ℕ) (x : SumsOf) : Type 0 where
  pub issue : x.to_issue ≤ most
  pub ready : x.while_ready ≤ most
  pub retire : x.to_retire ≤ most

-- those of each instruction, and those of all rows
pub record AreAll (s : Shown) (n : ℕ) (x : AllSums) : Type 0 where
  pub places : length x.places.items ≡ length s.body
  pub each : (place : ℕ) (d : SumsOf) → place < length s.body → AreSums s (at_place s place) n (slice_index_or x.places.items place d)
  pub all : AreSums s (λ wait. wait) n x.all
