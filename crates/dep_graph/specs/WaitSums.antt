-- How long the rows of a run waited, added up.
use Rattle.std.specs.Prelude.{◌≡◌, ℕ, List, slice_index}
use Rattle.cycle_rules.specs.Below.{sum_below}
use Rattle.cycle_rules.specs.Row.{Input, Table}
use Rattle.cycle_rules.specs.Waits.{register_wait, memory_wait, resource_wait}
use Rattle.dep_graph.specs.declared.sums.WaitSums.{WaitSums}

-- the waits of the first n rows
pub record AreSums (g : Input) (t : Table) (n : ℕ) (sums : WaitSums) : Type 0 where
  pub registers : sums.registers ≡ sum_below n (register_wait g t)
  pub memory : sums.memory ≡ sum_below n (memory_wait g t)
  pub resources : sums.resources ≡ sum_below n (resource_wait g t)

-- those of the first n rows of an order
pub record AreSumsAlong (g : Input) (t : Table) (order : List ℕ) (n : ℕ) (sums : WaitSums) : Type 0 where
  pub registers : sums.registers ≡ sum_below n (λ i. register_wait g t (slice_index order i))
  pub memory : sums.memory ≡ sum_below n (λ i. memory_wait g t (slice_index order i))
  pub resources : sums.resources ≡ sum_below n (λ i. resource_wait g t (slice_index order i))
