-- Why the next row to dispatch does not, cycle by cycle.
use Rattle.std.specs.Prelude.{zero, suc, ℕ, List, Bool, not, ◌||◌, Option, Some, None, nat_lt, nat_eq, map}
use Rattle.std.specs.List.{range_with_len}
use Rattle.unit_sets.specs.Below.{first_from}
use Rattle.cycle_rules.specs.Below.{count_below}
use Rattle.cycle_rules.specs.Row.{Input, Table}
use Rattle.cycle_rules.specs.Dispatch.{fits_group, fits_reorder, fits_registers, fits_loads, fits_stores, fits_buffers}
use Rattle.cycle_rules.specs.Issue.{can_start}
use Rattle.cycle_rules.specs.Seen.{sees}
use Rattle.cycle_rules.specs.Waits.{least_from}

-- the conditions of a dispatch, by number: group, reorder buffer, registers, load queue, store queue, buffers, and for a reserved row that it can issue
abbrev pub condition : Input → Table → ℕ → ℕ → ℕ → Bool
condition g t j c zero = fits_group g t j c
condition g t j c (suc zero) = fits_reorder g t j c
condition g t j c (suc (suc zero)) = fits_registers g t j c
condition g t j c (suc (suc (suc zero))) = fits_loads g t j c
condition g t j c (suc (suc (suc (suc zero)))) = fits_stores g t j c
condition g t j c (suc (suc (suc (suc (suc zero))))) = (g.row j).reserved || fits_buffers g t j c
condition g t j c (suc (suc (suc (suc (suc (suc k)))))) = not (g.row j).reserved || can_start g t j c

-- a condition of row j in cycle c of a run
abbrev pub holds : Input → Table → ℕ → ℕ → ℕ → Bool
holds g t j k c = condition g (sees g t 2 j c) j c k

-- the first of the seven that fails; 7 where none does
abbrev pub first_failing : (ℕ → Bool) → ℕ
first_failing p = least_from 0 7 (λ k. not (p k))

-- the first row that dispatches after cycle c
abbrev pub head : Input → Table → ℕ → Option ℕ
head g t c = first_from 0 g.rows (λ j. nat_lt c (t j).dispatch)

-- the first condition that fails for a row in a cycle; 7 where there is no row
abbrev pub stall_of : Input → Table → ℕ → Option ℕ → ℕ
stall_of g t c None = 7
stall_of g t c (Some j) = first_failing (λ k. holds g t j k c)

-- the dispatch of the last of n rows
abbrev pub last_dispatch : Table → ℕ → ℕ
last_dispatch t zero = 0
last_dispatch t (suc n) = (t n).dispatch

-- how many cycles below the last dispatch are stalls by condition k
abbrev pub stalls_by : Input → Table → ℕ → ℕ
stalls_by g t k = count_below (last_dispatch t g.rows) (λ c. nat_eq (stall_of g t c (head g t c)) k)

-- the seven counts
abbrev pub stalls : Input → Table → List ℕ
stalls g t = map (stalls_by g t) (range_with_len 0 7)
