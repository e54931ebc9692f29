-- The rows of a run that wait in a cycle.
use Rattle.std.specs.Prelude.{zero, suc, ℕ, ◌+◌, List, [], ◌∷◌, Bool, ◌||◌, nat_lt, nat_eq, if◌then◌else◌}
use Rattle.cycle_rules.specs.Row.{Input, Table}
use Rattle.issue_queues.specs.Waiting.{Waiting}

-- row k of a run; which rows are ready is told apart from the run
abbrev pub row_at : Input → (ℕ → Bool) → ℕ → Waiting
row_at g ready k = record { row = k; uses = (g.row k).uses; ready = ready k }

-- those of n rows, from one on, that have not issued by cycle c, oldest first
abbrev pub rows_from : Input → Table → (ℕ → Bool) → ℕ → ℕ → ℕ → List Waiting
rows_from g t ready c a zero = []
rows_from g t ready c a (suc n) = if nat_lt c (t a).issue then row_at g ready a ∷ rows_from g t ready c (a + 1) n else rows_from g t ready c (a + 1) n

-- row k is ready, and of the others those that were
abbrev pub also : (ℕ → Bool) → ℕ → ℕ → Bool
also ready k i = nat_eq i k || ready i
