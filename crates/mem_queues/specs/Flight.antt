-- The rows of a run that the queues hold in a cycle.
use Rattle.std.specs.Prelude.{zero, suc, ℕ, ◌+◌, List, [], ◌∷◌, nat_le, if◌then◌else◌}
use Rattle.cycle_rules.specs.Row.{Input, Table}
use Rattle.mem_queues.specs.Order.{MemRow, is_plain}

-- row k of a run as it stands in cycle c
abbrev pub row_at : Input → Table → ℕ → ℕ → MemRow
row_at g t c k = record {
  row = k;
  kind = (g.row k).kind;
  issued = nat_le (t k).issue c;
  complete = if nat_le (t k).issue c then (t k).complete else 0;
}

-- those of n rows, from one on, that load, store or fence, oldest first
abbrev pub rows_from : Input → Table → ℕ → ℕ → ℕ → List MemRow
rows_from g t c a zero = []
rows_from g t c a (suc n) = if is_plain (g.row a).kind then rows_from g t c (a + 1) n else row_at g t c a ∷ rows_from g t c (a + 1) n
