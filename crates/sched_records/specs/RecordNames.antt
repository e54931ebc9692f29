-- The names of records.
use Rattle.std.specs.Prelude.{ℕ, List, nat_eq, Bool}
use Rattle.std.specs.Cmp.Lexicographic.{pointwise}
use Rattle.std.specs.List.{list_any}
use Rattle.sched_records.specs.declared.records.Record.{Record}

-- whether a record has the name
abbrev pub has_name : List Record → List ℕ → Bool
has_name records name = list_any (λ r. pointwise nat_eq name r.name) records
