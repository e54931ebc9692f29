-- How long a row waits for its operands, for the order of memory and for units, by the times of a table alone.
use Rattle.std.specs.Prelude.{zero, suc, ℕ, ◌+◌, ◌-◌, Bool, if◌then◌else◌}
use Rattle.cycle_rules.specs.Row.{Input, Table, phase}
use Rattle.cycle_rules.specs.Seen.{sees}
use Rattle.cycle_rules.specs.Issue.{has_operands, may_access}

-- the least of the n numbers from a on that passes; the one after them where none does
abbrev pub least_from : ℕ → ℕ → (ℕ → Bool) → ℕ
least_from a zero p = a
least_from a (suc n) p = if p a then a else least_from (a + 1) n p

-- the first cycle in which a row may issue at all: that of its dispatch where it is reserved, else the next
abbrev pub earliest : Input → Table → ℕ → ℕ
earliest g t j = if (g.row j).reserved then (t j).dispatch else (t j).dispatch + 1

-- the table as row j sees it when it looks whether it may issue in a cycle
abbrev pub at_issue : Input → Table → ℕ → ℕ → Table
at_issue g t j c = sees g t (phase (g.row j)) j c

-- the first cycle from there on in which it has its operands; no later than its issue
abbrev pub operands_at : Input → Table → ℕ → ℕ
operands_at g t j = least_from (earliest g t j) ((t j).issue - earliest g t j) (λ c. has_operands g (at_issue g t j c) j c)

-- the first cycle from there on in which the order of memory lets it go; no later than its issue
abbrev pub memory_at : Input → Table → ℕ → ℕ
memory_at g t j = least_from (operands_at g t j) ((t j).issue - operands_at g t j) (λ c. may_access g (at_issue g t j c) j c)

-- the cycles that a row waits for its operands, then for the order of memory, then for units
abbrev pub register_wait : Input → Table → ℕ → ℕ
register_wait g t j = operands_at g t j - earliest g t j

abbrev pub memory_wait : Input → Table → ℕ → ℕ
memory_wait g t j = memory_at g t j - operands_at g t j

abbrev pub resource_wait : Input → Table → ℕ → ℕ
resource_wait g t j = (t j).issue - memory_at g t j
