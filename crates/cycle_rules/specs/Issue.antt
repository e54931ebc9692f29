-- Whether a row may issue in a cycle: its operands, the order of memory, and units for its uses.
-- Each test reads the table t of what is seen there; the time of an event that has not come lies above c.
use Rattle.std.specs.Prelude.{zero, suc, ℕ, ◌+◌, Bool, true, false, not, ◌&&◌, ◌||◌, Option, Some, None, is_some, nat_lt, nat_le, nat_eq}
use Rattle.std.specs.List.{list_all}
use Rattle.rv_isa.specs.declared.facts.Kind.{Kind}
use Rattle.rv_isa.specs.declared.facts.Kind.TheVariants.{Plain, Load, Store}
use Rattle.cycle_rules.specs.Below.{all_below, last_below}
use Rattle.cycle_rules.specs.Row.{Input, Table, lead, advance_of, is_store, is_barrier}
use Rattle.cycle_rules.specs.Pick.{pick}
use Rattle.cycle_rules.specs.declared.bound.Source.{Source}

-- the youngest row older than j that writes a register
unfoldable pub producer : Input → ℕ → ℕ → Option ℕ
producer g j r = last_below j (λ k. nat_eq (g.row k).rd r)

-- the value of a row can be read in cycle c; where there is no row, the value was there before
abbrev pub is_ready : Input → Table → ℕ → ℕ → Option ℕ → Bool
is_ready g t c read None = true
is_ready g t c read (Some k) = nat_le ((t k).issue + lead (g.row k).latency (advance_of g.machine read (g.row k).write)) c

unfoldable pub has_operand : Input → Table → ℕ → ℕ → Source → Bool
has_operand g t j c s = nat_eq s.reg 0 || is_ready g t c s.read (producer g j s.reg)

unfoldable pub has_operands : Input → Table → ℕ → ℕ → Bool
has_operands g t j c = list_all (has_operand g t j c) (g.row j).reads

-- a store or a barrier stands between rows k and j
unfoldable pub is_fenced : Input → ℕ → ℕ → Bool
is_fenced g k zero = false
is_fenced g k (suc j) = nat_lt k j && (is_store (g.row j).kind || is_barrier (g.row j).kind || is_fenced g k j)

-- what the order of memory asks of an older row
pub record Older : Type 0 where
  -- loads may pass stores
  pub may_pass : Bool
  -- a store or a barrier stands between the two rows
  pub fenced : Bool
  pub issued : Bool
  pub completed : Bool

-- a row of one kind may issue beside an older one of another kind
unfoldable pub memory_order : Kind → Kind → Older → Bool
memory_order Plain _ older = true
memory_order _ Plain older = true
memory_order Load Load older = not older.fenced || older.issued
memory_order Load Store older = older.may_pass || older.completed
memory_order Store Load older = older.issued
memory_order Store Store older = older.issued
memory_order _ _ older = older.completed

-- row k, as row j finds it in cycle c
abbrev pub older_row : Input → Table → ℕ → ℕ → ℕ → Older
older_row g t j c k = record {
  may_pass = g.machine.limits.no_alias;
  fenced = is_fenced g k j;
  issued = nat_le (t k).issue c;
  completed = nat_le (t k).complete c;
}

unfoldable pub may_access : Input → Table → ℕ → ℕ → Bool
may_access g t j c = all_below j (λ k. memory_order (g.row j).kind (g.row k).kind (older_row g t j c k))

unfoldable pub can_start : Input → Table → ℕ → ℕ → Bool
can_start g t j c = has_operands g t j c && may_access g t j c && is_some (pick g t j c)

-- a row that is not reserved issues in a cycle after that of its dispatch
unfoldable pub can_issue : Input → Table → ℕ → ℕ → Bool
can_issue g t j c = nat_lt (t j).dispatch c && can_start g t j c
