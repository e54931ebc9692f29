-- From when on a row has its operands, and the order of memory lets it go, read from the times of a run alone.
use Rattle.std.specs.Prelude.{ℕ, ◌+◌, max, List, [], ◌∷◌, Bool, Option, Some, None, nat_eq, if◌then◌else◌}
use Rattle.rv_isa.specs.declared.facts.Kind.{Kind}
use Rattle.rv_isa.specs.declared.facts.Kind.TheVariants.{Plain, Load, Store, Barrier}
use Rattle.cycle_rules.specs.Row.{Input, Table, lead, advance_of}
use Rattle.cycle_rules.specs.Issue.{producer, is_fenced}
use Rattle.cycle_rules.specs.declared.bound.Source.{Source}

-- the first cycle in which a value is there; 0 where no row makes it
abbrev pub value_time : Input → Table → ℕ → Option ℕ → ℕ
value_time g t read None = 0
value_time g t read (Some k) = (t k).issue + lead (g.row k).latency (advance_of g.machine read (g.row k).write)

-- the first cycle in which a read has its value; 0 for register 0
abbrev pub read_time : Input → Table → ℕ → Source → ℕ
read_time g t j s = if nat_eq s.reg 0 then 0 else value_time g t s.read (producer g j s.reg)

-- the first cycle in which all reads have theirs
abbrev pub reads_time : Input → Table → ℕ → List Source → ℕ
reads_time g t j [] = 0
reads_time g t j (s ∷ rest) = max (read_time g t j s) (reads_time g t j rest)

-- the first cycle in which an older row lets a row of a kind go, by its issue and its completion; 0 where it need not wait
abbrev pub let_go : Kind → Kind → Bool → Bool → ℕ → ℕ → ℕ
let_go Plain _ no_alias fenced issue complete = 0
let_go Load Plain no_alias fenced issue complete = 0
let_go Store Plain no_alias fenced issue complete = 0
let_go Barrier Plain no_alias fenced issue complete = 0
let_go Load Load no_alias fenced issue complete = if fenced then issue else 0
let_go Load Store no_alias fenced issue complete = if no_alias then 0 else complete
let_go Load Barrier no_alias fenced issue complete = complete
let_go Store Load no_alias fenced issue complete = issue
let_go Store Store no_alias fenced issue complete = issue
let_go Store Barrier no_alias fenced issue complete = complete
let_go Barrier Load no_alias fenced issue complete = complete
let_go Barrier Store no_alias fenced issue complete = complete
let_go Barrier Barrier no_alias fenced issue complete = complete

-- the first cycle in which row k lets row j go
abbrev pub pass_time : Input → Table → ℕ → ℕ → ℕ
pass_time g t j k = let_go (g.row j).kind (g.row k).kind g.machine.limits.no_alias (is_fenced g k j) (t k).issue (t k).complete
