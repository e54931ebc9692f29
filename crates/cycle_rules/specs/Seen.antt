-- What a condition may look at. The events of a cycle come in phases: 0 rows retire, 1 rows issue, 2 rows dispatch; in a phase the older row comes first.
-- So an event has a key, its cycle, phase and row, and a row that looks from a key sees the events before it.
use Rattle.std.specs.Prelude.{ℕ, ◌+◌, [], Bool, ◌&&◌, ◌||◌, nat_lt, nat_eq, if◌then◌else◌}
use Rattle.cycle_rules.specs.Row.{Input, Table, phase}

-- the place of an event in the order of a run
pub record Key : Type 0 where
  pub cycle : ℕ
  pub phase : ℕ
  pub row : ℕ

abbrev pub key_at : ℕ → ℕ → ℕ → Key
key_at c p j = record { cycle = c; phase = p; row = j }

-- the cycle decides, then the phase, then the row
unfoldable pub comes_before : Key → Key → Bool
comes_before a b = nat_lt a.cycle b.cycle
    || (nat_eq a.cycle b.cycle && (nat_lt a.phase b.phase || (nat_eq a.phase b.phase && nat_lt a.row b.row)))

-- an event of one of the run's rows comes before a key
abbrev pub is_seen : Input → Key → Key → Bool
is_seen g event key = nat_lt event.row g.rows && comes_before event key

-- row k has issued before the key of cycle c, phase p and row j
abbrev pub has_issued : Input → Table → ℕ → ℕ → ℕ → ℕ → Bool
has_issued g t k c p j = is_seen g (key_at (t k).issue (phase (g.row k)) k) (key_at c p j)

-- the table as row j sees it in phase p of cycle c: an event that has not come is read as one of the next cycle
abbrev pub sees : Input → Table → ℕ → ℕ → ℕ → Table
sees g t p j c k = record {
  dispatch = if is_seen g (key_at (t k).dispatch 2 k) (key_at c p j) then (t k).dispatch else c + 1;
  issue = if has_issued g t k c p j then (t k).issue else c + 1;
  complete = if has_issued g t k c p j then (t k).complete else c + 1 + (g.row k).latency;
  retire = if is_seen g (key_at (t k).retire 0 k) (key_at c p j) then (t k).retire else c + 1;
  units = if has_issued g t k c p j then (t k).units else [];
}
