-- The reorder buffer: the rows in flight, and the micro-ops that they hold until they retire.
use Rattle.std.specs.Prelude.{◌≡◌, ℕ, ◌+◌, ◌≤◌, List, Bool, nat_le}
use Rattle.std.specs.List.{All, sum_by}
use Rattle.circular_buffer.specs.Buffer.{Buffer}
use Rattle.reorder_buffer.specs.declared.rob.RobEntry.{RobEntry}

-- the micro-ops that entries hold
abbrev pub uops_of : List RobEntry → ℕ
uops_of entries = sum_by (λ e. e.uops) entries

-- so many micro-ops more stand in the buffer
abbrev pub has_room : Buffer RobEntry → ℕ → Bool
has_room rob uops = nat_le (uops_of rob.items + uops) rob.capacity

-- how many micro-ops are held is counted, and no more are held than there is room for
pub record IsCounted (rob : Buffer RobEntry) (count : ℕ) : Type 0 where
  pub held : count ≡ uops_of rob.items
  pub fit : count ≤ rob.capacity
  pub small : rob.capacity ≤ 4096
  pub some : All (λ e. 1 ≤ e.uops) rob.items
