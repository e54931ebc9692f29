-- Whether a row may retire in a cycle: after its completion, in program order, and no more rows in a cycle than the retire width.
use Rattle.std.specs.Prelude.{ℕ, Bool, ◌&&◌, nat_lt, nat_eq}
use Rattle.cycle_rules.specs.Below.{count_below}
use Rattle.cycle_rules.specs.Row.{Input, Table}
use Rattle.cycle_rules.specs.Dispatch.{has_room, follows}

unfoldable pub can_retire : Input → Table → ℕ → ℕ → Bool
can_retire g t j c = nat_lt (t j).complete c && follows (λ k. (t k).retire) j c && has_room g.machine.limits.retire (count_below j (λ k. nat_eq (t k).retire c))
