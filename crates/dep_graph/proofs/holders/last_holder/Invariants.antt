use Rattle.std.proofs.Common.{◌≡◌, ◌≤◌, ◌-◌, ℕ, length}
use Rattle.std.specs.Prelude.{◌&&◌, nat_lt}
use Rattle.dep_graph.specs.Holders.{IsLast, taker_at}
use Rattle.dep_graph.proofs.holders.last_holder.Given as goal

abbrev pub invariant-loop-pos : goal.invariant-loop-pos
invariant-loop-pos g l = record {
  within : l.pos ≤ length l.last;
  best : IsLast l.pos (λ u. (g.M.Machine.meaning l.machine).units l.r u && nat_lt l.c (taker_at l.last u).until) (λ u. (taker_at l.last u).place) l.best;
  units : (u : ℕ) → g.M.Mask.UnitMask.holds l.units u ≡ (g.M.Machine.meaning l.machine).units l.r u;
}

abbrev pub decreases-loop-pos : goal.decreases-loop-pos
decreases-loop-pos g l = length l.last - l.pos
