use Rattle.std.proofs.Common.{◌≡◌, ◌+◌, ◌-◌, ◌≤◌, drop, length}
use Rattle.sched_records.specs.Pieces.{comment_end}
use Rattle.sched_records.proofs.piece.comment_end.Given as goal

abbrev pub invariant-loop-k : goal.invariant-loop-k
invariant-loop-k l = record {
  within : l.k ≤ length l.text;
  deep : 1 ≤ l.depth;
  most : l.depth ≤ l.k + 1;
  same : comment_end (l.k + 2) l.depth (drop l.k l.text) ≡ comment_end 2 1 l.text;
}

abbrev pub decreases-loop-k : goal.decreases-loop-k
decreases-loop-k l = length l.text - l.k
