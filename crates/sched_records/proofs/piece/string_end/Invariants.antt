use Rattle.std.proofs.Common.{◌≡◌, ◌+◌, drop}
use Rattle.sched_records.specs.Pieces.{string_end}
use Rattle.sched_records.proofs.piece.string_end.Given as goal

abbrev pub invariant-loop-k : goal.invariant-loop-k
invariant-loop-k l = string_end (l.k + 1) (drop l.k l.text) ≡ string_end 1 l.text
