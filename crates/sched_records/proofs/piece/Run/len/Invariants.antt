use Rattle.std.proofs.Common.{◌≡◌, ◌+◌, drop}
use Rattle.std.specs.List.{prefix_len}
use Rattle.sched_records.specs.Run.{is_in}
use Rattle.sched_records.proofs.piece.Run.len.Given as goal

abbrev pub invariant-loop-k : goal.invariant-loop-k
invariant-loop-k l = l.k + prefix_len (is_in l.self) (drop l.k l.text) ≡ prefix_len (is_in l.self) l.text
