use Rattle.std.proofs.Common.{◌-◌, ◌≤◌}
use Rattle.row_sets.proofs.Search.{NoneReady}
use Rattle.row_sets.proofs.ready.ReadyRows.next.Given as goal

abbrev pub invariant-loop-k : goal.invariant-loop-k
invariant-loop-k l = record {
  from : l.from ≤ l.k;
  within : l.k ≤ l.end;
  none : NoneReady l.self.words.items l.fn.passed l.from l.k;
}

abbrev pub decreases-loop-k : goal.decreases-loop-k
decreases-loop-k l = l.end - l.k
