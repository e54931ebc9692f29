use Rattle.std.proofs.Common.{◌≡◌, ◌+◌, [], take, drop}
use Rattle.sched_checks.specs.Illness.{illness_from}
use Rattle.sched_checks.proofs.check.first_of_records.Given as goal

abbrev pub invariant-loop-k : goal.invariant-loop-k
invariant-loop-k l = record {
  passed : l.earlier ≡ take l.k l.entries;
  same : illness_from l.resources (l.k + 1) (take l.k l.entries) (drop l.k l.entries) ≡ illness_from l.resources 1 [] l.entries;
}
