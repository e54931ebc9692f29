use Rattle.std.proofs.Common.{◌≡◌, ◌++◌, drop, take}
use Rattle.sched_resolve.specs.Entries.{entries_from, entries_of}
use Rattle.sched_resolve.specs.Noted.{Seen}
use Rattle.sched_resolve.proofs.resolve.entries_of.Given as goal

-- the records so far are told, and those that are left are to be told behind them
abbrev pub invariant-loop-one : goal.invariant-loop-one
invariant-loop-one l = record {
  stands : ◌≡◌ {A = Seen} l.earlier (record { table = l.records; earlier = take l.one-index l.records });
  told : l.found.items ++ entries_from l.records (take l.one-index l.records) (drop l.one-index l.records) ≡ entries_of l.records;
}
