use Rattle.std.proofs.Common.{◌≡◌, ◌++◌, drop, map}
use Rattle.sched_resolve.specs.Entries.{defaults_of}
use Rattle.sched_resolve.proofs.resolve.defaults_among.Given as goal

abbrev pub invariant-loop-op : goal.invariant-loop-op
invariant-loop-op l = l.found.items ++ map (defaults_of l.names) (drop l.op-index l.ops) ≡ map (defaults_of l.names) l.ops
