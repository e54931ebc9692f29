use Rattle.std.proofs.Common.{◌≡◌, ◌++◌, drop}
use Rattle.std.specs.List.{filter_map}
use Rattle.sched_resolve.specs.Opcodes.{op_in_table}
use Rattle.sched_resolve.proofs.opcodes.ops_named.Given as goal

abbrev pub invariant-loop-name : goal.invariant-loop-name
invariant-loop-name l = l.found.items ++ filter_map op_in_table (drop l.name-index l.names) ≡ filter_map op_in_table l.names
