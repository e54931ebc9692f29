use Rattle.std.proofs.Common.{◌≡◌, drop, nat_eq}
use Rattle.std.specs.List.{find}
use Rattle.std.specs.Cmp.Lexicographic.{pointwise}
use Rattle.sched_resolve.specs.Opcodes.{table_name}
use Rattle.sched_resolve.proofs.opcodes.op_among.Given as goal

-- none of the opcodes so far has that name
abbrev pub invariant-loop-op : goal.invariant-loop-op
invariant-loop-op l = find (λ o. pointwise nat_eq l.name (table_name o)) (drop l.op-index l.ops) ≡ find (λ o. pointwise nat_eq l.name (table_name o)) l.ops
