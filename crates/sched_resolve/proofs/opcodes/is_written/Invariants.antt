use Rattle.std.proofs.Common.{◌≡◌, drop, map, nat_eq}
use Rattle.std.specs.Cmp.Lexicographic.{pointwise}
use Rattle.sched_resolve.specs.Opcodes.{in_table}
use Rattle.sched_resolve.proofs.opcodes.is_written.Given as goal

-- what is left of the two is to be compared
abbrev pub invariant-loop-byte : goal.invariant-loop-byte
invariant-loop-byte l = pointwise nat_eq (drop l.byte-index l.name) (map in_table l.rest) ≡ pointwise nat_eq l.name (map in_table l.mnemonic)
