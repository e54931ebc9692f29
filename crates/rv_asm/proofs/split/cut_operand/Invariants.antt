use Rattle.std.proofs.Common.{◌≡◌, ◌≤◌, drop, take}
use Rattle.rv_asm.specs.Operands.{with_front, between_commas}
use Rattle.rv_asm.proofs.split.cut_operand.Given as goal

abbrev pub invariant-loop-k : goal.invariant-loop-k
invariant-loop-k l = record {
  so_far : with_front (take l.k l.text) (between_commas l.depth (drop l.k l.text)) ≡ between_commas 0 l.text;
  deep : l.depth ≤ l.k;
}
