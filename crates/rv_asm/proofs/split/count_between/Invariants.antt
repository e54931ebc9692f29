use Rattle.std.proofs.Common.{◌≡◌, ◌+◌, ◌≤◌, drop, length}
use Rattle.rv_asm.specs.Operands.{between_commas}
use Rattle.rv_asm.proofs.split.count_between.Given as goal

abbrev pub invariant-loop-b : goal.invariant-loop-b
invariant-loop-b l = record {
  so_far : l.count + length (between_commas l.depth (drop l.b-index l.text)) ≡ 1 + length (between_commas 0 l.text);
  deep : l.depth ≤ l.b-index;
  few : l.count ≤ l.b-index + 1;
}
