use Rattle.std.proofs.Common.{◌≡◌, ◌+◌, ◌≤◌, drop}
use Rattle.rv_asm.specs.LongLines.{long_from}
use Rattle.rv_asm.proofs.read.long_line.Given as goal

abbrev pub invariant-loop-k : goal.invariant-loop-k
invariant-loop-k l = record {
  so_far : long_from l.line l.count (drop l.k l.text) ≡ long_from 1 0 l.text;
  line : l.line ≤ l.k + 1;
  count : l.count ≤ l.k;
}
