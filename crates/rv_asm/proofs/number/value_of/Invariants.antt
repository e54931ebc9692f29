use Rattle.std.proofs.Common.{◌≡◌, ◌≤◌, ◌^◌, drop}
use Rattle.rv_asm.specs.Numbers.{value_from}
use Rattle.rv_asm.proofs.number.value_of.Given as goal

abbrev pub invariant-loop-b : goal.invariant-loop-b
invariant-loop-b l = record {
  so_far : value_from l.base l.value (drop l.b-index l.text) ≡ value_from l.base 0 l.text;
  high : l.value ≤ 2 ^ 64;
}
