use Rattle.std.proofs.Common.{◌≡◌, ◌<◌, None, drop, length}
use Rattle.std.specs.Prelude.{IfSome}
use Rattle.rv_asm.specs.Operands.{last_open}
use Rattle.rv_asm.proofs.operand.last_open.Given as goal

abbrev pub invariant-loop-k : goal.invariant-loop-k
invariant-loop-k l = record {
  so_far : last_open l.k l.last (drop l.k l.text) ≡ last_open 0 None l.text;
  bound : IfSome l.last (λ k. k < length l.text);
}
