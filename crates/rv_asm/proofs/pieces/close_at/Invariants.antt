use Rattle.std.proofs.Common.{◌≡◌, drop}
use Rattle.rv_asm.specs.Extents.{close_from}
use Rattle.rv_asm.proofs.pieces.close_at.Given as goal

abbrev pub invariant-loop-k : goal.invariant-loop-k
invariant-loop-k l = close_from l.k (drop l.k l.text) ≡ close_from 0 l.text
