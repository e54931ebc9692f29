use Rattle.std.proofs.Common.{◌≡◌, drop}
use Rattle.rv_asm.specs.Extents.{quote_from}
use Rattle.rv_asm.proofs.pieces.quote_at.Given as goal

abbrev pub invariant-loop-k : goal.invariant-loop-k
invariant-loop-k l = quote_from l.k l.prev (drop l.k l.text) ≡ quote_from 0 34 l.text
