use Rattle.std.proofs.Common.{◌≡◌, drop}
use Rattle.rv_asm.specs.Extents.{feed_from}
use Rattle.rv_asm.proofs.pieces.feed_at.Given as goal

abbrev pub invariant-loop-k : goal.invariant-loop-k
invariant-loop-k l = feed_from l.k (drop l.k l.text) ≡ feed_from 0 l.text
