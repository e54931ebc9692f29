use Rattle.std.proofs.Common.{◌≡◌, drop}
use Rattle.rv_asm.specs.Meaning.{blank_from}
use Rattle.rv_asm.proofs.instruction.word_end.Given as goal

abbrev pub invariant-loop-k : goal.invariant-loop-k
invariant-loop-k l = blank_from l.k (drop l.k l.text) ≡ blank_from 0 l.text
