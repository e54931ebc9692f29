use Rattle.std.proofs.Common.{◌≡◌, drop}
use Rattle.rv_asm.specs.Statement.{behind}
use Rattle.rv_asm.proofs.behind_labels.BehindLabels.extend.Given as goal

abbrev pub invariant-loop-b : goal.invariant-loop-b
invariant-loop-b l = behind l.self (drop l.b-index l.bytes) ≡ behind l.fn.self l.bytes
