use Rattle.std.proofs.Common.{arith}
use Rattle.rv_asm.proofs.Commas.{nothing_before}
use Rattle.rv_asm.proofs.split.cut_operand.Goals as goal

pub loop-k-init : goal.loop-k-init
loop-k-init c = record { so_far = nothing_before c.args.text.now; deep = omega arith }
