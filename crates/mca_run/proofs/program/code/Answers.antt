use Rattle.mca_run.proofs.Walk.{code_more}
use Rattle.mca_run.proofs.program.code.Goals as goal

pub loop-k-preserved : goal.loop-k-preserved
loop-k-preserved c = code_more c.loop-k.code.items c.push.new.self.items c.args.items.now c.loop-k.k c.in-Code.field-0 c.in-Code.instr c.in-Code.ensures c.in_ok-push-in-Code.ensures.items c.loop-k.invariant
