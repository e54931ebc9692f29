use Rattle.std.proofs.Common.{◌≡◌, drop, map}
use Rattle.sched_validate.specs.Classes.{rewrite_for}
use Rattle.sched_validate.proofs.classes.rewrite_for.Given as goal

-- none so far names the opcode
abbrev pub invariant-loop-rewrite : goal.invariant-loop-rewrite
invariant-loop-rewrite l = rewrite_for (map (λ r. r.now) (drop l.rewrite-index l.rewrites)) l.op ≡ rewrite_for (map (λ r. r.now) l.rewrites) l.op
