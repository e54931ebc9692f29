use Rattle.std.proofs.Common.{◌∙◌, ap, map, arith}
use Rattle.std.proofs.lemmas.List.{take_all}
use Rattle.sched_validate.specs.Classes.{class_for}
use Rattle.sched_validate.proofs.classes.all_classes.Goals as goal

pub returns : goal.returns
returns c = c.from_vec.ensures ∙ c.loop-op.invariant ∙ ap (map (class_for (map (λ w. w.now) c.args.writes.now) (map (λ r. r.now) c.args.rewrites.now) c.args.defaults.now))
    (take_all c.loop-op.op-index c.all_opcodes-ops.result.now (omega (arith, c.loop-op-test.false)) ∙ c.all_opcodes-ops.ensures)
