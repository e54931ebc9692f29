use Rattle.std.proofs.Common.{◌∙◌, ap}
use Rattle.rv_asm.specs.Statement.{is_skipped}
use Rattle.rv_asm.proofs.Settled.{settles, stop_of}
use Rattle.rv_asm.proofs.behind_labels.BehindLabels.push_stop.Goals as goal

pub invariant_of-self-2 : goal.invariant_of-self-2
invariant_of-self-2 c = rw c.in_ok-push.ensures.items (settles c.self-2.inside.text.items c.args.b c.is_skipped-skipped.result (stop_of c.args.b c.requires) (c.is_skipped-skipped.ensures ∙ ap is_skipped c.deref-2.ensures.value))
