use Rattle.std.proofs.Common.{◌∙◌, ap}
use Rattle.rv_asm.specs.Statement.{is_skipped}
use Rattle.rv_asm.proofs.Settled.{settled_skips}
use Rattle.rv_asm.proofs.behind_labels.BehindLabels.takes_strings.Goals as goal

pub returns-in-Some : goal.returns-in-Some
returns-in-Some c = settled_skips c.self.inside.settled c.in-Some.skipped c.self.inside.text.items c.self.invariant c.in-Some.is ∙ ap is_skipped c.self.view_is
