use Rattle.std.proofs.Common.{sym, ◌∙◌}
use Rattle.unit_sets.proofs.Four.{in_words-below}
use Rattle.unit_sets.proofs.set.UnitSetUnitMask.has.Goals as goal

pub returns : goal.returns
returns c = c.has_bit.ensures ∙ sym (in_words-below c.args.self.now.words c.args.u c.requires)
