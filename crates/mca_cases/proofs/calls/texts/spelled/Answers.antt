use Rattle.std.proofs.Common.{◌∙◌, sym}
use Rattle.rv_isa.proofs.Spellable.{lawful_given, lawful_sets}
use Rattle.mca_cases.proofs.calls.texts.spelled.Goals as goal

pub spell-requires-clause-given : goal.spell-requires-clause-given
spell-requires-clause-given c = lawful_given c.args.instr.now (sym c.is_lawful.ensures ∙ c.if-not-is_lawful.false)

pub spell-requires-clause-sets : goal.spell-requires-clause-sets
spell-requires-clause-sets c = lawful_sets c.args.instr.now (sym c.is_lawful.ensures ∙ c.if-not-is_lawful.false)
