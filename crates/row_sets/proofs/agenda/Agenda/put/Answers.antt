use Rattle.std.proofs.Common.{sym, ◌∙◌}
use Rattle.row_sets.proofs.Times.{waits_already, time_none}
use Rattle.row_sets.proofs.agenda.Agenda.put.Goals as goal

pub returns-then-waits : goal.returns-then-waits
returns-then-waits c = waits_already c.args.self.now c.args.k c.args.time (sym c.waits.ensures ∙ c.if-waits.true) c.requires

pub add-requires : goal.add-requires
add-requires c = time_none c.args.self.now.words.items c.args.self.now.times.items c.args.k (sym c.waits.ensures ∙ c.if-waits.false)
