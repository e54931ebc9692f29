use Rattle.std.proofs.Common.{sym, ◌∙◌, ◌+◌}
use Rattle.event_engine.proofs.next.next_turn.Goals as goal

pub returns : goal.returns
returns g c = (sym (c.is_over.ensures (c.args.c + 1) c.requires.done) ∙ c.if-is_over.false, c.turn_after.ensures)
