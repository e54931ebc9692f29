use Rattle.std.proofs.Common.{sym, ◌∙◌}
use Rattle.engine_steps.specs.Pipeline.{run_of}
use Rattle.event_engine.proofs.Turning.{turn_at_start}
use Rattle.event_engine.proofs.next.first_turn.Goals as goal

pub returns : goal.returns
returns g c = (sym (c.is_over.ensures 0 c.requires.done) ∙ c.if-is_over.false, turn_at_start (run_of g.M.Machine.meaning c.args.pipeline.now))
