use Rattle.engine_state.proofs.InTurn.{in_turn}
use Rattle.event_engine.specs.Sound.{input_of}
use Rattle.event_engine.proofs.Turning.{total_bounded, over_of}
use Rattle.event_engine.proofs.engine.EventEngine.finish.Goals as goal

pub finish-requires : goal.finish-requires
finish-requires g c = (c.args.self.from, c.requires.sound.done, over_of (input_of g.M.Machine.meaning c.args.self) c.args.self.from c.args.self.next c.requires.sound.turn c.requires.done)

pub returns-clause-bound : goal.returns-clause-bound
returns-clause-bound g c = total_bounded (input_of g.M.Machine.meaning c.args.self) _ c.requires.sound.bounded c.finish.ensures

pub returns-clause-order : goal.returns-clause-order
returns-clause-order g c = in_turn _ _ c.finish.ensures
