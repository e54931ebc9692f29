use Rattle.std.proofs.Common.{◌≡◌, map, sym, ◌∙◌, subst}
use Rattle.cycle_rules.specs.Bind.{row_of}
use Rattle.cycle_rules.specs.Row.{Input, input}
use Rattle.engine_state.specs.InTurn.{IssuesInTurn}
use Rattle.event_engine.specs.Sound.{input_of}
use Rattle.event_engine.proofs.engine.EventEngine.run.Goals as goal

pub returns-clause-order : goal.returns-clause-order
returns-clause-order g c =
    let same : input_of g.M.Machine.meaning c.drive.new.pipe ≡ input (g.M.Machine.meaning c.args.machine.now) (map row_of c.args.body.now) c.args.iterations = sym c.drive.ensures.same ∙ c.in_ok-engine.ensures.run in
    subst (λ (r : Input). IssuesInTurn r c.finish.result.rows) same c.finish.ensures.order
