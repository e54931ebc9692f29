use Rattle.std.proofs.Common.{◌≡◌, ◌≤◌, ℕ, List, arith, sym, subst}
use Rattle.std.proofs.lemmas.Bool.{leb-true}
use Rattle.cycle_rules.specs.Row.{Input}
use Rattle.cycle_rules.specs.Events.{retired_below}
use Rattle.cycle_rules.specs.Run.{IsRunOf}
use Rattle.cycle_rules.specs.declared.times.Times.{Times}
use Rattle.engine_state.proofs.End.{state_run}
use Rattle.engine_state.proofs.Flow.{flow_retired}
use Rattle.engine_steps.specs.Pipeline.{run_of}
use Rattle.engine_steps.proofs.pipeline.Pipeline.finish.Goals as goal

pub returns : goal.returns
returns g c =
    let run : Input = run_of g.M.Machine.meaning c.args.self in
    let n : ℕ = c.requires.0 in
    let xs : List Times = c.args.self.flight.table.items in
    let all : c.args.self.flight.front ≡ retired_below run n = flow_retired run n c.args.self.flight.front c.args.self.flight.head xs c.requires.1.flight.state c.requires.1.flight.flow in
    let over : run.rows ≤ retired_below run n = leb-true _ _ c.requires.2 in
    subst (λ (ys : List Times). IsRunOf run ys) (sym c.from_vec.ensures)
    (state_run run n xs c.requires.1.flight.state (λ j lt. c.requires.1.flight.flow.retired j (omega (arith, lt, over, all))))
