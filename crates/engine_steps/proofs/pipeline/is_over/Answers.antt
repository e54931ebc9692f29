use Rattle.std.proofs.Common.{◌≡◌, refl}
use Rattle.cycle_rules.specs.Row.{Input}
use Rattle.cycle_rules.specs.Events.{retired_below}
use Rattle.engine_state.proofs.Flow.{flow_retired}
use Rattle.engine_steps.proofs.pipeline.is_over.Goals as goal

pub returns : goal.returns
returns g c n done =
    let run : Input = g.R.Rows.input c.args.rows.now in
    let all : c.args.f.now.front ≡ retired_below run n = flow_retired run n c.args.f.now.front c.args.f.now.head c.args.f.now.table.items done.flight.state done.flight.flow in
    rw (c.count.ensures, all) refl
