use Rattle.std.proofs.Common.{arith, ◌∙◌}
use Rattle.engine_state.proofs.Turn.{read_row}
use Rattle.engine_steps.proofs.Steps.{retire_told}
use Rattle.engine_steps.proofs.retire.retires_now.Goals as goal

pub returns : goal.returns
returns g c = c.may_retire.ensures
    ∙ retire_told (g.R.Rows.input c.args.rows.now) c.args.c c.args.f.now.front c.args.f.now.head c.args.count c.retire_width.result c.index-row.result.now c.args.f.now.table.items c.requires.flight.state c.requires.flight.flow (omega arith)
    (read_row _ _ _ _ _ c.requires.flight.state (omega (arith, c.requires.flight.flow.within)) c.index-row.ensures) c.requires.count c.retire_width.ensures
