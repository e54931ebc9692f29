use Rattle.std.proofs.Common.{◌-◌, List, ◌∙◌, ap}
use Rattle.cycle_rules.specs.Row.{Row, Input}
use Rattle.cycle_rules.specs.declared.times.Times.{Times}
use Rattle.mem_queues.specs.Order.{has_place}
use Rattle.engine_state.specs.Flight.{window}
use Rattle.engine_state.specs.Parts.{dispatched_row, write_of}
use Rattle.engine_steps.specs.Flight.{accesses}
use Rattle.engine_steps.proofs.Steps.{dispatch_tie}
use Rattle.engine_steps.proofs.Accesses.{memory_tie}
use Rattle.engine_steps.proofs.Enters.{group_told, rob_told, files_told}
use Rattle.engine_steps.proofs.dispatch.fits_now.Goals as goal

pub returns : goal.returns
returns g c =
    let run : Input = g.R.Rows.input c.args.rows.now in
    let xs : List Times = c.args.f.now.table.items in
    c.all.ensures ∙ dispatch_tie run c.args.c c.args.f.now.front c.args.f.now.head xs c.room-group.result c.room-rob.result c.has_room-files.result c.has_room-memory.result c.enters_now-issues.result
    c.requires.flight.state c.requires.flight.flow c.requires.row
    (c.room-group.ensures (window (dispatched_row run xs) 0 c.args.f.now.head) c.requires.flight.group
    ∙ group_told run c.args.c c.args.f.now.front c.args.f.now.head _ _ c.uops-uops.result c.instruction-b.result.now.begins_group xs c.requires.flight.flow c.requires.flight.width c.requires.flight.cycle_is c.uops-uops.ensures (ap (λ (b : Row). b.begins_group) c.instruction-b.ensures.row))
    (c.room-rob.ensures ∙ rob_told run c.args.c c.args.f.now.front c.args.f.now.head c.uops-uops.result c.args.f.now.rob xs c.requires.flight.state c.requires.flight.flow c.requires.row c.requires.flight.rob c.uops-uops.ensures)
    (c.has_room-files.ensures run.machine (window (write_of run) c.args.f.now.front (c.args.f.now.head - c.args.f.now.front)) c.requires.flight.files
    ∙ files_told run c.args.c c.args.f.now.front c.args.f.now.head c.instruction-b.result.now.rd xs c.requires.flight.state c.requires.flight.flow c.requires.row (ap (λ (b : Row). b.rd) c.instruction-b.ensures.row))
    (c.has_room-memory.ensures run.machine.limits c.requires.flight.memory.since (accesses run c.args.c xs c.args.f.now.front c.args.f.now.head) c.requires.flight.memory.stand
    ∙ ap (λ (b : Row). has_place run.machine.limits (accesses run c.args.c xs c.args.f.now.front c.args.f.now.head) b.kind) c.instruction-b.ensures.row
    ∙ memory_tie run c.args.c c.args.f.now.front c.args.f.now.head xs c.requires.flight.state c.requires.flight.flow c.requires.row)
    c.enters_now-issues.ensures
