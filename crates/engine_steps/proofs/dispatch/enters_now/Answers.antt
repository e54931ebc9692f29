use Rattle.std.proofs.Common.{◌-◌, List, arith, sym, ◌∙◌, ap}
use Rattle.cycle_rules.specs.Row.{Row, Input}
use Rattle.cycle_rules.specs.declared.times.Times.{Times}
use Rattle.issue_queues.specs.Waiting.{has_entries}
use Rattle.mem_queues.specs.Order.{may_go}
use Rattle.mem_queues.proofs.Flight.{below-known}
use Rattle.engine_state.specs.State.{now}
use Rattle.engine_steps.specs.Flight.{waiting, accesses}
use Rattle.engine_steps.proofs.Steps.{done_by, issued_before, enters_reserved, enters_free}
use Rattle.engine_steps.proofs.Accesses.{access_tie}
use Rattle.engine_steps.proofs.Enters.{buffers_told}
use Rattle.engine_steps.proofs.dispatch.enters_now.Goals as goal

pub may_enter-memory-requires : goal.may_enter-memory-requires
may_enter-memory-requires g c = ((g.R.Rows.input c.args.rows.now).machine.limits, c.requires.flight.memory.since, accesses (g.R.Rows.input c.args.rows.now) c.args.c c.args.f.now.table.items c.args.f.now.front c.args.f.now.head, c.requires.flight.memory.stand)

pub starts_now-requires-clause-flight : goal.starts_now-requires-clause-flight
starts_now-requires-clause-flight g c = (2, c.requires.flight)

pub starts_now-requires-clause-memory : goal.starts_now-requires-clause-memory
starts_now-requires-clause-memory g c =
    let run : Input = g.R.Rows.input c.args.rows.now in
    let xs : List Times = c.args.f.now.table.items in
    c.may_enter-memory.ensures run.machine.limits c.requires.flight.memory.since (accesses run c.args.c xs c.args.f.now.front c.args.f.now.head) c.requires.flight.memory.stand c.requires.flight.memory.low
    (below-known run (now run c.args.c xs) c.args.c c.args.f.now.front (c.args.f.now.head - c.args.f.now.front) c.args.f.now.head (omega (arith, c.requires.flight.flow.order)))
    ∙ ap (λ (b : Row). may_go b.kind run.machine.limits.no_alias c.args.f.now.head c.args.c (accesses run c.args.c xs c.args.f.now.front c.args.f.now.head)) c.instruction-b.ensures.row
    ∙ access_tie run c.args.c c.args.f.now.front c.args.f.now.head c.args.f.now.head xs c.requires.flight.flow.order (omega arith)
    (λ k low. done_by run c.args.c 2 c.args.f.now.head c.args.f.now.front c.args.f.now.head k xs c.requires.flight.state c.requires.flight.flow c.requires.flight.completed low)

pub returns-then-reserved : goal.returns-then-reserved
returns-then-reserved g c =
    let run : Input = g.R.Rows.input c.args.rows.now in
    let xs : List Times = c.args.f.now.table.items in
    c.starts_now.ensures ∙ enters_reserved run (now run c.args.c xs) c.args.f.now.head c.args.c (sym (ap (λ (b : Row). b.reserved) c.instruction-b.ensures.row) ∙ c.if-reserved.true)

pub has_entry-requires : goal.has_entry-requires
has_entry-requires g c = ((g.R.Rows.input c.args.rows.now).machine, waiting (g.R.Rows.input c.args.rows.now) c.args.c c.args.f.now.table.items c.args.f.now.front c.args.f.now.head, c.requires.flight.queues, c.instruction-b.ensures.names)

pub returns : goal.returns
returns g c =
    let run : Input = g.R.Rows.input c.args.rows.now in
    let xs : List Times = c.args.f.now.table.items in
    c.has_entry.ensures run.machine (waiting run c.args.c xs c.args.f.now.front c.args.f.now.head) c.requires.flight.queues c.instruction-b.ensures.names
    ∙ ap (λ (b : Row). has_entries run.machine (waiting run c.args.c xs c.args.f.now.front c.args.f.now.head) b.uses) c.instruction-b.ensures.row
    ∙ buffers_told run c.args.c c.args.f.now.front c.args.f.now.head xs c.requires.flight.flow.order (λ k low. issued_before run c.args.c 2 c.args.f.now.head c.args.f.now.front c.args.f.now.head k xs c.requires.flight.state c.requires.flight.flow (omega arith) (omega (arith, c.requires.flight.flow.within)) low)
    ∙ enters_free run (now run c.args.c xs) c.args.f.now.head c.args.c (sym (ap (λ (b : Row). b.reserved) c.instruction-b.ensures.row) ∙ c.if-reserved.false)
