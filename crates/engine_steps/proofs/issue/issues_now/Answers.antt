use Rattle.std.proofs.Common.{◌≡◌, ◌∙◌, ◌+◌, ◌-◌, ◌<◌, List, arith, sym, ap}
use Rattle.rv_isa.specs.declared.facts.Kind.{Kind}
use Rattle.cycle_rules.specs.Row.{Row, Input, times}
use Rattle.cycle_rules.specs.declared.times.Times.{Times}
use Rattle.mem_queues.specs.Order.{is_plain, may_go}
use Rattle.mem_queues.proofs.Flight.{kind-known}
use Rattle.engine_state.specs.State.{now}
use Rattle.engine_state.proofs.Turn.{read_row}
use Rattle.engine_state.proofs.Flow.{flow_dispatch}
use Rattle.engine_steps.proofs.Steps.{done_by, issue_early, issue_late}
use Rattle.engine_steps.specs.Flight.{accesses}
use Rattle.engine_steps.proofs.Accesses.{access_tie, access_waits}
use Rattle.engine_steps.proofs.issue.issues_now.Goals as goal

pub starts_now-requires-clause-flight : goal.starts_now-requires-clause-flight
starts_now-requires-clause-flight g c = (1, c.requires.flight)

pub may_access-memory-requires : goal.may_access-memory-requires
may_access-memory-requires g c = (
  (g.R.Rows.input c.args.rows.now).machine.limits,
  c.requires.flight.memory.since,
  accesses (g.R.Rows.input c.args.rows.now) c.args.c c.args.f.now.table.items c.args.f.now.front c.args.f.now.head,
  c.requires.flight.memory.stand,
)

pub overflow_cast-j : goal.overflow_cast-j
overflow_cast-j g c = omega (arith, c.requires.head, c.requires.flight.flow.within, c.requires.flight.ranges.rows)

pub starts_now-requires-clause-memory : goal.starts_now-requires-clause-memory
starts_now-requires-clause-memory g c =
    let run : Input = g.R.Rows.input c.args.rows.now in
    let xs : List Times = c.args.f.now.table.items in
    let inside : c.args.j < c.args.f.now.front + (c.args.f.now.head - c.args.f.now.front) = omega (arith, c.requires.front, c.requires.head) in
    let kind : c.instruction.result.now.kind ≡ (run.row c.args.j).kind = ap (λ (b : Row). b.kind) c.instruction.ensures.row in
    c.may_access-memory.ensures run.machine.limits c.requires.flight.memory.since (accesses run c.args.c xs c.args.f.now.front c.args.f.now.head) c.requires.flight.memory.stand c.requires.flight.memory.low
    (λ plain. access_waits run c.args.c c.args.f.now.front c.args.f.now.head c.args.j xs c.requires.front c.requires.head (sym (ap (λ (k : Kind). is_plain k) kind) ∙ plain) c.requires.late)
    (kind-known run (now run c.args.c xs) c.args.c c.args.f.now.front (c.args.f.now.head - c.args.f.now.front) c.args.j c.requires.front inside ∙ sym kind)
    ∙ ap (λ (k : Kind). may_go k run.machine.limits.no_alias c.args.j c.args.c (accesses run c.args.c xs c.args.f.now.front c.args.f.now.head)) kind
    ∙ access_tie run c.args.c c.args.f.now.front c.args.f.now.head c.args.j xs c.requires.front (omega (arith, c.requires.head))
    (λ k low. done_by run c.args.c 1 c.args.j c.args.f.now.front c.args.f.now.head k xs c.requires.flight.state c.requires.flight.flow c.requires.flight.completed low)

pub returns-then-index-c : goal.returns-then-index-c
returns-then-index-c g c =
    let run : Input = g.R.Rows.input c.args.rows.now in
    let lt : c.args.j < run.rows = omega (arith, c.requires.head, c.requires.flight.flow.within) in
    let v : c.index.result.now ≡ times c.args.f.now.table.items c.args.j = read_row _ _ _ _ _ c.requires.flight.state lt c.index.ensures in
    sym (issue_early run (now run c.args.c c.args.f.now.table.items) c.args.j c.args.c c.index.result.now.dispatch
    (flow_dispatch run c.args.c c.args.f.now.front c.args.f.now.head c.args.j c.args.f.now.table.items c.requires.flight.flow c.requires.head ∙ sym (ap (λ t. t.dispatch) v)) c.if-index-c.true)

pub returns : goal.returns
returns g c =
    let run : Input = g.R.Rows.input c.args.rows.now in
    let lt : c.args.j < run.rows = omega (arith, c.requires.head, c.requires.flight.flow.within) in
    let v : c.index.result.now ≡ times c.args.f.now.table.items c.args.j = read_row _ _ _ _ _ c.requires.flight.state lt c.index.ensures in
    c.starts_now.ensures ∙ issue_late run (now run c.args.c c.args.f.now.table.items) c.args.j c.args.c c.index.result.now.dispatch
    (flow_dispatch run c.args.c c.args.f.now.front c.args.f.now.head c.args.j c.args.f.now.table.items c.requires.flight.flow c.requires.head ∙ sym (ap (λ t. t.dispatch) v)) (omega arith)
