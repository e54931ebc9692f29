use Rattle.std.proofs.Common.{◌≡◌, ◌-◌, ◌<◌, set, arith, refl, sym, ◌∙◌, ap, subst, drop, if◌then◌else◌}
use Rattle.cycle_rules.specs.Row.{Row, Input, times}
use Rattle.cycle_rules.specs.declared.times.Times.{Times}
use Rattle.dispatch_unit.specs.Kept.{StandsFor}
use Rattle.reg_files.specs.Held.{StandsFor as FilesStandFor}
use Rattle.issue_queues.specs.Queues.{StandsFor as QueuesStandFor}
use Rattle.mem_queues.specs.Queues.{StandsFor as MemoryStandsFor}
use Rattle.mem_queues.specs.Order.{is_plain}
use Rattle.engine_state.specs.Flight.{window}
use Rattle.engine_state.specs.Parts.{write_of}
use Rattle.engine_state.specs.Writes.{IsRetired}
use Rattle.engine_state.proofs.State.{times_set_other, times_set_same}
use Rattle.engine_state.proofs.Turn.{read_row}
use Rattle.engine_state.proofs.Writes.{state_retires}
use Rattle.engine_state.proofs.TakenRows.{taken_retires}
use Rattle.engine_state.proofs.Flow.{flow_retires}
use Rattle.engine_state.proofs.PartRows.{group_stays, rob_leaves, write_leaves, write_there}
use Rattle.engine_steps.specs.Flight.{accesses}
use Rattle.engine_steps.proofs.Steps.{Retires, retires, completed_next, since_low}
use Rattle.engine_steps.proofs.Wakes.{awake_retires}
use Rattle.engine_steps.proofs.Waiting.{waiting_leaves}
use Rattle.engine_steps.proofs.Accesses.{accesses_done, accesses_leave}
use Rattle.engine_steps.proofs.retire.retire_front.Goals as goal

pub free-requires : goal.free-requires
free-requires g c =
    let run : Input = g.R.Rows.input c.args.rows.now in
    (run.machine, window (write_of run) c.args.f.now.front (c.args.f.now.head - c.args.f.now.front), c.requires.flight.files, write_there run c.args.f.now.front c.args.f.now.head _ c.requires.row (ap (λ (b : Row). b.rd) c.instruction-b.ensures.row))

pub leave_memory-requires : goal.leave_memory-requires
leave_memory-requires g c =
    let run : Input = g.R.Rows.input c.args.rows.now in
    let what : Retires run c.args.c c.args.f.now.front c.args.f.now.table.items = retires run c.args.c c.args.f.now.front c.args.f.now.head c.args.f.now.table.items c.requires.flight.state c.requires.flight.flow c.requires.row c.requires.may in (
      run.machine.limits,
      c.requires.flight.memory.since,
      accesses run c.args.c c.args.f.now.table.items c.args.f.now.front c.args.f.now.head,
      c.requires.flight.memory.stand,
      c.requires.flight.memory.low,
      λ kind. accesses_done run c.args.c c.args.f.now.front c.args.f.now.head c.args.f.now.table.items c.requires.row (sym (ap (λ (b : Row). is_plain b.kind) c.instruction-b.ensures.row) ∙ kind) what.issue_now what.complete_now,
    )

pub returns-clause-taken : goal.returns-clause-taken
returns-clause-taken g c =
    let run : Input = g.R.Rows.input c.args.rows.now in
    let lt : c.args.f.now.front < run.rows = omega (arith, c.requires.row, c.requires.flight.flow.within) in
    let m : c.index_mut.result.now ≡ times c.args.f.now.table.items c.args.f.now.front = read_row _ _ _ _ _ c.requires.flight.state lt c.index_mut.ensures.value in
    let v : Times = record { dispatch = c.index_mut.result.now.dispatch; issue = c.index_mut.result.now.issue; complete = c.index_mut.result.now.complete; retire = c.args.c; units = c.index_mut.result.now.units } in
    taken_retires run c.args.c c.args.f.now.front c.args.f.now.table.items v c.requires.flight.state.rows lt (record { dispatch = ap (λ t. t.dispatch) m; issue = ap (λ t. t.issue) m; complete = ap (λ t. t.complete) m; units = ap (λ t. t.units) m; retire = refl })

pub returns-clause-flight : goal.returns-clause-flight
returns-clause-flight g c =
    let run : Input = g.R.Rows.input c.args.rows.now in
    let lt : c.args.f.now.front < run.rows = omega (arith, c.requires.row, c.requires.flight.flow.within) in
    let m : c.index_mut.result.now ≡ times c.args.f.now.table.items c.args.f.now.front = read_row _ _ _ _ _ c.requires.flight.state lt c.index_mut.ensures.value in
    let what : Retires run c.args.c c.args.f.now.front c.args.f.now.table.items = retires run c.args.c c.args.f.now.front c.args.f.now.head c.args.f.now.table.items c.requires.flight.state c.requires.flight.flow c.requires.row c.requires.may in
    let v : Times = record { dispatch = c.index_mut.result.now.dispatch; issue = c.index_mut.result.now.issue; complete = c.index_mut.result.now.complete; retire = c.args.c; units = c.index_mut.result.now.units } in
    let w : IsRetired c.args.f.now.table.items c.args.f.now.front c.args.c v = record { dispatch = ap (λ t. t.dispatch) m; issue = ap (λ t. t.issue) m; complete = ap (λ t. t.complete) m; units = ap (λ t. t.units) m; retire = refl } in
    let rd : c.instruction-b.result.now.rd ≡ (run.row c.args.f.now.front).rd = ap (λ (b : Row). b.rd) c.instruction-b.ensures.row in
    record {
      ranges = c.requires.flight.ranges;
      state = state_retires run c.args.c c.args.f.now.front c.args.f.now.table.items v c.requires.flight.state lt (omega (arith, c.requires.low)) (c.requires.flight.flow.held _ (omega arith) lt) c.requires.may w;
      flow = flow_retires _ _ _ _ v c.requires.flight.flow c.requires.flight.state.rows c.requires.row (λ n. omega (arith, n, c.requires.low)) w.dispatch (λ n. what.issued (sym w.issue ∙ n));
      completed = completed_next c.args.c c.args.f.now.front c.args.f.now.table.items (set c.args.f.now.table.items c.args.f.now.front v) c.requires.flight.completed
          (λ k low. times_set_other c.args.f.now.table.items c.args.f.now.front k v (omega (arith, low)))
          (let here : (times (set c.args.f.now.table.items c.args.f.now.front v) c.args.f.now.front).complete ≡ v.complete = ap (λ t. t.complete) (times_set_same c.args.f.now.table.items c.args.f.now.front v (omega (arith, lt, c.requires.flight.state.rows))) in
          let low : v.complete < c.args.c = subst (λ n. n < c.args.c) (sym w.complete) what.completed in
          omega (arith, here, low));
      group = subst (StandsFor c.args.f.now.group) (sym (group_stays run c.args.f.now.table.items c.args.f.now.front c.args.f.now.head v (omega (arith, lt, c.requires.flight.state.rows)) w.dispatch)) c.requires.flight.group;
      width = c.requires.flight.width;
      cycle_is = c.requires.flight.cycle_is;
      rob = c.pop_front.ensures.rest ∙ rob_leaves run c.args.f.now.rob c.args.f.now.front c.args.f.now.head run.machine.limits.reorder c.requires.row c.requires.flight.rob;
      files = subst (FilesStandFor run.machine c.free.new.self) (write_leaves run c.args.f.now.front c.args.f.now.head _ c.requires.row rd)
          (c.free.ensures run.machine (window (write_of run) c.args.f.now.front (c.args.f.now.head - c.args.f.now.front)) c.requires.flight.files);
      queues = subst (QueuesStandFor run.machine c.args.f.now.queues) (sym (waiting_leaves run c.args.c c.args.f.now.front c.args.f.now.head c.args.f.now.table.items v c.requires.row c.requires.flight.flow.within what.issue_now)) c.requires.flight.queues;
      memory = record {
        since = if is_plain c.instruction-b.result.now.kind then c.requires.flight.memory.since else c.args.c;
        low = since_low (is_plain c.instruction-b.result.now.kind) c.requires.flight.memory.since c.args.c c.requires.flight.memory.low;
        stand = subst (MemoryStandsFor run.machine.limits c.leave_memory.new.memory (if is_plain c.instruction-b.result.now.kind then c.requires.flight.memory.since else c.args.c))
            (ap (λ (b : Row). if is_plain b.kind then accesses run c.args.c c.args.f.now.table.items c.args.f.now.front c.args.f.now.head else drop 1 (accesses run c.args.c c.args.f.now.table.items c.args.f.now.front c.args.f.now.head)) c.instruction-b.ensures.row
            ∙ accesses_leave run c.args.c c.args.f.now.front c.args.f.now.head c.args.f.now.table.items v c.requires.row c.requires.flight.flow.within)
            (c.leave_memory.ensures run.machine.limits c.requires.flight.memory.since (accesses run c.args.c c.args.f.now.table.items c.args.f.now.front c.args.f.now.head) c.requires.flight.memory.stand c.requires.flight.memory.low
            (λ kind. accesses_done run c.args.c c.args.f.now.front c.args.f.now.head c.args.f.now.table.items c.requires.row (sym (ap (λ (b : Row). is_plain b.kind) c.instruction-b.ensures.row) ∙ kind) what.issue_now what.complete_now));
      };
      awake = awake_retires run c.args.f.now.table.items c.args.f.now.wakeup c.args.f.now.front c.args.f.now.head c.args.c v c.requires.flight.awake c.requires.flight.later (omega (arith, lt, c.requires.flight.state.rows)) w what.issued (omega (arith, what.completed));
      later = c.requires.flight.later;
    }
