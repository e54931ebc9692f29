use Rattle.std.specs.Prelude.{nat_eq}
use Rattle.std.proofs.Common.{◌≡◌, ◌+◌, ◌-◌, ◌<◌, ◌≤◌, ◌++◌, ◌∷◌, [], ℕ, List, length, set, arith, sym, ◌∙◌, ap, subst, false, if◌then◌else◌}
use Rattle.cycle_rules.specs.Row.{Row, Input, times}
use Rattle.cycle_rules.specs.declared.times.Times.{Times}
use Rattle.dispatch_unit.specs.Kept.{StandsFor}
use Rattle.reg_files.specs.Held.{StandsFor as FilesStandFor}
use Rattle.issue_queues.specs.Waiting.{has_entries}
use Rattle.issue_queues.specs.Queues.{StandsFor as QueuesStandFor}
use Rattle.mem_queues.specs.Order.{is_plain, has_place, with_issue}
use Rattle.mem_queues.specs.Queues.{StandsFor as MemoryStandsFor}
use Rattle.mem_queues.proofs.Flight.{below-known}
use Rattle.resource_units.specs.Stand.{StandsFor as UnitsStandFor}
use Rattle.engine_state.specs.State.{never, now, at, IsState}
use Rattle.engine_state.specs.Flight.{window}
use Rattle.engine_state.specs.Parts.{dispatched_row, write_of}
use Rattle.engine_state.proofs.Writes.{state_dispatches}
use Rattle.engine_state.proofs.TakenRows.{taken_dispatches}
use Rattle.engine_state.proofs.Flow.{flow_dispatches}
use Rattle.engine_state.proofs.PartRows.{group_place, rob_room, files_room, few_in_flight, count_writes, group_grows, rob_enters, write_enters}
use Rattle.engine_steps.specs.Flight.{waiting, accesses}
use Rattle.engine_state.proofs.State.{times_set_same}
use Rattle.engine_steps.proofs.Falling.{dispatch_falls}
use Rattle.engine_steps.proofs.Steps.{done_by, issued_before, issue_ahead, start_access, dispatch_starts, dispatch_buffers, dispatch_memory, completed_stays}
use Rattle.engine_steps.proofs.Wakes.{awake_dispatches, awake_entered}
use Rattle.engine_steps.specs.Wake.{AreAwake, except}
use Rattle.engine_state.proofs.Reading.{issued_by}
use Rattle.engine_steps.proofs.Waiting.{waiting_some, waiting_below}
use Rattle.engine_steps.proofs.Accesses.{accesses_enter, accesses_few, access_waits, access_goes, memory_tie}
use Rattle.engine_steps.proofs.Enters.{buffers_told, enters_waiting, enters_accesses}
use Rattle.engine_steps.proofs.dispatch.dispatch_head.Goals as goal

pub place-requires : goal.place-requires
place-requires g c =
    let run : Input = g.R.Rows.input c.args.rows.now in
    let xs : List Times = c.args.f.now.table.items in
    let front : ℕ = c.args.f.now.front in
    let head : ℕ = c.args.f.now.head in (
      window (dispatched_row run xs) 0 head,
      c.requires.flight.group,
      group_place run c.args.c front head _ _ c.uops-uops.result xs c.requires.flight.flow c.requires.flight.width c.requires.flight.cycle_is c.uops-uops.ensures c.requires.may,
    )

pub push-requires-clause-room : goal.push-requires-clause-room
push-requires-clause-room g c =
    let run : Input = g.R.Rows.input c.args.rows.now in
    let xs : List Times = c.args.f.now.table.items in
    let front : ℕ = c.args.f.now.front in
    let head : ℕ = c.args.f.now.head in
    rob_room run c.args.c front head c.uops-uops.result c.args.f.now.rob xs c.requires.flight.state c.requires.flight.flow c.requires.row c.requires.flight.rob c.uops-uops.ensures c.requires.may

pub push-requires-clause-some : goal.push-requires-clause-some
push-requires-clause-some g c = omega (arith, c.uops-uops.ensures, c.requires.flight.ranges.some_uops c.args.f.now.head c.requires.row)

pub take-requires : goal.take-requires
take-requires g c =
    let run : Input = g.R.Rows.input c.args.rows.now in
    let xs : List Times = c.args.f.now.table.items in
    let front : ℕ = c.args.f.now.front in
    let head : ℕ = c.args.f.now.head in
    let few : head - front < run.machine.limits.reorder = few_in_flight run c.args.c front head xs c.requires.flight.ranges.some_uops c.requires.flight.state c.requires.flight.flow c.requires.row c.requires.may in (
      run.machine,
      window (write_of run) front (head - front),
      c.requires.flight.files,
      files_room run c.args.c front head _ xs c.requires.flight.state c.requires.flight.flow c.requires.row (ap (λ (b : Row). b.rd) c.instruction-b.ensures.row) c.requires.may,
      omega (arith, few, count_writes run front head, c.requires.flight.ranges.reorder_high),
    )

pub enter_memory-requires : goal.enter_memory-requires
enter_memory-requires g c =
    let run : Input = g.R.Rows.input c.args.rows.now in
    let xs : List Times = c.args.f.now.table.items in
    let front : ℕ = c.args.f.now.front in
    let head : ℕ = c.args.f.now.head in
    let few : head - front < run.machine.limits.reorder = few_in_flight run c.args.c front head xs c.requires.flight.ranges.some_uops c.requires.flight.state c.requires.flight.flow c.requires.row c.requires.may in (
      run.machine.limits,
      c.requires.flight.memory.since,
      accesses run c.args.c xs front head,
      c.requires.flight.memory.stand,
      ap (λ (b : Row). has_place run.machine.limits (accesses run c.args.c xs front head) b.kind) c.instruction-b.ensures.row ∙ memory_tie run c.args.c front head xs c.requires.flight.state c.requires.flight.flow c.requires.row ∙ dispatch_memory run (now run c.args.c xs) head c.args.c c.requires.may,
      accesses_few run (now run c.args.c xs) c.args.c front (head - front) run.machine.limits.reorder few,
      below-known run (now run c.args.c xs) c.args.c front (head - front) head (omega (arith, c.requires.flight.flow.order)),
    )

pub wait_or_issue-requires-clause-queues : goal.wait_or_issue-requires-clause-queues
wait_or_issue-requires-clause-queues g c =
    let run : Input = g.R.Rows.input c.args.rows.now in
    let xs : List Times = c.args.f.now.table.items in
    let front : ℕ = c.args.f.now.front in
    let head : ℕ = c.args.f.now.head in
    let few : head - front < run.machine.limits.reorder = few_in_flight run c.args.c front head xs c.requires.flight.ranges.some_uops c.requires.flight.state c.requires.flight.flow c.requires.row c.requires.may in (
      run.machine,
      waiting run c.args.c xs front head,
      c.requires.flight.queues,
      c.instruction-b.ensures.names,
      λ free. ap (λ (b : Row). has_entries run.machine (waiting run c.args.c xs front head) b.uses) c.instruction-b.ensures.row
          ∙ buffers_told run c.args.c front head xs c.requires.flight.flow.order (λ k low. issued_before run c.args.c 2 head front head k xs c.requires.flight.state c.requires.flight.flow (omega arith) (omega (arith, c.requires.flight.flow.within)) low)
          ∙ dispatch_buffers run (now run c.args.c xs) head c.args.c c.requires.may (sym (ap (λ (b : Row). b.reserved) c.instruction-b.ensures.row) ∙ free),
      waiting_some run (now run c.args.c xs) c.args.c front (head - front) run.machine.limits.reorder few,
      waiting_below run (now run c.args.c xs) c.args.c front (head - front) head (omega (arith, c.requires.flight.flow.order)),
    )

pub wait_or_issue-requires-clause-memory : goal.wait_or_issue-requires-clause-memory
wait_or_issue-requires-clause-memory g c =
    let run : Input = g.R.Rows.input c.args.rows.now in
    let xs : List Times = c.args.f.now.table.items in
    let front : ℕ = c.args.f.now.front in
    let head : ℕ = c.args.f.now.head in
    let few : head - front < run.machine.limits.reorder = few_in_flight run c.args.c front head xs c.requires.flight.ranges.some_uops c.requires.flight.state c.requires.flight.flow c.requires.row c.requires.may in
    let none : (times xs head).issue ≡ never = c.requires.flight.flow.unissued head (omega arith) c.requires.row in
    let ahead : (now run c.args.c xs head).issue ≡ c.args.c + 1 = issue_ahead run c.args.c head xs c.requires.row (c.requires.flight.state.kept head c.requires.row) none in
    let late : c.args.c < (now run c.args.c xs head).issue = omega (arith, ahead) in
    let stand : MemoryStandsFor run.machine.limits c.enter_memory.new.memory c.requires.flight.memory.since (accesses run c.args.c xs front (head + 1)) =
    subst (MemoryStandsFor run.machine.limits c.enter_memory.new.memory c.requires.flight.memory.since)
    (ap (λ (b : Row). if is_plain b.kind then accesses run c.args.c xs front head else accesses run c.args.c xs front head ++ record { row = head; kind = b.kind; issued = false; complete = 0 } ∷ []) c.instruction-b.ensures.row
    ∙ accesses_enter run c.args.c front head xs c.requires.flight.flow.order late)
    (c.enter_memory.ensures run.machine.limits c.requires.flight.memory.since (accesses run c.args.c xs front head) c.requires.flight.memory.stand
    (accesses_few run (now run c.args.c xs) c.args.c front (head - front) run.machine.limits.reorder few) (below-known run (now run c.args.c xs) c.args.c front (head - front) head (omega (arith, c.requires.flight.flow.order)))) in (
      run.machine.limits,
      c.requires.flight.memory.since,
      accesses run c.args.c xs front (head + 1),
      stand,
      c.requires.flight.memory.low,
      λ plain. access_waits run c.args.c front (head + 1) head xs c.requires.flight.flow.order (omega arith) (sym (ap (λ (b : Row). is_plain b.kind) c.instruction-b.ensures.row) ∙ plain) late,
      λ reserved. access_goes run c.args.c front (head + 1) head xs c.requires.flight.flow.order (omega arith)
          (λ k low. done_by run c.args.c 2 head front head k xs c.requires.flight.state c.requires.flight.flow c.requires.flight.completed low)
          (start_access run (now run c.args.c xs) head c.args.c (dispatch_starts run (now run c.args.c xs) head c.args.c c.requires.may (sym (ap (λ (b : Row). b.reserved) c.instruction-b.ensures.row) ∙ reserved))),
    )

-- the table as the row has dispatched
dispatched_state : (g : _) (c : goal.After-settle-arg-1 g) → IsState (g.R.Rows.input c.args.rows.now) (at (g.R.Rows.input c.args.rows.now) c.args.c 2 (c.args.f.now.head + 1)) (set c.args.f.now.table.items c.args.f.now.head c.dispatched-row.result)
dispatched_state g c =
    let run : Input = g.R.Rows.input c.args.rows.now in
    let xs : List Times = c.args.f.now.table.items in
    let head : ℕ = c.args.f.now.head in
    state_dispatches run c.args.c head xs c.dispatched-row.result c.requires.flight.state c.requires.row (omega (arith, c.requires.low)) (c.requires.flight.flow.waiting head (omega arith) c.requires.row) c.requires.may c.dispatched-row.ensures.row

pub settle-requires-clause-size : goal.settle-requires-clause-size
settle-requires-clause-size g c = ap (λ (ys : List Times). length ys) c.deref.ensures.value ∙ (dispatched_state g c).rows

pub settle-requires-clause-kept : goal.settle-requires-clause-kept
settle-requires-clause-kept g c = rw c.deref.ensures.value (dispatched_state g c).kept

pub settle-requires-clause-past : goal.settle-requires-clause-past
settle-requires-clause-past g c k lt = subst (λ (ys : List Times). ((times ys k).issue ≡ never → ⊥) → (times ys k).issue ≤ c.args.c) (sym c.deref.ensures.value)
    (λ ne. issued_by (g.R.Rows.input c.args.rows.now) c.args.c 2 (c.args.f.now.head + 1) _ k (dispatched_state g c) (omega arith) (omega (arith, c.requires.row)) lt ne)

pub settle-requires-clause-awake : goal.settle-requires-clause-awake
settle-requires-clause-awake g c =
    let run : Input = g.R.Rows.input c.args.rows.now in
    let xs : List Times = c.args.f.now.table.items in
    let front : ℕ = c.args.f.now.front in
    let head : ℕ = c.args.f.now.head in
    let few : head - front < run.machine.limits.reorder = few_in_flight run c.args.c front head xs c.requires.flight.ranges.some_uops c.requires.flight.state c.requires.flight.flow c.requires.row c.requires.may in (
      front,
      head + 1,
      λ i. nat_eq i head,
      c.requires.flight.flow.order,
      omega arith,
      subst (λ (ys : List Times). AreAwake run ys c.args.f.now.wakeup front (head + 1) c.args.c (λ i. nat_eq i head)) (sym c.deref.ensures.value)
          (awake_dispatches run xs c.args.f.now.wakeup front head c.args.c c.dispatched-row.result c.requires.flight.awake c.requires.flight.flow.order (omega (arith, few, c.requires.flight.ranges.reorder_high)) (omega (arith, c.requires.row, c.requires.flight.state.rows)) c.dispatched-row.ensures.row),
    )

pub returns-clause-units : goal.returns-clause-units
returns-clause-units g c =
    let run : Input = g.R.Rows.input c.args.rows.now in
    let xs : List Times = c.args.f.now.table.items in
    let front : ℕ = c.args.f.now.front in
    let head : ℕ = c.args.f.now.head in
    subst (UnitsStandFor g.M.Machine.meaning g.M.Mask.UnitMask.holds c.args.c c.dispatched-row.new.units)
    (sym (taken_dispatches run c.args.c head xs c.dispatched-row.result c.requires.flight.state c.requires.row (omega (arith, c.requires.low)) (c.requires.flight.flow.waiting head (omega arith) c.requires.row) c.dispatched-row.ensures.row)) c.dispatched-row.ensures.units

pub returns-clause-flight : goal.returns-clause-flight
returns-clause-flight g c =
    let run : Input = g.R.Rows.input c.args.rows.now in
    let xs : List Times = c.args.f.now.table.items in
    let front : ℕ = c.args.f.now.front in
    let head : ℕ = c.args.f.now.head in
    let few : head - front < run.machine.limits.reorder = few_in_flight run c.args.c front head xs c.requires.flight.ranges.some_uops c.requires.flight.state c.requires.flight.flow c.requires.row c.requires.may in
    let none : (times xs head).issue ≡ never = c.requires.flight.flow.unissued head (omega arith) c.requires.row in
    let ahead : (now run c.args.c xs head).issue ≡ c.args.c + 1 = issue_ahead run c.args.c head xs c.requires.row (c.requires.flight.state.kept head c.requires.row) none in
    let late : c.args.c < (now run c.args.c xs head).issue = omega (arith, ahead) in
    let stand : MemoryStandsFor run.machine.limits c.enter_memory.new.memory c.requires.flight.memory.since (accesses run c.args.c xs front (head + 1)) =
    subst (MemoryStandsFor run.machine.limits c.enter_memory.new.memory c.requires.flight.memory.since)
    (ap (λ (b : Row). if is_plain b.kind then accesses run c.args.c xs front head else accesses run c.args.c xs front head ++ record { row = head; kind = b.kind; issued = false; complete = 0 } ∷ []) c.instruction-b.ensures.row
    ∙ accesses_enter run c.args.c front head xs c.requires.flight.flow.order late)
    (c.enter_memory.ensures run.machine.limits c.requires.flight.memory.since (accesses run c.args.c xs front head) c.requires.flight.memory.stand
    (accesses_few run (now run c.args.c xs) c.args.c front (head - front) run.machine.limits.reorder few) (below-known run (now run c.args.c xs) c.args.c front (head - front) head (omega (arith, c.requires.flight.flow.order)))) in
    let v : Times = c.dispatched-row.result in
    let long : head < length xs = omega (arith, c.requires.row, c.requires.flight.state.rows) in
    let ends : c.instruction-b.result.now.ends_group ≡ (run.row head).ends_group = ap (λ (b : Row). b.ends_group) c.instruction-b.ensures.row in
    let state : IsState run (at run c.args.c 2 (head + 1)) (set xs head v) = state_dispatches run c.args.c head xs v c.requires.flight.state c.requires.row (omega (arith, c.requires.low)) (c.requires.flight.flow.waiting head (omega arith) c.requires.row) c.requires.may c.dispatched-row.ensures.row in
    record {
      ranges = c.requires.flight.ranges;
      state = state;
      flow = flow_dispatches _ _ _ _ v c.requires.flight.flow c.requires.flight.state.rows c.requires.row (λ n. omega (arith, n, c.dispatched-row.ensures.row.dispatch, c.requires.low)) c.dispatched-row.ensures.row.retire;
      completed = completed_stays c.args.c front head xs v c.requires.flight.completed c.requires.flight.flow.order;
      group = subst (StandsFor c.place.new.self) (group_grows run c.args.c head _ c.uops-uops.result c.instruction-b.result.now.ends_group xs v long c.dispatched-row.ensures.row.dispatch c.requires.flight.cycle_is c.uops-uops.ensures ends)
          (c.place.ensures.stands (window (dispatched_row run xs) 0 head) c.requires.flight.group);
      width = c.place.ensures.width ∙ c.requires.flight.width;
      cycle_is = c.place.ensures.cycle ∙ c.requires.flight.cycle_is;
      rob = c.push.ensures ∙ rob_enters run c.args.f.now.rob front head run.machine.limits.reorder c.uops-uops.result c.requires.flight.flow.order c.uops-uops.ensures c.requires.flight.rob;
      files = subst (FilesStandFor run.machine c.take.new.self) (write_enters run front head _ c.requires.flight.flow.order (ap (λ (b : Row). b.rd) c.instruction-b.ensures.row))
          (c.take.ensures run.machine (window (write_of run) front (head - front)) c.requires.flight.files);
      queues = subst (QueuesStandFor run.machine c.wait_or_issue.new.queues)
          (ap (λ (b : Row). if b.reserved then waiting run c.args.c xs front head else waiting run c.args.c xs front head ++ record { row = head; uses = b.uses; ready = false } ∷ []) c.instruction-b.ensures.row
          ∙ enters_waiting run c.args.c front head xs v c.requires.flight.flow.order c.requires.row c.requires.flight.state.rows (state.kept head c.requires.row) none (omega (arith, c.requires.low)) c.dispatched-row.ensures.row)
          (c.wait_or_issue.ensures.queues run.machine (waiting run c.args.c xs front head) c.requires.flight.queues c.instruction-b.ensures.names (waiting_some run (now run c.args.c xs) c.args.c front (head - front) run.machine.limits.reorder few) (waiting_below run (now run c.args.c xs) c.args.c front (head - front) head (omega (arith, c.requires.flight.flow.order))));
      memory = record {
        since = c.requires.flight.memory.since;
        low = c.requires.flight.memory.low;
        stand = subst (MemoryStandsFor run.machine.limits c.wait_or_issue.new.memory c.requires.flight.memory.since)
            (ap (λ (b : Row). if b.reserved then (if is_plain b.kind then accesses run c.args.c xs front (head + 1) else with_issue head v.complete (accesses run c.args.c xs front (head + 1))) else accesses run c.args.c xs front (head + 1)) c.instruction-b.ensures.row
            ∙ enters_accesses run c.args.c front head xs v c.requires.flight.flow.order c.requires.row c.requires.flight.state.rows (state.kept head c.requires.row) none late (omega (arith, c.requires.low)) c.dispatched-row.ensures.row)
            (c.wait_or_issue.ensures.memory run.machine.limits c.requires.flight.memory.since (accesses run c.args.c xs front (head + 1)) stand c.requires.flight.memory.low (λ plain. access_waits run c.args.c front (head + 1) head xs c.requires.flight.flow.order (omega arith) (sym (ap (λ (b : Row). is_plain b.kind) c.instruction-b.ensures.row) ∙ plain) late) (λ reserved. access_goes run c.args.c front (head + 1) head xs c.requires.flight.flow.order (omega arith)
            (λ k low. done_by run c.args.c 2 head front head k xs c.requires.flight.state c.requires.flight.flow c.requires.flight.completed low)
            (start_access run (now run c.args.c xs) head c.args.c (dispatch_starts run (now run c.args.c xs) head c.args.c c.requires.may (sym (ap (λ (b : Row). b.reserved) c.instruction-b.ensures.row) ∙ reserved)))));
      };
      awake = awake_entered run (set xs head v) c.settle.new.w front (head + 1) head c.args.c (subst (λ (ys : List Times). AreAwake run ys c.settle.new.w front (head + 1) c.args.c (except head (λ i. nat_eq i head))) c.deref.ensures.value
          (c.settle.ensures.awake front (head + 1) (λ i. nat_eq i head) c.requires.flight.flow.order (omega arith) (subst (λ (ys : List Times). AreAwake run ys c.args.f.now.wakeup front (head + 1) c.args.c (λ i. nat_eq i head)) (sym c.deref.ensures.value)
          (awake_dispatches run xs c.args.f.now.wakeup front head c.args.c v c.requires.flight.awake c.requires.flight.flow.order (omega (arith, few, c.requires.flight.ranges.reorder_high)) long c.dispatched-row.ensures.row))));
      later = c.settle.ensures.later c.requires.flight.later;
    }

pub returns-clause-event : goal.returns-clause-event
returns-clause-event g c =
    let run : Input = g.R.Rows.input c.args.rows.now in
    let head : ℕ = c.args.f.now.head in
    dispatch_falls run c.args.c (head + 1) head _ (returns-clause-flight g c).state (omega (arith, c.requires.row)) c.requires.row (omega (arith, c.requires.low))
    (ap (λ t. t.dispatch) (times_set_same c.args.f.now.table.items head _ (omega (arith, c.requires.row, c.requires.flight.state.rows))) ∙ c.dispatched-row.ensures.row.dispatch)
