use Rattle.std.specs.Prelude.{nat_lt}
use Rattle.std.proofs.lemmas.Bool.Decides.{nat_tests}
use Rattle.std.proofs.Common.{true, ◌≡◌, ◌+◌, ◌-◌, ◌<◌, ◌++◌, ℕ, List, set, arith, refl, sym, ◌∙◌, ap, subst, is_some, if◌then◌else◌}
use Rattle.cycle_rules.specs.Row.{Row, Input, times}
use Rattle.cycle_rules.specs.Pick.{taken_by, padded}
use Rattle.cycle_rules.specs.declared.times.Times.{Times}
use Rattle.dispatch_unit.specs.Kept.{StandsFor}
use Rattle.issue_queues.specs.Waiting.{IsIn}
use Rattle.issue_queues.specs.Queues.{StandsFor as QueuesStandFor}
use Rattle.mem_queues.specs.Queues.{StandsFor as MemoryStandsFor}
use Rattle.mem_queues.specs.Order.{is_plain, with_issue}
use Rattle.resource_units.specs.Stand.{StandsFor as UnitsStandFor}
use Rattle.engine_state.specs.State.{now, taken_now, at, IsState}
use Rattle.engine_state.specs.Writes.{IsIssued}
use Rattle.engine_state.proofs.Reading.{issued_by}
use Rattle.engine_state.proofs.Turn.{read_row}
use Rattle.engine_state.proofs.Writes.{state_issues}
use Rattle.engine_state.proofs.TakenRows.{taken_issues}
use Rattle.engine_state.proofs.Flow.{flow_issues}
use Rattle.engine_state.proofs.PartRows.{group_stays}
use Rattle.engine_steps.specs.Flight.{waiting, accesses}
use Rattle.engine_state.proofs.State.{times_set_same}
use Rattle.engine_steps.proofs.Falling.{issue_falls}
use Rattle.engine_steps.proofs.Steps.{picked, start_found, start_operands, start_access, done_by, issue_start, issue_ahead, issue_set, completed_stays}
use Rattle.engine_steps.specs.Wake.{AreAwake, none_out, reads_from}
use Rattle.engine_steps.proofs.Wakes.{awake_issues}
use Rattle.engine_steps.proofs.Waiting.{waiting_in, waiting_issues}
use Rattle.engine_steps.proofs.Accesses.{accesses_issue, access_waits, access_goes}
use Rattle.engine_steps.proofs.issue.issue.Goals as goal

pub take-requires-clause-can : goal.take-requires-clause-can
take-requires-clause-can g c =
    let run : Input = g.R.Rows.input c.args.rows.now in
    let xs : List Times = c.args.f.now.table.items in
    let lt : c.args.j < run.rows = omega (arith, c.requires.head, c.requires.flight.flow.within) in (
      taken_now run c.args.c xs,
      (
        c.requires.units,
        subst (λ o. is_some o ≡ true) (sym (picked run c.args.c c.args.j xs _ _ c.requires.machine c.instruction-b.ensures.row)) (start_found run (now run c.args.c xs) c.args.j c.args.c (issue_start run (now run c.args.c xs) c.args.j c.args.c c.requires.may)),
      ),
    )

pub leave-requires : goal.leave-requires
leave-requires g c =
    let run : Input = g.R.Rows.input c.args.rows.now in
    let xs : List Times = c.args.f.now.table.items in
    let lt : c.args.j < run.rows = omega (arith, c.requires.head, c.requires.flight.flow.within) in
    let late : (now run c.args.c xs c.args.j).issue ≡ c.args.c + 1 = issue_ahead run c.args.c c.args.j xs lt (c.requires.flight.state.kept c.args.j lt) c.requires.none in
    let waits : nat_lt c.args.c (now run c.args.c xs c.args.j).issue ≡ true = grind (arith, nat_tests, late) in
    let place : (i : ℕ) × IsIn c.args.j (run.row c.args.j).uses (waiting run c.args.c xs c.args.f.now.front c.args.f.now.head) i = waiting_in run (now run c.args.c xs) c.args.c c.args.f.now.front (c.args.f.now.head - c.args.f.now.front) c.args.j c.requires.front (omega (arith, c.requires.head)) waits in (
      run.machine,
      waiting run c.args.c xs c.args.f.now.front c.args.f.now.head,
      place.0,
      c.requires.flight.queues,
      c.instruction-b.ensures.names,
      subst (λ (b : Row). IsIn c.args.j b.uses (waiting run c.args.c xs c.args.f.now.front c.args.f.now.head) place.0) (sym c.instruction-b.ensures.row) place.1,
    )

pub issue_memory-requires : goal.issue_memory-requires
issue_memory-requires g c =
    let run : Input = g.R.Rows.input c.args.rows.now in
    let xs : List Times = c.args.f.now.table.items in
    let lt : c.args.j < run.rows = omega (arith, c.requires.head, c.requires.flight.flow.within) in
    let late : (now run c.args.c xs c.args.j).issue ≡ c.args.c + 1 = issue_ahead run c.args.c c.args.j xs lt (c.requires.flight.state.kept c.args.j lt) c.requires.none in (
      run.machine.limits,
      c.requires.flight.memory.since,
      accesses run c.args.c xs c.args.f.now.front c.args.f.now.head,
      c.requires.flight.memory.stand,
      c.requires.flight.memory.low,
      λ kind. access_waits run c.args.c c.args.f.now.front c.args.f.now.head c.args.j xs c.requires.front c.requires.head (sym (ap (λ (b : Row). is_plain b.kind) c.instruction-b.ensures.row) ∙ kind) (omega (arith, late)),
      access_goes run c.args.c c.args.f.now.front c.args.f.now.head c.args.j xs c.requires.front c.requires.head
          (λ k low. done_by run c.args.c 1 c.args.j c.args.f.now.front c.args.f.now.head k xs c.requires.flight.state c.requires.flight.flow c.requires.flight.completed low)
          (start_access run (now run c.args.c xs) c.args.j c.args.c (issue_start run (now run c.args.c xs) c.args.j c.args.c c.requires.may)),
    )

-- the table as the row has issued
issued_state : (g : _) (c : goal.After-wake_readers-arg-1 g) → IsState (g.R.Rows.input c.args.rows.now) (at (g.R.Rows.input c.args.rows.now) c.args.c 1 (c.args.j + 1)) c.deref.result.now
issued_state g c =
    let run : Input = g.R.Rows.input c.args.rows.now in
    let xs : List Times = c.args.f.now.table.items in
    let lt : c.args.j < run.rows = omega (arith, c.requires.head, c.requires.flight.flow.within) in
    let m : c.index-row.result.now ≡ times xs c.args.j = read_row _ _ _ _ _ c.requires.flight.state lt c.index-row.ensures in
    let v : Times = record { dispatch = c.index-row.result.now.dispatch; issue = c.args.c; complete = c.args.c + c.instruction-b.result.now.latency; retire = c.index-row.result.now.retire; units = c.take.result } in
    let w : IsIssued run xs c.args.j c.args.c v = record {
      dispatch = ap (λ t. t.dispatch) m;
      issue = refl;
      complete = ap (λ (b : Row). c.args.c + b.latency) c.instruction-b.ensures.row;
      units = c.take.ensures.units (taken_now run c.args.c xs) c.requires.units ∙ ap (λ o. padded o) (picked run c.args.c c.args.j xs _ _ c.requires.machine c.instruction-b.ensures.row);
      retire = ap (λ t. t.retire) m;
    } in
    subst (IsState run (at run c.args.c 1 (c.args.j + 1))) (sym c.deref.ensures.value) (state_issues run c.args.c c.args.j xs v c.requires.flight.state lt (omega (arith, c.requires.low)) c.requires.free c.requires.none c.requires.may w)

issued_awake : (g : _) (c : goal.After-wake_readers-arg-1 g) → AreAwake (g.R.Rows.input c.args.rows.now) c.deref.result.now c.args.f.now.wakeup c.args.f.now.front c.args.f.now.head c.args.c (reads_from (g.R.Rows.input c.args.rows.now) c.args.j)
issued_awake g c =
    let run : Input = g.R.Rows.input c.args.rows.now in
    let xs : List Times = c.args.f.now.table.items in
    let lt : c.args.j < run.rows = omega (arith, c.requires.head, c.requires.flight.flow.within) in
    subst (λ (ys : List Times). AreAwake run ys c.args.f.now.wakeup c.args.f.now.front c.args.f.now.head c.args.c (reads_from run c.args.j)) (sym c.deref.ensures.value)
    (awake_issues run xs c.args.f.now.wakeup c.args.f.now.front c.args.f.now.head c.args.c c.args.j _ c.requires.flight.awake c.requires.flight.later c.requires.front c.requires.head lt c.requires.flight.state.rows (c.requires.flight.state.kept c.args.j lt) c.requires.none
    (start_operands run (now run c.args.c xs) c.args.j c.args.c (issue_start run (now run c.args.c xs) c.args.j c.args.c c.requires.may)))

pub wake_readers-requires-clause-size : goal.wake_readers-requires-clause-size
wake_readers-requires-clause-size g c = (issued_state g c).rows

pub wake_readers-requires-clause-kept : goal.wake_readers-requires-clause-kept
wake_readers-requires-clause-kept g c = (issued_state g c).kept

pub wake_readers-requires-clause-past : goal.wake_readers-requires-clause-past
wake_readers-requires-clause-past g c k lt ne = issued_by (g.R.Rows.input c.args.rows.now) c.args.c 1 (c.args.j + 1) c.deref.result.now k (issued_state g c) (omega arith) (omega (arith, c.requires.head, c.requires.flight.flow.within)) lt ne

pub wake_readers-requires-clause-issued : goal.wake_readers-requires-clause-issued
wake_readers-requires-clause-issued g c none =
    let run : Input = g.R.Rows.input c.args.rows.now in
    let lt : c.args.j < run.rows = omega (arith, c.requires.head, c.requires.flight.flow.within) in
    let issue : (times c.deref.result.now c.args.j).issue ≡ c.args.c = ap (λ (ys : List Times). (times ys c.args.j).issue) c.deref.ensures.value ∙ ap (λ (t : Times). t.issue) (times_set_same c.args.f.now.table.items c.args.j _ (omega (arith, lt, c.requires.flight.state.rows))) in
    omega (arith, issue, none, c.requires.low)

pub wake_readers-requires-clause-awake : goal.wake_readers-requires-clause-awake
wake_readers-requires-clause-awake g c = (c.args.f.now.front, c.requires.front, issued_awake g c)

pub returns-clause-units : goal.returns-clause-units
returns-clause-units g c =
    let run : Input = g.R.Rows.input c.args.rows.now in
    let xs : List Times = c.args.f.now.table.items in
    let lt : c.args.j < run.rows = omega (arith, c.requires.head, c.requires.flight.flow.within) in
    let m : c.index-row.result.now ≡ times xs c.args.j = read_row _ _ _ _ _ c.requires.flight.state lt c.index-row.ensures in
    let v : Times = record { dispatch = c.index-row.result.now.dispatch; issue = c.args.c; complete = c.args.c + c.instruction-b.result.now.latency; retire = c.index-row.result.now.retire; units = c.take.result } in
    let w : IsIssued run xs c.args.j c.args.c v = record {
      dispatch = ap (λ t. t.dispatch) m;
      issue = refl;
      complete = ap (λ (b : Row). c.args.c + b.latency) c.instruction-b.ensures.row;
      units = c.take.ensures.units (taken_now run c.args.c xs) c.requires.units ∙ ap (λ o. padded o) (picked run c.args.c c.args.j xs _ _ c.requires.machine c.instruction-b.ensures.row);
      retire = ap (λ t. t.retire) m;
    } in
    subst (UnitsStandFor g.M.Machine.meaning g.M.Mask.UnitMask.holds c.args.c c.take.new.self)
    (ap (λ (b : Row). taken_now run c.args.c xs ++ taken_by c.args.c b.uses c.take.result) c.instruction-b.ensures.row ∙ sym (taken_issues run c.args.c c.args.j xs v c.requires.flight.state lt (omega (arith, c.requires.low)) c.requires.free c.requires.none w))
    (c.take.ensures.stands (taken_now run c.args.c xs) c.requires.units)

pub returns-clause-flight : goal.returns-clause-flight
returns-clause-flight g c =
    let run : Input = g.R.Rows.input c.args.rows.now in
    let xs : List Times = c.args.f.now.table.items in
    let lt : c.args.j < run.rows = omega (arith, c.requires.head, c.requires.flight.flow.within) in
    let late : (now run c.args.c xs c.args.j).issue ≡ c.args.c + 1 = issue_ahead run c.args.c c.args.j xs lt (c.requires.flight.state.kept c.args.j lt) c.requires.none in
    let m : c.index-row.result.now ≡ times xs c.args.j = read_row _ _ _ _ _ c.requires.flight.state lt c.index-row.ensures in
    let v : Times = record { dispatch = c.index-row.result.now.dispatch; issue = c.args.c; complete = c.args.c + c.instruction-b.result.now.latency; retire = c.index-row.result.now.retire; units = c.take.result } in
    let w : IsIssued run xs c.args.j c.args.c v = record {
      dispatch = ap (λ t. t.dispatch) m;
      issue = refl;
      complete = ap (λ (b : Row). c.args.c + b.latency) c.instruction-b.ensures.row;
      units = c.take.ensures.units (taken_now run c.args.c xs) c.requires.units ∙ ap (λ o. padded o) (picked run c.args.c c.args.j xs _ _ c.requires.machine c.instruction-b.ensures.row);
      retire = ap (λ t. t.retire) m;
    } in
    let waits : nat_lt c.args.c (now run c.args.c xs c.args.j).issue ≡ true = grind (arith, nat_tests, late) in
    let place : (i : ℕ) × IsIn c.args.j (run.row c.args.j).uses (waiting run c.args.c xs c.args.f.now.front c.args.f.now.head) i = waiting_in run (now run c.args.c xs) c.args.c c.args.f.now.front (c.args.f.now.head - c.args.f.now.front) c.args.j c.requires.front (omega (arith, c.requires.head)) waits in
    let state : IsState run (at run c.args.c 1 (c.args.j + 1)) (set xs c.args.j v) = state_issues run c.args.c c.args.j xs v c.requires.flight.state lt (omega (arith, c.requires.low)) c.requires.free c.requires.none c.requires.may w in
    let issue : (now run c.args.c (set xs c.args.j v) c.args.j).issue ≡ c.args.c = issue_set run c.args.c c.args.j xs v lt c.requires.flight.state.rows (state.kept c.args.j lt) refl (omega (arith, c.requires.low)) in
    let complete : (now run c.args.c (set xs c.args.j v) c.args.j).complete ≡ c.args.c + c.instruction-b.result.now.latency = ap (λ n. n + (run.row c.args.j).latency) issue ∙ sym w.complete in
    record {
      ranges = c.requires.flight.ranges;
      state = state;
      flow = flow_issues _ _ _ _ _ v c.requires.flight.flow c.requires.flight.state.rows c.requires.front c.requires.head w.retire w.dispatch;
      completed = completed_stays c.args.c c.args.f.now.front c.args.j xs v c.requires.flight.completed c.requires.front;
      group = subst (StandsFor c.args.f.now.group) (sym (group_stays run xs c.args.j c.args.f.now.head v (omega (arith, lt, c.requires.flight.state.rows)) w.dispatch)) c.requires.flight.group;
      width = c.requires.flight.width;
      cycle_is = c.requires.flight.cycle_is;
      rob = c.requires.flight.rob;
      files = c.requires.flight.files;
      queues = subst (QueuesStandFor run.machine c.leave.new.self) (waiting_issues run c.args.c c.args.f.now.front c.args.f.now.head c.args.j xs v c.requires.flight.flow.order c.requires.flight.flow.within (omega (arith, issue)))
          (c.leave.ensures.stands run.machine (waiting run c.args.c xs c.args.f.now.front c.args.f.now.head) place.0 c.requires.flight.queues c.instruction-b.ensures.names
          (subst (λ (b : Row). IsIn c.args.j b.uses (waiting run c.args.c xs c.args.f.now.front c.args.f.now.head) place.0) (sym c.instruction-b.ensures.row) place.1));
      memory = record {
        since = c.requires.flight.memory.since;
        low = c.requires.flight.memory.low;
        stand = subst (MemoryStandsFor run.machine.limits c.issue_memory.new.memory c.requires.flight.memory.since)
            (ap (λ (b : Row). if is_plain b.kind then accesses run c.args.c xs c.args.f.now.front c.args.f.now.head else with_issue c.args.j (c.args.c + c.instruction-b.result.now.latency) (accesses run c.args.c xs c.args.f.now.front c.args.f.now.head)) c.instruction-b.ensures.row
            ∙ accesses_issue run c.args.c c.args.f.now.front c.args.f.now.head c.args.j (c.args.c + c.instruction-b.result.now.latency) xs v c.requires.flight.flow.order c.requires.flight.flow.within (omega (arith, issue)) complete)
            (c.issue_memory.ensures run.machine.limits c.requires.flight.memory.since (accesses run c.args.c xs c.args.f.now.front c.args.f.now.head) c.requires.flight.memory.stand c.requires.flight.memory.low
            (λ kind. access_waits run c.args.c c.args.f.now.front c.args.f.now.head c.args.j xs c.requires.front c.requires.head (sym (ap (λ (b : Row). is_plain b.kind) c.instruction-b.ensures.row) ∙ kind) (omega (arith, late)))
            (access_goes run c.args.c c.args.f.now.front c.args.f.now.head c.args.j xs c.requires.front c.requires.head
            (λ k low. done_by run c.args.c 1 c.args.j c.args.f.now.front c.args.f.now.head k xs c.requires.flight.state c.requires.flight.flow c.requires.flight.completed low)
            (start_access run (now run c.args.c xs) c.args.j c.args.c (issue_start run (now run c.args.c xs) c.args.j c.args.c c.requires.may))));
      };
      awake = subst (λ (ys : List Times). AreAwake run ys c.wake_readers.new.w c.args.f.now.front c.args.f.now.head c.args.c none_out) c.deref.ensures.value (c.wake_readers.ensures.awake c.args.f.now.front c.requires.front (issued_awake g c.before));
      later = c.wake_readers.ensures.later c.requires.flight.later;
    }

pub returns-clause-event : goal.returns-clause-event
returns-clause-event g c =
    let run : Input = g.R.Rows.input c.args.rows.now in
    let lt : c.args.j < run.rows = omega (arith, c.requires.head, c.requires.flight.flow.within) in
    issue_falls run c.args.c (c.args.j + 1) c.args.j _ (returns-clause-flight g c).state (omega (arith, lt)) lt (omega (arith, c.requires.low)) c.requires.free
    (ap (λ t. t.issue) (times_set_same c.args.f.now.table.items c.args.j _ (omega (arith, lt, c.requires.flight.state.rows))))

pub returns-clause-taken : goal.returns-clause-taken
returns-clause-taken g c =
    let run : Input = g.R.Rows.input c.args.rows.now in
    let xs : List Times = c.args.f.now.table.items in
    let lt : c.args.j < run.rows = omega (arith, c.requires.head, c.requires.flight.flow.within) in
    let m : c.index-row.result.now ≡ times xs c.args.j = read_row _ _ _ _ _ c.requires.flight.state lt c.index-row.ensures in
    let v : Times = record { dispatch = c.index-row.result.now.dispatch; issue = c.args.c; complete = c.args.c + c.instruction-b.result.now.latency; retire = c.index-row.result.now.retire; units = c.take.result } in
    let w : IsIssued run xs c.args.j c.args.c v = record {
      dispatch = ap (λ t. t.dispatch) m;
      issue = refl;
      complete = ap (λ (b : Row). c.args.c + b.latency) c.instruction-b.ensures.row;
      units = c.take.ensures.units (taken_now run c.args.c xs) c.requires.units ∙ ap (λ o. padded o) (picked run c.args.c c.args.j xs _ _ c.requires.machine c.instruction-b.ensures.row);
      retire = ap (λ t. t.retire) m;
    } in
    (taken_by c.args.c (run.row c.args.j).uses v.units, taken_issues run c.args.c c.args.j xs v c.requires.flight.state lt (omega (arith, c.requires.low)) c.requires.free c.requires.none w)
