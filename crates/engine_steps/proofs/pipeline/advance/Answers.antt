use Rattle.std.proofs.Common.{◌≡◌, ◌-◌, ◌≤◌, ℕ, List, arith, sym, ◌∙◌, ap, length, subst}
use Rattle.cycle_rules.specs.Row.{Input}
use Rattle.cycle_rules.specs.declared.times.Times.{Times}
use Rattle.issue_queues.specs.Queues.{StandsFor as QueuesStandFor}
use Rattle.mem_queues.specs.Queues.{StandsFor as MemoryStandsFor}
use Rattle.resource_units.specs.Stand.{StandsFor as UnitsStandFor}
use Rattle.engine_state.specs.State.{at, taken_now, IsState}
use Rattle.engine_state.specs.Flight.{window}
use Rattle.engine_state.specs.Parts.{dispatched_row}
use Rattle.engine_steps.specs.Wake.{AreAwake, none_out}
use Rattle.engine_steps.specs.Done.{AreParts, HasDone, IsIdle}
use Rattle.engine_steps.proofs.Falling.{state_idles}
use Rattle.engine_steps.proofs.Moving.{begins, ends, waiting_moves, accesses_move, taken_moves}
use Rattle.engine_steps.proofs.pipeline.advance.Goals as goal

pub next_cycle-requires-clause-later : goal.next_cycle-requires-clause-later
next_cycle-requires-clause-later g c =
    let le : c.requires.done.0 ≤ c.args.c = c.requires.done.1 in
    omega (arith, le, c.requires.done.3.flight.cycle_is, c.if-c-gt0.true)

pub wake_rows-requires-clause-size : goal.wake_rows-requires-clause-size
wake_rows-requires-clause-size g c = ap (λ (ys : List Times). length ys) c.deref.ensures.value ∙ c.requires.done.3.flight.state.rows

pub wake_rows-requires-clause-awake : goal.wake_rows-requires-clause-awake
wake_rows-requires-clause-awake g c =
    let run : Input = g.R.Rows.input c.args.rows.now in
    let n : ℕ = c.requires.done.0 in
    let le : n ≤ c.args.c = c.requires.done.1 in
    let done : HasDone g.M.Machine.meaning g.M.Mask.UnitMask.holds run c.args.units.now c.args.f.now n = c.requires.done.3 in
    (c.args.f.now.head, n - 1, omega (arith, le), done.flight.flow.within, done.flight.flow.order, subst (λ (ys : List Times). AreAwake run ys c.args.f.now.wakeup c.args.f.now.front c.args.f.now.head (n - 1) none_out) (sym c.deref.ensures.value) done.flight.awake)

pub returns-then-c-gt0-clause-parts : goal.returns-then-c-gt0-clause-parts
returns-then-c-gt0-clause-parts g c =
    let run : Input = g.R.Rows.input c.args.rows.now in
    let n : ℕ = c.requires.done.0 in
    let le : n ≤ c.args.c = c.requires.done.1 in
    let idle : IsIdle run n c.args.c = c.requires.done.2 in
    let done : HasDone g.M.Machine.meaning g.M.Mask.UnitMask.holds run c.args.units.now c.args.f.now n = c.requires.done.3 in
    let xs : List Times = c.args.f.now.table.items in
    let t : IsState run (at run c.args.c 0 0) xs = state_idles run n c.args.c xs idle done.flight.state in
    let front : ℕ = c.args.f.now.front in
    let head : ℕ = c.args.f.now.head in
    record {
      machine = c.release_until.ensures.machine ∙ done.machine;
      taken = subst (UnitsStandFor g.M.Machine.meaning g.M.Mask.UnitMask.holds c.args.c c.release_until.new.self) (sym (taken_moves run n c.args.c xs le done.flight.state))
          (c.release_until.ensures.stands (taken_now run (n - 1) xs) (n - 1) (omega (arith, le)) done.taken);
      flight = record {
        ranges = done.flight.ranges;
        state = t;
        flow = done.flight.flow;
        completed = λ k low. omega (arith, done.flight.completed k low, le);
        group = c.next_cycle.ensures.stands (window (dispatched_row run xs) 0 head) done.flight.group;
        width = c.next_cycle.ensures.width ∙ done.flight.width;
        cycle_is = c.next_cycle.ensures.cycle;
        rob = done.flight.rob;
        files = done.flight.files;
        queues = subst (QueuesStandFor run.machine c.args.f.now.queues) (waiting_moves run (n - 1) c.args.c front head xs (ends run n xs done.flight.state) (begins run c.args.c xs t) done.flight.flow.within) done.flight.queues;
        awake = subst (λ (ys : List Times). AreAwake run ys c.wake_rows.new.w front head c.args.c none_out) c.deref.ensures.value
            (c.wake_rows.ensures.awake head (n - 1) (omega (arith, le)) done.flight.flow.within (subst (λ (ys : List Times). AreAwake run ys c.args.f.now.wakeup front head (n - 1) none_out) (sym c.deref.ensures.value) done.flight.awake));
        later = c.wake_rows.ensures.later;
        memory = record {
          since = done.flight.memory.since;
          low = omega (arith, done.flight.memory.low, le);
          stand = subst (MemoryStandsFor run.machine.limits c.args.f.now.memory done.flight.memory.since) (accesses_move run (n - 1) c.args.c front head xs (ends run n xs done.flight.state) (begins run c.args.c xs t) done.flight.flow.within) done.flight.memory.stand;
        };
      };
    }

pub returns-else-c-gt0-clause-parts : goal.returns-else-c-gt0-clause-parts
returns-else-c-gt0-clause-parts g c =
    let run : Input = g.R.Rows.input c.args.rows.now in
    let n : ℕ = c.requires.done.0 in
    let le : n ≤ c.args.c = c.requires.done.1 in
    let zero_n : n ≡ 0 = omega (arith, le, c.if-c-gt0.false) in
    let zero_c : c.args.c ≡ 0 = omega (arith, c.if-c-gt0.false) in
    let first : HasDone g.M.Machine.meaning g.M.Mask.UnitMask.holds run c.args.units.now c.args.f.now 0 = subst (HasDone g.M.Machine.meaning g.M.Mask.UnitMask.holds run c.args.units.now c.args.f.now) zero_n c.requires.done.3 in
    subst (λ b. AreParts g.M.Machine.meaning g.M.Mask.UnitMask.holds run c.args.units.now c.args.f.now b (at run b 0 0)) (sym zero_c) first
