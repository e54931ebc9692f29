use Rattle.std.proofs.Common.{◌≡◌, [], replicate, sym, ◌∙◌, ap, subst, refl, arith}
use Rattle.machine_model.specs.declared.limits.Limits.{Limits}
use Rattle.circular_buffer.specs.Buffer.{buffer}
use Rattle.reg_files.specs.Held.{StandsFor}
use Rattle.issue_queues.specs.Queues.{StandsFor as QueuesStandFor}
use Rattle.mem_queues.specs.Queues.{StandsFor as MemoryStandsFor}
use Rattle.cycle_rules.specs.Row.{Input}
use Rattle.cycle_rules.specs.declared.times.Times.{Times}
use Rattle.engine_state.specs.State.{IsState, at}
use Rattle.engine_state.specs.Flight.{IsFlow}
use Rattle.engine_state.proofs.End.{state_start}
use Rattle.engine_state.proofs.Flow.{flow_start}
use Rattle.reorder_buffer.specs.declared.rob.RobEntry.{RobEntry}
use Rattle.engine_steps.proofs.Wakes.{awake_start, later_start}
use Rattle.engine_steps.proofs.flight.start.Goals as goal

pub returns : goal.returns
returns g c =
    let run : Input = g.R.Rows.input c.args.rows.now in
    let v : Times = record { dispatch = 18446744073709551615; issue = 18446744073709551615; complete = 18446744073709551615; retire = 18446744073709551615; units = replicate 8 65535 } in
    let items : c.in_ok-table.table.items ≡ replicate run.rows v = c.in_ok-table.ensures.items_if_clones_equal (λ y e. e) ∙ ap (λ n. replicate n v) c.count.ensures in
    let limits : c.limits-limits.result ≡ run.machine.limits = c.limits-limits.ensures ∙ ap (λ m. m.limits) c.requires.machine in
    record {
      ranges = c.requires.ranges;
      state = subst (IsState run (at run 0 0 0)) (sym items) (state_start run v refl refl refl);
      flow = subst (λ xs. IsFlow run xs 0 0) (sym items) (flow_start run v refl refl refl);
      completed = λ k low. absurd (omega (arith, low));
      group = c.make-group.ensures.empty;
      width = c.make-group.ensures.width ∙ ap (λ (l : Limits). l.width) limits;
      cycle_is = c.make-group.ensures.cycle;
      rob = c.in_ok-rob.ensures ∙ ap (λ n. buffer {X = RobEntry} [] n) (ap (λ (l : Limits). l.reorder) limits);
      files = subst (λ m. StandsFor m c.in_ok-files.files []) c.requires.machine c.in_ok-files.ensures;
      queues = subst (λ m. QueuesStandFor m c.in_ok-queues.queues []) c.requires.machine c.in_ok-queues.ensures.stands;
      memory = record {
        since = 0;
        low = omega arith;
        stand = subst (λ (l : Limits). MemoryStandsFor l c.in_ok-memory.memory 0 []) limits c.in_ok-memory.ensures;
      };
      awake = awake_start run c.in_ok-table.table.items c.in_ok-wakeup.wakeup c.in_ok-wakeup.ensures;
      later = later_start c.in_ok-wakeup.wakeup.agenda 0 c.in_ok-wakeup.ensures;
    }
