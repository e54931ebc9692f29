use Rattle.std.proofs.Common.{◌-◌, subst}
use Rattle.cycle_rules.specs.Row.{Input}
use Rattle.dispatch_unit.specs.Group.{IsNextFall}
use Rattle.dispatch_unit.specs.Kept.{width_of}
use Rattle.engine_state.specs.Flight.{window}
use Rattle.engine_state.specs.Parts.{dispatched_row}
use Rattle.event_engine.proofs.Shares.{fall_tells}
use Rattle.event_engine.proofs.Changing.{past_of_idle}
use Rattle.event_engine.proofs.next.fall_time.Goals as goal

pub returns : goal.returns
returns g c =
    let run : Input = g.R.Rows.input c.args.rows.now in
    fall_tells run c.args.f.now c.args.c _ _ c.requires.start c.requires.done.flight (past_of_idle run c.args.c c.args.f.now.table.items c.requires.start c.requires.done.flight.state c.requires.idle)
    (subst (λ w. IsNextFall w (c.args.c - 1) (window (dispatched_row run c.args.f.now.table.items) 0 c.args.f.now.head) c.changes_at.result) c.requires.done.flight.width
    (subst (λ b. IsNextFall (width_of c.args.f.now.group) b (window (dispatched_row run c.args.f.now.table.items) 0 c.args.f.now.head) c.changes_at.result) c.requires.done.flight.cycle_is
    (c.changes_at.ensures (window (dispatched_row run c.args.f.now.table.items) 0 c.args.f.now.head) c.requires.done.flight.group)))
