use Rattle.std.proofs.Common.{◌-◌, List, subst}
use Rattle.cycle_rules.specs.Row.{Input}
use Rattle.cycle_rules.specs.declared.times.Times.{Times}
use Rattle.resource_units.specs.Kept.{AnswersChange}
use Rattle.engine_state.specs.State.{taken_now}
use Rattle.event_engine.proofs.Changing.{change_tells}
use Rattle.event_engine.proofs.next.change_time.Goals as goal

pub returns : goal.returns
returns g c =
    let run : Input = g.R.Rows.input c.args.rows.now in
    let xs : List Times = c.args.f.now.table.items in
    change_tells run c.args.c xs _ c.requires.start c.requires.done.flight.state
    (subst (λ m. AnswersChange m (c.args.c - 1) (taken_now run (c.args.c - 1) xs) c.next_change.result) c.requires.done.machine (c.next_change.ensures.change (taken_now run (c.args.c - 1) xs) c.requires.done.taken))
