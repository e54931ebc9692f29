use Rattle.std.proofs.Common.{◌≡◌, ◌<◌, List, false, arith, sym, subst}
use Rattle.std.specs.Prelude.{nat_le}
use Rattle.std.proofs.lemmas.Bool.Decides.{nat_tests}
use Rattle.cycle_rules.specs.Row.{Input}
use Rattle.cycle_rules.specs.Events.{retired_below}
use Rattle.cycle_rules.specs.declared.times.Times.{Times}
use Rattle.engine_state.specs.State.{recorded}
use Rattle.engine_state.proofs.Flow.{flow_retired}
use Rattle.event_engine.proofs.Changing.{past_of_idle, recorded_below}
use Rattle.event_engine.proofs.Telling.{turn_told, some_told, joined}
use Rattle.event_engine.proofs.Turning.{retired_by}
use Rattle.event_engine.proofs.next.next_time.Goals as goal

pub front_time-front-requires-clause-more : goal.front_time-front-requires-clause-more
front_time-front-requires-clause-more g c =
    let run : Input = g.R.Rows.input c.args.rows.now in
    let all : c.args.f.now.front ≡ retired_below run c.args.c = flow_retired run c.args.c c.args.f.now.front c.args.f.now.head c.args.f.now.table.items c.requires.done.flight.state c.requires.done.flight.flow in
    let more : nat_le run.rows (retired_below run c.args.c) ≡ false = c.requires.more in
    let less : retired_below run c.args.c < run.rows = grind (arith, nat_tests, more) in
    omega (arith, all, less)

pub unreachable-requires : goal.unreachable-requires
unreachable-requires g c =
    let run : Input = g.R.Rows.input c.args.rows.now in
    let xs : List Times = c.args.f.now.table.items in
    some_told run (recorded run xs) c.args.c c.fall_time-shares.result c.change_time-changes.result c.front_time-front.result c.rows_time-agenda.result
    c.requires.bounded c.requires.low (recorded_below run c.args.c xs c.requires.done.flight.state) (subst (λ k. retired_by run k ≡ false) (sym (recorded_below run c.args.c xs c.requires.done.flight.state)) c.requires.more) c.requires.start
    (past_of_idle run c.args.c xs c.requires.start c.requires.done.flight.state c.requires.idle) c.fall_time-shares.ensures c.change_time-changes.ensures c.front_time-front.ensures c.rows_time-agenda.ensures
    (joined c.fall_time-shares.result c.change_time-changes.result c.front_time-front.result c.rows_time-agenda.result _ _ _ _ c.earlier.ensures c.earlier-2.ensures c.earlier-3.ensures c.in-None.is)

pub returns : goal.returns
returns g c =
    let run : Input = g.R.Rows.input c.args.rows.now in
    let xs : List Times = c.args.f.now.table.items in
    turn_told run (recorded run xs) c.args.c c.fall_time-shares.result c.change_time-changes.result c.front_time-front.result c.rows_time-agenda.result c.in-Some.x
    c.requires.bounded c.requires.low (recorded_below run c.args.c xs c.requires.done.flight.state) (subst (λ k. retired_by run k ≡ false) (sym (recorded_below run c.args.c xs c.requires.done.flight.state)) c.requires.more) c.requires.start
    (past_of_idle run c.args.c xs c.requires.start c.requires.done.flight.state c.requires.idle) c.fall_time-shares.ensures c.change_time-changes.ensures c.front_time-front.ensures c.rows_time-agenda.ensures
    (joined c.fall_time-shares.result c.change_time-changes.result c.front_time-front.result c.rows_time-agenda.result _ _ _ _ c.earlier.ensures c.earlier-2.ensures c.earlier-3.ensures c.in-Some.is)
