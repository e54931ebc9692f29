use Rattle.std.proofs.Common.{◌≡◌, ◌∙◌, ◌<◌, ◌^◌, List, sym, ap, subst, arith}
use Rattle.cycle_rules.specs.Row.{Input, times}
use Rattle.cycle_rules.specs.declared.times.Times.{Times}
use Rattle.engine_state.specs.State.{never, recorded}
use Rattle.event_rules.specs.Due.{ready_from}
use Rattle.event_engine.proofs.Agendas.{head_ready, issue_low}
use Rattle.event_engine.proofs.agenda.head_time.Goals as goal

pub ready_from-requires-clause-low : goal.ready_from-requires-clause-low
ready_from-requires-clause-low g c k lt = subst (λ (xs : List Times). ((times xs k).issue ≡ never → ⊥) → (times xs k).issue < 2 ^ 42) (sym c.deref.ensures.value)
    (issue_low (g.R.Rows.input c.args.rows.now) c.args.f.now c.args.c k c.requires.flight lt c.requires.low)

pub returns : goal.returns
returns g c =
    let run : Input = g.R.Rows.input c.args.rows.now in
    head_ready run (recorded run c.args.f.now.table.items) c.args.f.now.head c.ready_from.result (omega arith) (c.ready_from.ensures ∙ ap (λ (xs : List Times). ready_from run (recorded run xs) c.args.f.now.head) c.deref.ensures.value)
