use Rattle.std.proofs.Common.{◌≡◌, ◌<◌, ◌^◌, List, sym, ◌∙◌, ap, subst}
use Rattle.std.specs.Prelude.{Option}
use Rattle.cycle_rules.specs.Row.{Input, times}
use Rattle.cycle_rules.specs.declared.times.Times.{Times}
use Rattle.engine_state.specs.State.{recorded}
use Rattle.engine_state.proofs.Turn.{read_row}
use Rattle.event_engine.specs.Tells.{TellsFront, coming, after_completion}
use Rattle.event_engine.proofs.Agendas.{front_tells, complete_low}
use Rattle.event_engine.proofs.agenda.front_time.Goals as goal

pub after_completion-requires : goal.after_completion-requires
after_completion-requires g c ne =
    let run : Input = g.R.Rows.input c.args.rows.now in
    let xs : List Times = c.args.f.now.table.items in
    let v : c.index-row.result.now ≡ times xs c.args.f.now.front = read_row _ _ _ _ _ c.requires.flight.state c.requires.more c.index-row.ensures in
    let low : (times xs c.args.f.now.front).complete < 2 ^ 63 = complete_low run c.args.f.now c.args.c c.args.f.now.front c.requires.flight c.requires.more c.requires.low (λ n. ne (ap (λ (t : Times). t.issue) v ∙ n)) in
    subst (λ (t : Times). t.complete < 2 ^ 63) (sym v) low

pub returns : goal.returns
returns g c =
    let run : Input = g.R.Rows.input c.args.rows.now in
    let xs : List Times = c.args.f.now.table.items in
    let v : c.index-row.result.now ≡ times xs c.args.f.now.front = read_row _ _ _ _ _ c.requires.flight.state c.requires.more c.index-row.ensures in
    subst (λ (o : Option _). TellsFront run (recorded run xs) c.args.c o)
    (ap (λ (t : Times). coming c.args.c (after_completion t.issue t.complete)) (sym v) ∙ ap (coming c.args.c) (sym c.after_completion.ensures) ∙ sym c.coming.ensures)
    (front_tells run c.args.f.now _ _ c.args.c c.requires.flight c.requires.more)
