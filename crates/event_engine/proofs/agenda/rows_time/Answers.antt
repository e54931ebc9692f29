use Rattle.std.proofs.Common.{◌∙◌, sym, ap, subst}
use Rattle.cycle_rules.specs.Row.{Input}
use Rattle.engine_state.specs.State.{recorded}
use Rattle.event_engine.specs.Tells.{TellsAgenda, earlier}
use Rattle.event_engine.proofs.Agendas.{agenda_tells}
use Rattle.event_engine.proofs.agenda.rows_time.Goals as goal

pub returns : goal.returns
returns g c =
    let run : Input = g.R.Rows.input c.args.rows.now in
    subst (TellsAgenda run (recorded run c.args.f.now.table.items) c.args.c) (ap (earlier c.first-first.result) (sym c.coming.ensures) ∙ sym c.earlier.ensures)
    (agenda_tells run c.args.f.now c.args.c c.first-first.result c.head_time.result c.requires.start c.requires.flight c.first-first.ensures c.head_time.ensures)
