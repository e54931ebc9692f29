use Rattle.std.proofs.Common.{◌∙◌, List, length, sym, ap, subst, is_some}
use Rattle.cycle_rules.specs.Row.{Input}
use Rattle.cycle_rules.specs.Issue.{has_operands}
use Rattle.cycle_rules.specs.declared.times.Times.{Times}
use Rattle.resource_units.specs.Kept.{HasUses}
use Rattle.engine_state.specs.State.{now, taken_now, at}
use Rattle.engine_steps.specs.Flight.{IsFlight}
use Rattle.engine_steps.proofs.Steps.{can_use, picked, start_told}
use Rattle.engine_steps.proofs.issue.starts_now.Goals as goal

pub has_operands-operands-requires-clause-size : goal.has_operands-operands-requires-clause-size
has_operands-operands-requires-clause-size g c = ap (λ (xs : List Times). length xs) c.deref.ensures.value ∙ (c.requires.flight.1).state.rows

pub has_operands-operands-requires-clause-kept : goal.has_operands-operands-requires-clause-kept
has_operands-operands-requires-clause-kept g c = rw c.deref.ensures.value (c.requires.flight.1).state.kept

pub can_take-found-requires : goal.can_take-found-requires
can_take-found-requires g c =
    let run : Input = g.R.Rows.input c.args.rows.now in
    subst (λ m. HasUses m c.instruction-b.result.now) (sym c.requires.machine) (can_use run.machine c.instruction-b.result.now (run.row c.args.j) c.instruction-b.ensures.names c.instruction-b.ensures.row ((c.requires.flight.1).ranges.bound c.args.j c.requires.row).uses)

pub returns : goal.returns
returns g c =
    let run : Input = g.R.Rows.input c.args.rows.now in
    let h : IsFlight run c.args.f.now c.args.c (at run c.args.c c.requires.flight.0 c.args.j) = c.requires.flight.1 in
    let xs : List Times = c.args.f.now.table.items in
    c.all.ensures ∙ start_told run (now run c.args.c xs) c.args.j c.args.c c.has_operands-operands.result c.args.memory c.can_take-found.result
    (c.has_operands-operands.ensures ∙ ap (λ (ys : List Times). has_operands run (now run c.args.c ys) c.args.j c.args.c) c.deref.ensures.value)
    c.requires.memory
    (c.can_take-found.ensures.pick (taken_now run c.args.c xs) c.requires.units ∙ ap (λ (o : _). is_some o) (picked run c.args.c c.args.j xs _ _ c.requires.machine c.instruction-b.ensures.row))
