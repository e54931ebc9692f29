use Rattle.std.proofs.Common.{◌≤◌, ◌*◌, ◌^◌, map, sym, ◌∙◌, subst}
use Rattle.std.proofs.lemmas.List.{length-map}
use Rattle.machine_model.specs.Meaning.{MachineMeaning}
use Rattle.machine_model.specs.Valid.{IsValidMachine}
use Rattle.cycle_rules.specs.Bind.{row_of, AreBoundRows}
use Rattle.cycle_rules.specs.Events.{retired_below}
use Rattle.cycle_rules.specs.Row.{Input, input}
use Rattle.cycle_rules.specs.Run.{IsRunOf}
use Rattle.cycle_rules.proofs.BoundRows.{body_is_bound, input_is_bound}
use Rattle.engine_state.proofs.InTurn.{in_turn}
use Rattle.engine_steps.proofs.Bodies.{ends_low, total_low}
use Rattle.plain_engine.proofs.engine.PlainEngine.run.Goals as goal

pub cycles-requires-clause-ends : goal.cycles-requires-clause-ends
cycles-requires-clause-ends g c =
    let m : MachineMeaning = g.M.Machine.meaning c.args.machine.now in
    let run : Input = input m (map row_of c.args.body.now) c.args.iterations in
    let valid : IsValidMachine g.M.Machine.UNITS g.M.Mask.UnitMask.SIZE m = g.met.M.Machine.valid c.args.machine.now in
    let bound : AreBoundRows run = input_is_bound m c.args.body.now c.args.iterations (body_is_bound g.M.Machine.UNITS g.M.Mask.UnitMask.SIZE m c.args.body.now valid c.requires.bound) in
    let few : run.rows ≤ 1048576 = subst (λ n. c.args.iterations * n ≤ 1048576) (sym (length-map c.args.body.now row_of)) c.requires.rows in
    subst (λ (q : Input). q.rows ≤ retired_below q (2 ^ 41)) (sym c.in_ok-pipeline.ensures.run) (ends_low g.M.Machine.UNITS g.M.Mask.UnitMask.SIZE run valid bound few)

pub returns-clause-run : goal.returns-clause-run
returns-clause-run g c = subst (λ (q : Input). IsRunOf q c.finish.result.rows) (c.cycles.ensures.run ∙ c.in_ok-pipeline.ensures.run) c.finish.ensures

pub returns-clause-bound : goal.returns-clause-bound
returns-clause-bound g c = total_low g.M.Machine.UNITS g.M.Mask.UnitMask.SIZE (g.M.Machine.meaning c.args.machine.now) c.args.body.now c.args.iterations _ (g.met.M.Machine.valid c.args.machine.now) c.requires.bound (returns-clause-run g c)

pub returns-clause-order : goal.returns-clause-order
returns-clause-order g c = in_turn _ _ (returns-clause-run g c)
