use Rattle.std.proofs.Common.{◌≡◌, ◌≤◌, ◌*◌, map, sym, ◌∙◌, ap, subst}
use Rattle.std.proofs.lemmas.List.{length-map}
use Rattle.machine_model.specs.Meaning.{MachineMeaning}
use Rattle.machine_model.specs.Valid.{IsValidMachine}
use Rattle.cycle_rules.specs.Bind.{row_of, AreBoundRows}
use Rattle.cycle_rules.specs.Row.{Input, input}
use Rattle.cycle_rules.proofs.BoundRows.{body_is_bound, input_is_bound}
use Rattle.resource_units.specs.Stand.{StandsFor}
use Rattle.engine_state.proofs.Taken.{taken_start}
use Rattle.engine_steps.specs.Ranges.{AreRanges}
use Rattle.engine_steps.proofs.Bodies.{ranges_of}
use Rattle.engine_steps.proofs.pipeline.Pipeline.make.Goals as goal

pub start-requires-clause-ranges : goal.start-requires-clause-ranges
start-requires-clause-ranges g c =
    let m : MachineMeaning = g.M.Machine.meaning c.args.machine.now in
    let run : Input = input m (map row_of c.args.body.now) c.args.iterations in
    let is : input (g.M.Machine.meaning c.in_ok-rows.rows.machine.now) (map row_of c.in_ok-rows.rows.body.now) c.in_ok-rows.rows.iterations ≡ run =
    λ i. input (g.M.Machine.meaning (c.in_ok-rows.ensures.machine i)) (map row_of (c.in_ok-rows.ensures.body i)) (c.in_ok-rows.ensures.iterations i) in
    let valid : IsValidMachine g.M.Machine.UNITS g.M.Mask.UnitMask.SIZE m = g.met.M.Machine.valid c.args.machine.now in
    let bound : AreBoundRows run = input_is_bound m c.args.body.now c.args.iterations (body_is_bound g.M.Machine.UNITS g.M.Mask.UnitMask.SIZE m c.args.body.now valid c.requires.bound) in
    let few : run.rows ≤ 1048576 = subst (λ n. c.args.iterations * n ≤ 1048576) (sym (length-map c.args.body.now row_of)) c.requires.rows in
    subst AreRanges (sym is) (ranges_of g.M.Machine.UNITS g.M.Mask.UnitMask.SIZE run valid bound few)

pub returns-clause-done : goal.returns-clause-done
returns-clause-done g c = record {
  machine = c.in_ok-units.ensures.machine ∙ ap g.M.Machine.meaning (sym c.in_ok-rows.ensures.machine);
  taken = subst (StandsFor g.M.Machine.meaning g.M.Mask.UnitMask.holds 0 c.in_ok-units.units) (sym (taken_start _ _ c.in_ok-flight.ensures.state)) c.in_ok-units.ensures.empty;
  flight = c.in_ok-flight.ensures;
}
