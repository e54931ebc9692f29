use Rattle.std.proofs.Common.{◌≡◌, ◌<◌, ◌≤◌, ◌*◌, length, map, arith, sym, subst}
use Rattle.std.proofs.lemmas.List.{length-map}
use Rattle.std.proofs.lemmas.Nat.{mul-le}
use Rattle.machine_model.specs.Meaning.{MachineMeaning}
use Rattle.machine_model.specs.Valid.{IsValidMachine}
use Rattle.cycle_rules.specs.Bind.{row_of, AreBoundRows}
use Rattle.cycle_rules.specs.Row.{Input, input}
use Rattle.cycle_rules.proofs.BoundRows.{body_is_bound, input_is_bound}
use Rattle.engine_steps.specs.Pipeline.{run_of}
use Rattle.event_engine.specs.Turn.{IsBounded}
use Rattle.event_engine.proofs.Turning.{bounded_of, few_at_start}
use Rattle.event_engine.proofs.engine.EventEngine.make.Goals as goal

pub returns-clause-sound : goal.returns-clause-sound
returns-clause-sound g c =
    let m : MachineMeaning = g.M.Machine.meaning c.args.machine.now in
    let run : Input = input m (map row_of c.args.body.now) c.args.iterations in
    let valid : IsValidMachine g.M.Machine.UNITS g.M.Mask.UnitMask.SIZE m = g.met.M.Machine.valid c.args.machine.now in
    let bound : AreBoundRows run = input_is_bound m c.args.body.now c.args.iterations (body_is_bound g.M.Machine.UNITS g.M.Mask.UnitMask.SIZE m c.args.body.now valid c.requires.bound) in
    let count : length (map row_of c.args.body.now) ≡ length c.args.body.now = length-map c.args.body.now row_of in
    let few : run.rows ≤ 1048576 = subst (λ n. c.args.iterations * n ≤ 1048576) (sym count) c.requires.rows in
    let one : 1 * 1 ≤ c.args.iterations * length c.args.body.now = mul-le 1 1 c.args.iterations (length c.args.body.now) c.requires.iterations c.requires.some in
    let some : 0 < run.rows = subst (λ n. 0 < c.args.iterations * n) (sym count) (omega (arith, one)) in
    record {
      bounded = subst IsBounded (sym c.in_ok-pipeline.ensures.run) (bounded_of g.M.Machine.UNITS g.M.Mask.UnitMask.SIZE run valid bound some few);
      low = omega arith;
      done = c.in_ok-pipeline.ensures.done;
      turn = c.first_turn-next.ensures;
    }

pub returns-clause-left : goal.returns-clause-left
returns-clause-left g c = few_at_start (run_of g.M.Machine.meaning c.in_ok-pipeline.pipeline)
