use Rattle.std.proofs.Common.{◌*◌, length, ap, sym}
use Rattle.std.proofs.lemmas.List.{length-map}
use Rattle.cycle_rules.specs.Bind.{row_of}
use Rattle.cycle_rules.proofs.BoundRows.{body_is_bound}
use Rattle.cycle_rules.proofs.Wrong.{is_none, first_along}
use Rattle.cycle_rules.proofs.judge.check_run.Goals as goal

pub first_place-requires : goal.first_place-requires
first_place-requires g c = body_is_bound _ _ (g.M.Machine.meaning c.args.machine.now) c.args.body.now (g.met.M.Machine.valid c.args.machine.now) c.requires.bound

pub returns-clause-right : goal.returns-clause-right
returns-clause-right g c = is_none (g.M.Machine.meaning c.args.machine.now) c.args.body.now c.args.iterations (c.args.iterations * length c.args.body.now) c.as_slice.result.now c.args.run.now.rows c.first_place.result (ap (λ n. c.args.iterations * n) (sym (length-map c.args.body.now row_of))) c.as_slice.ensures c.first_place.ensures.none c.first_place.ensures.some

pub returns-clause-first : goal.returns-clause-first
returns-clause-first g c = first_along (g.M.Machine.meaning c.args.machine.now) c.args.body.now c.args.iterations (c.args.iterations * length c.args.body.now) c.as_slice.result.now c.args.run.now.rows c.first_place.result (ap (λ n. c.args.iterations * n) (sym (length-map c.args.body.now row_of))) c.as_slice.ensures c.first_place.ensures.some
