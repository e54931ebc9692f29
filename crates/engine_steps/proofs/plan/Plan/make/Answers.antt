use Rattle.std.proofs.Common.{length}
use Rattle.cycle_rules.proofs.BoundRows.{body_is_bound}
use Rattle.engine_steps.proofs.Bodies.{all_named, short_body}
use Rattle.engine_steps.proofs.plan.Plan.make.Goals as goal

pub all_links-requires-clause-bound : goal.all_links-requires-clause-bound
all_links-requires-clause-bound g c = body_is_bound g.M.Machine.UNITS g.M.Mask.UnitMask.SIZE (g.M.Machine.meaning c.args.machine.now) c.args.body.now (g.met.M.Machine.valid c.args.machine.now) c.requires.bound

pub all_links-requires-clause-few : goal.all_links-requires-clause-few
all_links-requires-clause-few g c = short_body c.args.iterations (length c.args.body.now) c.requires.iterations c.requires.rows

pub invariant_of-result-clause-named : goal.invariant_of-result-clause-named
invariant_of-result-clause-named g c = all_named g.M.Machine.UNITS g.M.Mask.UnitMask.SIZE (g.M.Machine.meaning c.args.machine.now) c.args.body.now (g.met.M.Machine.valid c.args.machine.now) c.requires.bound
