use Rattle.cycle_rules.proofs.Free.{unit_found, unit_around}
use Rattle.cycle_rules.proofs.finds.find_unit.Goals as goal

pub returns-in-Some-clause-is : goal.returns-in-Some-clause-is
returns-in-Some-clause-is g c = unit_found (g.M.Machine.meaning c.args.machine.now) _ c.args.at.cycle c.args.resource c.place_before-place.result g.M.Machine.UNITS _ _ (g.met.M.Machine.valid c.args.machine.now).units
    (c.place_before-place.ensures (g.M.Machine.meaning c.args.machine.now)) c.first_free.ensures.is c.in-Some.is

pub returns-in-None-clause-is : goal.returns-in-None-clause-is
returns-in-None-clause-is g c = unit_around (g.M.Machine.meaning c.args.machine.now) _ c.args.at.cycle c.args.resource c.place_before-place.result g.M.Machine.UNITS _ _ (g.met.M.Machine.valid c.args.machine.now).units
    (c.place_before-place.ensures (g.M.Machine.meaning c.args.machine.now)) c.first_free.ensures.is c.in-None.is c.first_free-in-None.ensures.is
