use Rattle.std.proofs.Common.{ap}
use Rattle.resource_units.proofs.units.Units.release_until.Goals as goal

pub returns-clause-machine : goal.returns-clause-machine
returns-clause-machine g c = ap g.M.Machine.meaning c.look.ensures.machine
