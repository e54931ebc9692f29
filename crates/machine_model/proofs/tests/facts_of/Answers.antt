use Rattle.std.proofs.Common.{sym}
use Rattle.machine_model.proofs.tests.facts_of.Goals as goal

pub class-requires : goal.class-requires
class-requires g c = ((g.met.M.Machine.valid c.args.machine.now).binding c.args.op c.in-Class.binding (sym c.in-Class.ensures)).write
