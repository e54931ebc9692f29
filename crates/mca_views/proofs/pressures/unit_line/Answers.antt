use Rattle.std.proofs.Common.{sym}
use Rattle.mca_views.proofs.pressures.unit_line.Goals as goal

pub push_name-requires : goal.push_name-requires
push_name-requires g c = ((g.met.M.Machine.valid c.args.machine.now).owner c.args.unit c.in-Some.owner (sym c.in-Some.ensures)).resource
