use Rattle.machine_model.proofs.FixedOwners.{have_owners}
use Rattle.machine_model.proofs.laws.unit_owners.Goals as goal

pub returns : goal.returns
returns c = have_owners
