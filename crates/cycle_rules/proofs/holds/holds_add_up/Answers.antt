use Rattle.cycle_rules.proofs.HoldSums.{holds_add_up}
use Rattle.cycle_rules.proofs.holds.holds_add_up.Goals as goal

pub returns : goal.returns
returns c = holds_add_up
