use Rattle.critical_chain.proofs.One.{one_chain}
use Rattle.critical_chain.proofs.one_critical.Goals as goal

pub returns : goal.returns
returns c = one_chain
