use Rattle.critical_chain.proofs.Exists.{chain_exists}
use Rattle.critical_chain.proofs.some_critical.Goals as goal

pub returns : goal.returns
returns c = chain_exists
