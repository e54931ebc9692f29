use Rattle.dep_graph.proofs.Summed.{no_sums}
use Rattle.dep_graph.proofs.sums.WaitSums.none.Goals as goal

pub returns : goal.returns
returns c = no_sums
