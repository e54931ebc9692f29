use Rattle.dep_graph.proofs.Fills.{filled_none}
use Rattle.dep_graph.proofs.fill.Fill.empty.Goals as goal

pub returns : goal.returns
returns c = filled_none
