use Rattle.dep_graph.proofs.Exists.{graph_exists}
use Rattle.dep_graph.proofs.some_graph.Goals as goal

pub returns : goal.returns
returns c = graph_exists
