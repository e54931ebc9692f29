use Rattle.dep_graph.proofs.Peaked.{peak_none}
use Rattle.dep_graph.proofs.peak.Peak.none.Goals as goal

pub returns-clause-peak : goal.returns-clause-peak
returns-clause-peak c = peak_none
