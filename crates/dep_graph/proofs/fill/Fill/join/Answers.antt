use Rattle.dep_graph.proofs.Fills.{filled_more}
use Rattle.dep_graph.proofs.fill.Fill.join.Goals as goal

pub returns : goal.returns
returns c = λ g t j a h limits some uops ends at fits. filled_more g t j a c.args.uops c.args.ends c.args.self.now h limits some uops ends at fits
