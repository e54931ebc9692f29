use Rattle.dep_graph.proofs.Fills.{filled_later}
use Rattle.dep_graph.proofs.fill.Fill.pass.Goals as goal

pub returns : goal.returns
returns c = λ g t j a b h width at. filled_later g t j a b c.args.width c.args.cycles c.args.self.now _ _ h width at c.saturating_sub-self.ensures c.opens-self.ensures
