use Rattle.std.proofs.Common.{◌∙◌}
use Rattle.dep_graph.proofs.Peaked.{plain_peak, load_peak, store_peak, barrier_peak}
use Rattle.dep_graph.proofs.memory.Fences.of_kind.Goals as goal

pub returns-in-Plain : goal.returns-in-Plain
returns-in-Plain c = λ g t j is h. plain_peak g t j _ (is ∙ c.in-Plain.is) c.none.ensures.time

pub returns-in-Load : goal.returns-in-Load
returns-in-Load c = λ g t j is h. load_peak g t j c.args.self.now (is ∙ c.in-Load.is) h

pub returns-in-Store : goal.returns-in-Store
returns-in-Store c = λ g t j is h. store_peak g t j c.args.self.now (is ∙ c.in-Store.is) h

pub returns-in-Barrier : goal.returns-in-Barrier
returns-in-Barrier c = λ g t j is h. barrier_peak g t j c.args.self.now (is ∙ c.in-Barrier.is) h
