use Rattle.dep_graph.proofs.Peaked.{peak_higher, peak_lower}
use Rattle.dep_graph.proofs.peak.Peak.raise.Goals as goal

pub returns-then-self-time : goal.returns-then-self-time
returns-then-self-time c = λ f at h. peak_higher f c.args.row c.args.time c.args.self.now at h c.if-self-time.true

pub returns-else-self-time : goal.returns-else-self-time
returns-else-self-time c = λ f at h. peak_lower f c.args.row c.args.time c.args.self.now at h c.if-self-time.false
