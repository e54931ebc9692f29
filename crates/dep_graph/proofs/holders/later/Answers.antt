use Rattle.std.proofs.Common.{◌∙◌, subst}
use Rattle.dep_graph.specs.Holders.{IsLast}
use Rattle.dep_graph.proofs.Blames.{last_over, last_found, last_first}
use Rattle.dep_graph.proofs.holders.later.Goals as goal

pub returns-then-not-counts : goal.returns-then-not-counts
returns-then-not-counts c = λ n test places is at h. last_over n test places c.args.best (is ∙ c.if-not-counts.true) h

pub returns-in-Some : goal.returns-in-Some
returns-in-Some c = λ n test places is at h. last_found n test places c.in-Some.other c.args.place c.max.result (is ∙ c.if-not-counts.false) at (subst (IsLast n test places) c.in-Some.is h) c.max.ensures

pub returns-in-None : goal.returns-in-None
returns-in-None c = λ n test places is at h. last_first n test places c.args.place (is ∙ c.if-not-counts.false) at (subst (IsLast n test places) c.in-None.is h)
