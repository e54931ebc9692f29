use Rattle.std.proofs.Common.{sym, ◌∙◌}
use Rattle.std.specs.Prelude.{slice_index}
use Rattle.critical_chain.proofs.Choices.{best_all}
use Rattle.critical_chain.proofs.choice.choice_at.Goals as goal

pub returns-then-is_some-clause-best : goal.returns-then-is_some-clause-best
returns-then-is_some-clause-best c =
    best_all c.args.order.now c.args.edges.now c.loop-i.i (slice_index c.args.labels.now) c.args.v c.loop-i.best c.requires.order c.requires.edges c.loop-i-test.true c.loop-i.invariant.0 (sym c.is_some.ensures ∙ c.if-is_some.true) c.if-edges-i.false
