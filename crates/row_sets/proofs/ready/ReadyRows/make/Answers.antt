use Rattle.row_sets.proofs.Classes.{none_in}
use Rattle.row_sets.proofs.ready.ReadyRows.make.Goals as goal

pub invariant_of-result-clause-empty : goal.invariant_of-result-clause-empty
invariant_of-result-clause-empty c = λ class k low out. none_in c.in_ok-words.words.items class k (c.in_ok-words.ensures.items_if_clones_equal (λ y e. e)) low

pub returns : goal.returns
returns c = λ class k low. none_in c.in_ok-words.words.items class k (c.in_ok-words.ensures.items_if_clones_equal (λ y e. e)) low

pub invariant_of-result-clause-unused : goal.invariant_of-result-clause-unused
invariant_of-result-clause-unused c = λ class k low out. none_in c.in_ok-words.words.items class k (c.in_ok-words.ensures.items_if_clones_equal (λ y e. e)) low
