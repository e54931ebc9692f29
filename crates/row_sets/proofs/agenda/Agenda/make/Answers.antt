use Rattle.std.proofs.Common.{slice_index}
use Rattle.row_sets.specs.Kept.{is_waiting}
use Rattle.row_sets.proofs.Soonest.{index_start}
use Rattle.row_sets.proofs.Times.{none_waiting, time_none}
use Rattle.row_sets.proofs.agenda.Agenda.make.Goals as goal

pub invariant_of-result-clause-index : goal.invariant_of-result-clause-index
invariant_of-result-clause-index c = index_start (is_waiting c.in_ok-words.words.items) (slice_index c.in_ok-times.times.items) (slice_index c.in_ok-soonest.soonest.items)
    (λ q. none_waiting c.in_ok-words.words.items q (c.in_ok-words.ensures.items_if_clones_equal (λ y e. e)))

pub returns : goal.returns
returns c = λ k. time_none c.in_ok-words.words.items c.in_ok-times.times.items k (none_waiting c.in_ok-words.words.items k (c.in_ok-words.ensures.items_if_clones_equal (λ y e. e)))
