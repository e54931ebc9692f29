use Rattle.std.proofs.Common.{sym, ◌∙◌, ap}
use Rattle.mca_views.specs.Bottleneck.{bottleneck_lines}
use Rattle.mca_views.specs.Lines.{lines}
use Rattle.mca_views.proofs.OneSequence.{one_sequence, one_asked}
use Rattle.mca_views.proofs.bottlenecks.one_bottleneck.Goals as goal

pub returns-clause-sequence : goal.returns-clause-sequence
returns-clause-sequence c = one_sequence

pub returns-clause-asked : goal.returns-clause-asked
returns-clause-asked c = one_asked

pub returns-clause-bytes : goal.returns-clause-bytes
returns-clause-bytes c = λ s a b one two.
    one.shows ∙ ap (λ x. lines (bottleneck_lines s x)) (one_sequence s one.chain two.chain one.sequence two.sequence) ∙ sym two.shows
