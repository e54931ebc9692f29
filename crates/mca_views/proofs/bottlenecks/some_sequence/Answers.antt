use Rattle.mca_views.proofs.SomeSequence.{sequence_exists, asked_exists}
use Rattle.mca_views.proofs.bottlenecks.some_sequence.Goals as goal

pub returns-clause-sequence : goal.returns-clause-sequence
returns-clause-sequence c = sequence_exists

pub returns-clause-asked : goal.returns-clause-asked
returns-clause-asked c = asked_exists
