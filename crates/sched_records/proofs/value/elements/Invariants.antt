use Rattle.std.proofs.Common.{◌≡◌, ◌≤◌, length}
use Rattle.sched_records.specs.Values.{elements, with_front}
use Rattle.sched_records.proofs.value.elements.Given as goal

abbrev pub invariant-elements : goal.invariant-elements
invariant-elements l = record { shorter : length l.tokens ≤ length l.fn.tokens; same : with_front l.atoms.items l.wide (elements l.tokens) ≡ elements l.fn.tokens }

abbrev pub decreases-elements : goal.decreases-elements
decreases-elements l = length l.tokens
