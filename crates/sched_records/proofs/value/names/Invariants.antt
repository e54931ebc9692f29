use Rattle.std.proofs.Common.{◌≡◌, ◌≤◌, length}
use Rattle.sched_records.specs.Values.{names, with_names}
use Rattle.sched_records.proofs.value.names.Given as goal

abbrev pub invariant-names : goal.invariant-names
invariant-names l = record { shorter : length l.tokens ≤ length l.fn.tokens; same : with_names l.read.items (names l.tokens) ≡ names l.fn.tokens }

abbrev pub decreases-names : goal.decreases-names
decreases-names l = length l.tokens
