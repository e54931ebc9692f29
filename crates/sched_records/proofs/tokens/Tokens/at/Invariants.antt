use Rattle.std.proofs.Common.{◌≡◌, ◌+◌, ◌^◌, ◌<◌, length}
use Rattle.sched_records.specs.Tokens.{tokens_from}
use Rattle.sched_records.proofs.tokens.Tokens.at.Given as goal

abbrev pub invariant-pieces : goal.invariant-pieces
invariant-pieces l = record { low : l.at + length l.rest + 2 < 2 ^ 32; same : tokens_from l.rest 0 l.at ≡ tokens_from l.text 0 l.line }

abbrev pub decreases-pieces : goal.decreases-pieces
decreases-pieces l = length l.rest
