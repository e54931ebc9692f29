use Rattle.std.proofs.Common.{◌<◌, ◌≤◌}
use Rattle.std.specs.Prelude.{slice_index}
use Rattle.critical_chain.specs.Graph.{place}
use Rattle.critical_chain.specs.Search.{IsBest}
use Rattle.critical_chain.proofs.choice.choice_at.Given as goal

abbrev pub invariant-loop-i : goal.invariant-loop-i
invariant-loop-i l = (IsBest l.edges l.i (place l.order) (slice_index l.labels) l.v l.best) × (place l.order l.v < l.high) × (l.high ≤ l.fn.high)
