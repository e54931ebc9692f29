use Rattle.std.proofs.Common.{◌<◌}
use Rattle.critical_chain.specs.Graph.{place}
use Rattle.critical_chain.proofs.order.place_below.Given as goal

abbrev pub invariant-loop-i : goal.invariant-loop-i
invariant-loop-i l = place l.order l.v < l.i
