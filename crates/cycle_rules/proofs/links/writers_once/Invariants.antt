use Rattle.std.proofs.Common.{map}
use Rattle.cycle_rules.specs.Bind.{row_of}
use Rattle.cycle_rules.specs.Links.{AreLast}
use Rattle.cycle_rules.proofs.links.writers_once.Given as goal

abbrev pub invariant-loop-place : goal.invariant-loop-place
invariant-loop-place l = AreLast (map row_of l.body) l.place l.writers.last
