use Rattle.std.proofs.Common.{◌≡◌, List}
use Rattle.dispatch_unit.specs.Group.{Dispatched}
use Rattle.dispatch_unit.specs.Kept.{StandsFor, cycle_of}
use Rattle.part_examples.proofs.dispatch.dispatch.Given as goal

abbrev pub invariant-loop-c : goal.invariant-loop-c
invariant-loop-c l = record { stands : (rows : List Dispatched) × (StandsFor l.group rows); cycle : cycle_of l.group ≡ l.c }
