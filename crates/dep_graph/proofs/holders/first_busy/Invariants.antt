use Rattle.std.proofs.Common.{◌≡◌, List, true, take}
use Rattle.std.specs.Prelude.{is_some}
use Rattle.cycle_rules.specs.Bind.{row_of}
use Rattle.cycle_rules.specs.Pick.{Taken, pick_units}
use Rattle.resource_units.specs.Stand.{StandsFor, machine_of}
use Rattle.dep_graph.proofs.holders.first_busy.Given as goal

abbrev pub invariant-loop-n : goal.invariant-loop-n
invariant-loop-n g l = (taken : List Taken) → StandsFor g.M.Machine.meaning g.M.Mask.UnitMask.holds l.c l.units taken →
    is_some (pick_units (machine_of g.M.Machine.meaning l.units) taken l.c (take l.n (row_of l.b).uses)) ≡ true
