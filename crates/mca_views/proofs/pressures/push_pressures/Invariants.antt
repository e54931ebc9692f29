use Rattle.std.proofs.Common.{◌≡◌, ◌++◌, take}
use Rattle.std.specs.Prelude.{slice_index}
use Rattle.mca_views.specs.Pressure.{pressure_cells}
use Rattle.mca_views.proofs.pressures.push_pressures.Given as goal

abbrev pub invariant-loop-unit : goal.invariant-loop-unit
invariant-loop-unit l = l.line.items ≡ l.fn.line.items ++ pressure_cells l.iterations (slice_index l.sums) (take l.unit-index l.units)
