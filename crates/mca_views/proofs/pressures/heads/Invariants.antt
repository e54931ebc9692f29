use Rattle.std.proofs.Common.{◌≡◌, take}
use Rattle.mca_views.specs.Pressure.{cells, unit_number}
use Rattle.mca_views.proofs.pressures.heads.Given as goal

abbrev pub invariant-loop-unit : goal.invariant-loop-unit
invariant-loop-unit l = l.line.items ≡ cells unit_number (take l.unit-index l.units)
