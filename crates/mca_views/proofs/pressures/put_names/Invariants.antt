use Rattle.std.proofs.Common.{◌≡◌, take, map}
use Rattle.mca_views.specs.Lines.{lines}
use Rattle.mca_views.specs.Page.{added}
use Rattle.mca_views.specs.Pressure.{unit_line}
use Rattle.mca_views.proofs.pressures.put_names.Given as goal

abbrev pub invariant-loop-unit : goal.invariant-loop-unit
invariant-loop-unit g l = l.page ≡ added l.fn.page (lines (take l.unit-index (map (unit_line (g.M.Machine.meaning l.machine)) l.units)))
