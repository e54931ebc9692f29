use Rattle.std.proofs.Common.{◌≡◌, is_some}
use Rattle.std.specs.List.{filter, range_with_len}
use Rattle.mca_views.proofs.pressures.columns.Given as goal

abbrev pub invariant-loop-unit : goal.invariant-loop-unit
invariant-loop-unit g l = l.units.items ≡ filter (λ u. is_some ((g.M.Machine.meaning l.machine).owner u)) (range_with_len 0 l.unit)
