use Rattle.std.proofs.Common.{◌≡◌, vec_len}
use Rattle.mca_views.specs.Lines.{lines, listed}
use Rattle.mca_views.specs.Page.{added}
use Rattle.mca_views.specs.Pressure.{pressure_line}
use Rattle.mca_views.specs.Shown.{shown}
use Rattle.mca_views.proofs.pressures.put_rows.Given as goal

abbrev pub invariant-loop-k : goal.invariant-loop-k
invariant-loop-k g l = record {
  page : l.page ≡ added l.fn.page (lines (listed l.k (pressure_line l.units (shown g.M.Machine.meaning l.v))));
  sums : vec_len l.sums ≡ g.M.Machine.UNITS;
}
