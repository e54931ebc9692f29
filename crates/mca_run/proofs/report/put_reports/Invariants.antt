use Rattle.std.proofs.Common.{◌≤◌, ◌+◌}
use Rattle.cycle_rules.specs.Below.{sum_below}
use Rattle.mca_run.specs.Asked.{iterations_of}
use Rattle.mca_run.specs.Turns.{region_turns}
use Rattle.mca_run.proofs.Reports.{HasReports}
use Rattle.mca_run.proofs.report.put_reports.Given as goal

abbrev pub invariant-loop-k : goal.invariant-loop-k
invariant-loop-k g l = record {
  page : HasReports (g.M.Machine.meaning l.machine) l.options l.program l.k l.page;
  steps : l.steps ≤ l.fn.steps + sum_below l.k (region_turns (g.M.Machine.meaning l.machine) (iterations_of l.options) l.program);
}
