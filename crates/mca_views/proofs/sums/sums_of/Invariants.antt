use Rattle.cycle_rules.specs.Row.{times}
use Rattle.mca_views.specs.Past.{IsPast}
use Rattle.mca_views.specs.Shown.{shown, run_of}
use Rattle.mca_views.specs.Sums.{AreAll}
use Rattle.mca_views.proofs.sums.sums_of.Given as goal

abbrev pub invariant-loop-j : goal.invariant-loop-j
invariant-loop-j g l = record {
  sums : AreAll (shown g.M.Machine.meaning l.v) l.j l.sums;
  past : IsPast (run_of (shown g.M.Machine.meaning l.v)) (times l.v.run.now.rows) l.j l.past;
}
