use Rattle.std.proofs.Common.{◌≡◌, take}
use Rattle.cycle_rules.specs.Row.{times}
use Rattle.cycle_rules.specs.WaitTimes.{seen_from, reads_time}
use Rattle.mca_views.specs.Shown.{shown, run_of}
use Rattle.mca_views.proofs.past.Past.reads_time.Given as goal

abbrev pub invariant-loop-k : goal.invariant-loop-k
invariant-loop-k g l = l.most ≡ reads_time (run_of (shown g.M.Machine.meaning l.v)) (times l.v.run.now.rows) (seen_from (run_of (shown g.M.Machine.meaning l.v)) (times l.v.run.now.rows) l.b.reserved) l.j (take l.k l.reads)
