use Rattle.std.proofs.Common.{◌≤◌, ℕ}
use Rattle.engine_steps.specs.Wake.{AreAwake, none_out}
use Rattle.engine_steps.proofs.Wakes.{waiting}
use Rattle.engine_steps.proofs.wakeup.wake_rows.Given as goal

abbrev pub invariant-loop-k : goal.invariant-loop-k
invariant-loop-k g l = record {
  awake : (head n : ℕ) → n ≤ l.c → head ≤ (g.R.Rows.input l.rows).rows → AreAwake (g.R.Rows.input l.rows) l.table l.initial.w l.front head n none_out → AreAwake (g.R.Rows.input l.rows) l.table l.w l.front head l.c none_out;
}

abbrev pub decreases-loop-k : goal.decreases-loop-k
decreases-loop-k g l = waiting l.w.agenda
