use Rattle.std.proofs.Common.{◌≤◌, ℕ, drop}
use Rattle.engine_steps.specs.Wake.{AreAwake, AllLater, reads_from}
use Rattle.engine_steps.proofs.Wakes.{still_out}
use Rattle.engine_steps.proofs.wakeup.wake_readers.Given as goal

abbrev pub invariant-loop-later : goal.invariant-loop-later
invariant-loop-later g l = record {
  awake : (front : ℕ) → front ≤ l.j → AreAwake (g.R.Rows.input l.rows) l.table l.fn.w front l.head l.c (reads_from (g.R.Rows.input l.rows) l.j)
      → AreAwake (g.R.Rows.input l.rows) l.table l.w front l.head l.c (still_out l.j (drop l.later-index l.later-items));
  later : AllLater l.fn.w.agenda l.c → AllLater l.w.agenda l.c;
}
