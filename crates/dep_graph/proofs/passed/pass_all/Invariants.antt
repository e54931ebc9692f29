use Rattle.std.proofs.Common.{◌≡◌, ◌<◌, ℕ, length}
use Rattle.std.specs.Prelude.{slice_index}
use Rattle.cycle_rules.specs.Row.{times}
use Rattle.dep_graph.specs.Peaks.{AreFences, AreKept, IsKept}
use Rattle.dep_graph.specs.Turns.{slot_of}
use Rattle.dep_graph.specs.Walk.{IsWalk, sums_of}
use Rattle.dep_graph.proofs.passed.pass_all.Given as goal

abbrev pub invariant-loop-j : goal.invariant-loop-j
invariant-loop-j g l = record {
  size : length l.slots.items ≡ l.j;
  each : (j : ℕ) → j < l.j → slice_index l.slots.items j ≡ slot_of (g.R.Rows.input l.rows) (times (g.R.Rows.table l.rows)) j;
  fences : AreFences (g.R.Rows.input l.rows) (times (g.R.Rows.table l.rows)) l.j l.fences;
  places : IsKept l.j l.memory;
  kept : AreKept (g.R.Rows.input l.rows) (times (g.R.Rows.table l.rows)) l.j l.memory;
  walk : IsWalk (g.R.Rows.input l.rows) (times (g.R.Rows.table l.rows)) l.j l.walk;
  stalls : l.stalls ≡ sums_of (g.R.Rows.input l.rows) (times (g.R.Rows.table l.rows)) l.j;
}
