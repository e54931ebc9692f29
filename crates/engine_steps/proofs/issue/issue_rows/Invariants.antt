use Rattle.std.proofs.Common.{◌≡◌, ◌≤◌, ◌-◌, true, false}
use Rattle.resource_units.specs.Stand.{StandsFor, machine_of}
use Rattle.engine_state.specs.State.{at, taken_now}
use Rattle.engine_steps.specs.Done.{Falls}
use Rattle.engine_steps.specs.Refused.{AreRefused}
use Rattle.engine_steps.specs.Flight.{IsFlight}
use Rattle.engine_steps.proofs.issue.issue_rows.Given as goal

abbrev pub invariant-loop-j : goal.invariant-loop-j
invariant-loop-j g l = record {
  flight : IsFlight (g.R.Rows.input l.rows) l.f l.c (at (g.R.Rows.input l.rows) l.c 1 l.j);
  units : StandsFor g.M.Machine.meaning g.M.Mask.UnitMask.holds l.c l.units (taken_now (g.R.Rows.input l.rows) l.c l.f.table.items);
  machine : machine_of g.M.Machine.meaning l.units ≡ (g.R.Rows.input l.rows).machine;
  front : l.f.front ≡ l.initial.f.front;
  head : l.f.head ≡ l.initial.f.head;
  from : l.f.front ≤ l.j;
  end : l.j ≤ l.f.head;
  event : l.any ≡ true → Falls (g.R.Rows.input l.rows) l.c;
  refused : AreRefused (g.R.Rows.input l.rows).machine (taken_now (g.R.Rows.input l.rows) l.c l.f.table.items) l.c l.refused;
  none : l.any ≡ false → l.f.table.items ≡ l.initial.f.table.items;
}

abbrev pub decreases-loop-j : goal.decreases-loop-j
decreases-loop-j g l = l.f.head - l.j
