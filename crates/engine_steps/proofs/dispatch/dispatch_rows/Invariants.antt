use Rattle.std.proofs.Common.{◌≡◌, ◌-◌, true, false}
use Rattle.resource_units.specs.Stand.{StandsFor, machine_of}
use Rattle.engine_state.specs.State.{at, taken_now}
use Rattle.engine_steps.specs.Done.{Falls}
use Rattle.engine_steps.specs.Flight.{IsFlight}
use Rattle.engine_steps.proofs.dispatch.dispatch_rows.Given as goal

abbrev pub invariant-loop-any : goal.invariant-loop-any
invariant-loop-any g l = record {
  flight : IsFlight (g.R.Rows.input l.rows) l.f l.c (at (g.R.Rows.input l.rows) l.c 2 l.f.head);
  units : StandsFor g.M.Machine.meaning g.M.Mask.UnitMask.holds l.c l.units (taken_now (g.R.Rows.input l.rows) l.c l.f.table.items);
  machine : machine_of g.M.Machine.meaning l.units ≡ (g.R.Rows.input l.rows).machine;
  event : l.any ≡ true → Falls (g.R.Rows.input l.rows) l.c;
  none : l.any ≡ false → l.f.table.items ≡ l.initial.f.table.items;
}

abbrev pub decreases-loop-any : goal.decreases-loop-any
decreases-loop-any g l = (g.R.Rows.input l.rows).rows - l.f.head
