use Rattle.std.proofs.Common.{◌≡◌, ◌-◌, ◌<◌}
use Rattle.engine_state.specs.State.{at, taken_now}
use Rattle.engine_state.specs.Flight.{retired_in}
use Rattle.engine_steps.specs.Done.{Falls}
use Rattle.engine_steps.specs.Flight.{IsFlight}
use Rattle.engine_steps.proofs.retire.retire_rows.Given as goal

abbrev pub invariant-loop-f : goal.invariant-loop-f
invariant-loop-f g l = record {
  flight : IsFlight (g.R.Rows.input l.rows) l.f l.c (at (g.R.Rows.input l.rows) l.c 0 l.f.front);
  count : l.count ≡ retired_in l.f.table.items l.c l.f.front;
  taken : taken_now (g.R.Rows.input l.rows) l.c l.f.table.items ≡ taken_now (g.R.Rows.input l.rows) l.c l.initial.f.table.items;
  event : 0 < l.count → Falls (g.R.Rows.input l.rows) l.c;
  none : l.count ≡ 0 → l.f.table.items ≡ l.initial.f.table.items;
}

abbrev pub decreases-loop-f : goal.decreases-loop-f
decreases-loop-f g l = l.f.head - l.f.front
