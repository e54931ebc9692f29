use Rattle.std.proofs.Common.{◌≡◌, ◌&&◌, true, take}
use Rattle.std.specs.Prelude.{nat_lt}
use Rattle.std.specs.List.{list_all}
use Rattle.cycle_rules.specs.Below.{count_below}
use Rattle.cycle_rules.specs.Dispatch.{has_room}
use Rattle.cycle_rules.specs.Given.{row_in}
use Rattle.cycle_rules.specs.Row.{times, names, entries}
use Rattle.cycle_rules.proofs.room.fit_buffers.Given as goal

abbrev pub invariant-loop-used : goal.invariant-loop-used
invariant-loop-used g l = list_all (λ w. has_room (entries ((g.M.Machine.meaning l.machine).buffer w.resource)) (count_below l.j (λ k. names w.resource (row_in l.given.body.now k) && nat_lt l.c (times l.given.rows.now k).issue))) (take l.used-index l.uses) ≡ true
