use Rattle.cycle_rules.specs.Given.{input_in, earlier_at}
use Rattle.cycle_rules.specs.Row.{times}
use Rattle.cycle_rules.proofs.Free.{PicksSo}
use Rattle.cycle_rules.proofs.finds.pick.Given as goal

abbrev pub invariant-loop-k : goal.invariant-loop-k
invariant-loop-k g l = PicksSo (g.M.Machine.meaning l.machine) l.at.cycle (earlier_at (input_in (g.M.Machine.meaning l.machine) l.given.body.now l.given.count) (times l.given.rows.now) l.at.cycle l.at.phase l.at.row) l.uses l.k l.units
