use Rattle.std.proofs.Common.{◌≤◌}
use Rattle.machine_model.specs.Meaning.{MachineMeaning}
use Rattle.cycle_rules.specs.Given.{input_in, IsLast}
use Rattle.cycle_rules.specs.Row.{times}
use Rattle.cycle_rules.proofs.finds.place_by_rows.Given as goal

abbrev pub invariant-loop-k : goal.invariant-loop-k
invariant-loop-k l = record { low : l.last.row ≤ l.k; last : (m : MachineMeaning) → IsLast (input_in m l.given.body.now l.given.count) (times l.given.rows.now) l.at.cycle l.at.phase l.at.row l.resource l.k l.last.row l.last.place }
