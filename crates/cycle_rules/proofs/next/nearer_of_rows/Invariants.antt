use Rattle.std.proofs.Common.{◌<◌, ◌≤◌, ℕ}
use Rattle.machine_model.specs.Meaning.{MachineMeaning}
use Rattle.cycle_rules.specs.Given.{input_in}
use Rattle.cycle_rules.specs.Row.{times}
use Rattle.cycle_rules.specs.Still.{IsRowStill}
use Rattle.cycle_rules.proofs.next.nearer_of_rows.Given as goal

abbrev pub invariant-loop-k : goal.invariant-loop-k
invariant-loop-k l = record {
  low : l.nearest ≤ l.next;
  later : l.c < l.next → l.c < l.nearest;
  still : (m : MachineMeaning) (b k : ℕ) → l.c ≤ b → b < l.nearest → k < l.k → IsRowStill (input_in m l.given.body.now l.given.count) (times l.given.rows.now) l.c b k;
}
