use Rattle.std.proofs.Common.{◌<◌, ◌≤◌, ℕ}
use Rattle.std.specs.Prelude.{slice_index_or}
use Rattle.cycle_rules.specs.Given.{input_in}
use Rattle.cycle_rules.specs.Issue.{producer}
use Rattle.cycle_rules.specs.Row.{times}
use Rattle.cycle_rules.specs.Still.{IsReadStill, no_source}
use Rattle.cycle_rules.proofs.next.nearer_of_reads.Given as goal

abbrev pub invariant-loop-source : goal.invariant-loop-source
invariant-loop-source g l = record {
  low : l.nearest ≤ l.next;
  later : l.c < l.next → l.c < l.nearest;
  still : (b i : ℕ) → l.c ≤ b → b < l.nearest → i < l.source-index → IsReadStill (input_in (g.M.Machine.meaning l.machine) l.given.body.now l.given.count) (times l.given.rows.now) l.c b (slice_index_or l.reads i no_source) (producer (input_in (g.M.Machine.meaning l.machine) l.given.body.now l.given.count) l.j (slice_index_or l.reads i no_source).reg);
}
