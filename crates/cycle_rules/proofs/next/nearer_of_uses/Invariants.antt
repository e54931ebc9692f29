use Rattle.std.proofs.Common.{◌+◌, ◌<◌, ◌≤◌, ℕ}
use Rattle.std.specs.Prelude.{slice_index_or}
use Rattle.machine_model.specs.Valid.{no_use}
use Rattle.cycle_rules.specs.Still.{IsStill}
use Rattle.cycle_rules.proofs.next.nearer_of_uses.Given as goal

abbrev pub invariant-loop-used : goal.invariant-loop-used
invariant-loop-used l = record {
  low : l.nearest ≤ l.next;
  later : l.c < l.next → l.c < l.nearest;
  still : (b i : ℕ) → l.c ≤ b → b < l.nearest → i < l.used-index → IsStill (l.from + (slice_index_or l.uses i no_use).hold) l.c b;
}
