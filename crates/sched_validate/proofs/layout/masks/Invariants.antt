use Rattle.std.proofs.Common.{◌≡◌, ◌<◌, ℕ, length, map}
use Rattle.std.specs.Prelude.{slice_index_or}
use Rattle.unit_sets.specs.Members.{in_words}
use Rattle.sched_validate.specs.Spans.{no_set}
use Rattle.sched_validate.specs.Units.{has_unit}
use Rattle.sched_validate.proofs.layout.masks.Given as goal

-- the sets so far are those of the resources before k
abbrev pub invariant-loop-k : goal.invariant-loop-k
invariant-loop-k l = record {
  count : length l.sets.items ≡ l.k;
  units : (j v : ℕ) → j < l.k → in_words (slice_index_or l.sets.items j no_set).words v ≡ has_unit (map (λ r. r.now) l.resources) j v;
}
