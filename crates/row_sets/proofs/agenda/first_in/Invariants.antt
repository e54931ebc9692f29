use Rattle.std.proofs.Common.{◌-◌, ◌+◌, ◌≤◌, slice_index}
use Rattle.unit_sets.specs.Members.{in_word}
use Rattle.row_sets.proofs.Firsts.{FirstBelow}
use Rattle.row_sets.proofs.agenda.first_in.Given as goal

abbrev pub invariant-loop-pos : goal.invariant-loop-pos
invariant-loop-pos l = record {
  low : l.pos ≤ 64;
  first : FirstBelow (in_word l.word) (λ v. l.base + v) (slice_index l.times) l.pos l.best;
}

abbrev pub decreases-loop-pos : goal.decreases-loop-pos
decreases-loop-pos l = 64 - l.pos
