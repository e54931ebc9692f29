use Rattle.std.proofs.Common.{◌-◌, ◌≤◌}
use Rattle.unit_sets.specs.Members.{in_word}
use Rattle.row_sets.specs.Kept.{IsMerged}
use Rattle.row_sets.proofs.ready.merged.Given as goal

abbrev pub invariant-loop-pos : goal.invariant-loop-pos
invariant-loop-pos l = record {
  low : l.pos ≤ 64;
  merged : IsMerged l.words l.base (in_word l.live) l.pos l.all;
}

abbrev pub decreases-loop-pos : goal.decreases-loop-pos
decreases-loop-pos l = 64 - l.pos
