use Rattle.std.proofs.Common.{◌≡◌, ◌≤◌, ◌<◌, ◌+◌, ◌*◌, ◌^◌, ℕ, length, slice_index, map}
use Rattle.cycle_rules.specs.Below.{sum_below}
use Rattle.cycle_rules.specs.Bind.{row_of}
use Rattle.cycle_rules.specs.Holds.{held_by}
use Rattle.cycle_rules.specs.Row.{times}
use Rattle.cycle_rules.proofs.holds.sum_holds_at.Given as goal

abbrev pub invariant-loop-k : goal.invariant-loop-k
invariant-loop-k l = record {
  same : length l.sums ≡ length l.fn.sums;
  each : (u : ℕ) → u < length l.fn.sums → slice_index l.sums u ≡ sum_below l.k (λ k. held_by (map row_of l.body) (times l.rows) (k * length (map row_of l.body) + l.place) u);
  low : (u : ℕ) → u < length l.fn.sums → slice_index l.sums u ≤ l.k * 2 ^ 35;
}
