use Rattle.std.proofs.Common.{◌≡◌, ◌≤◌, ◌<◌, ◌*◌, ◌^◌, ℕ, length, slice_index, map}
use Rattle.cycle_rules.specs.Below.{sum_below}
use Rattle.cycle_rules.specs.Bind.{row_of}
use Rattle.cycle_rules.specs.Holds.{held_by}
use Rattle.cycle_rules.specs.Row.{times}
use Rattle.cycle_rules.proofs.holds.sum_holds.Given as goal

abbrev pub invariant-loop-j : goal.invariant-loop-j
invariant-loop-j l = record {
  same : length l.sums ≡ length l.fn.sums;
  each : (u : ℕ) → u < length l.fn.sums → slice_index l.sums u ≡ sum_below l.j (λ j. held_by (map row_of l.body) (times l.rows) j u);
  low : (u : ℕ) → u < length l.fn.sums → slice_index l.sums u ≤ l.j * 2 ^ 35;
}
