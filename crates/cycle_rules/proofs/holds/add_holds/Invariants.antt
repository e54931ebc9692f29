use Rattle.std.proofs.Common.{◌≡◌, ◌≤◌, ◌<◌, ◌+◌, ◌*◌, ◌^◌, ℕ, length, slice_index, take}
use Rattle.cycle_rules.specs.Holds.{held}
use Rattle.cycle_rules.proofs.holds.add_holds.Given as goal

abbrev pub invariant-loop-k : goal.invariant-loop-k
invariant-loop-k l = record {
  same : length l.sums ≡ length l.fn.sums;
  each : (u : ℕ) → u < length l.fn.sums → slice_index l.sums u ≡ slice_index l.fn.sums u + held (take l.k l.uses) l.units u;
  low : (u : ℕ) → u < length l.fn.sums → slice_index l.sums u ≤ slice_index l.fn.sums u + l.k * 2 ^ 32;
}
