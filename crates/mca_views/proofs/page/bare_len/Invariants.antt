use Rattle.std.proofs.Common.{◌≡◌, ◌≤◌, ◌-◌, ◌++◌, length, take}
use Rattle.mca_fixed.specs.Padding.{spaces}
use Rattle.mca_views.proofs.page.bare_len.Given as goal

abbrev pub decreases-loop-n : goal.decreases-loop-n
decreases-loop-n l = l.n

abbrev pub invariant-loop-n : goal.invariant-loop-n
invariant-loop-n l = record {
  le : l.n ≤ length l.bytes;
  split : l.bytes ≡ take l.n l.bytes ++ spaces (length l.bytes - l.n);
}
