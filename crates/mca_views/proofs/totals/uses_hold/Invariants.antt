use Rattle.std.proofs.Common.{◌≡◌, ◌≤◌, ◌*◌, ◌^◌, take}
use Rattle.cycle_rules.specs.Totals.{uses_hold}
use Rattle.mca_views.proofs.totals.uses_hold.Given as goal

abbrev pub invariant-loop-w : goal.invariant-loop-w
invariant-loop-w l = record {
  sum : l.sum ≡ uses_hold l.r (take l.w-index l.uses);
  low : l.sum ≤ l.w-index * 2 ^ 32;
}
