use Rattle.std.proofs.Common.{◌≡◌, ◌≤◌, ◌*◌, ◌^◌, take}
use Rattle.cycle_rules.specs.Totals.{body_holds}
use Rattle.mca_views.proofs.totals.body_holds.Given as goal

abbrev pub invariant-loop-b : goal.invariant-loop-b
invariant-loop-b l = record {
  sum : l.sum ≡ body_holds l.r (take l.b-index l.body);
  low : l.sum ≤ l.b-index * 2 ^ 35;
}
