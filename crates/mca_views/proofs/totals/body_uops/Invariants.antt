use Rattle.std.proofs.Common.{◌≡◌, ◌≤◌, ◌*◌, ◌^◌, take}
use Rattle.cycle_rules.specs.Totals.{body_uops}
use Rattle.mca_views.proofs.totals.body_uops.Given as goal

abbrev pub invariant-loop-b : goal.invariant-loop-b
invariant-loop-b l = record {
  sum : l.sum ≡ body_uops (take l.b-index l.body);
  low : l.sum ≤ l.b-index * 2 ^ 16;
}
