use Rattle.std.proofs.Common.{◌≡◌, ◌*◌, ◌^◌, ◌≤◌, take, map}
use Rattle.sched_checks.specs.Parts.{units_of}
use Rattle.sched_checks.proofs.resources.units_of.Given as goal

abbrev pub invariant-loop-part : goal.invariant-loop-part
invariant-loop-part l = record {
  same : l.units ≡ units_of (map (λ r. r.now) l.list) (take l.part-index l.parts);
  small : l.units ≤ l.part-index * 2 ^ 64;
}
