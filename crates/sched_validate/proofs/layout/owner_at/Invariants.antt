use Rattle.std.proofs.Common.{◌≡◌, ◌+◌, ◌≤◌, drop, map}
use Rattle.std.specs.Prelude.{sum_by}
use Rattle.sched_checks.specs.Resources.{own_units}
use Rattle.sched_validate.specs.Units.{owner_from, owner_of}
use Rattle.sched_validate.proofs.layout.owner_at.Given as goal

-- the unit is none of those of the resources so far
abbrev pub invariant-loop-number : goal.invariant-loop-number
invariant-loop-number l = record {
  low : l.first ≤ l.unit;
  fit : l.first + sum_by (λ r. own_units r.makeup) (map (λ r. r.now) (drop l.number l.resources)) ≤ 256;
  owner : owner_from (map (λ r. r.now) (drop l.number l.resources)) l.number l.first l.unit ≡ owner_of (map (λ r. r.now) l.resources) l.unit;
}
