use Rattle.std.proofs.Common.{◌≡◌, ◌+◌, ◌≤◌, ◌++◌, drop, map}
use Rattle.std.specs.Prelude.{sum_by}
use Rattle.sched_checks.specs.Resources.{own_units}
use Rattle.sched_validate.specs.Spans.{spans_from, spans_of}
use Rattle.sched_validate.proofs.layout.spans.Given as goal

-- the spans so far stand before those of the rest
abbrev pub invariant-loop-resource : goal.invariant-loop-resource
invariant-loop-resource l = record {
  fit : l.first + sum_by (λ r. own_units r.makeup) (map (λ r. r.now) (drop l.resource-index l.resources)) ≤ 256;
  spans : spans_of (map (λ r. r.now) l.resources) ≡ l.spans.items ++ spans_from (map (λ r. r.now) (drop l.resource-index l.resources)) l.first;
}
