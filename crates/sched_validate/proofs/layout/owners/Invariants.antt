use Rattle.std.proofs.Common.{◌≡◌, ◌<◌, ℕ, length, map, None}
use Rattle.std.specs.Prelude.{slice_index_or}
use Rattle.sched_validate.specs.Units.{owner_of}
use Rattle.sched_validate.proofs.layout.owners.Given as goal

-- the owners so far are those of the units before
abbrev pub invariant-loop-unit : goal.invariant-loop-unit
invariant-loop-unit l = record {
  count : length l.owners.items ≡ l.unit;
  owner : (v : ℕ) → v < l.unit → slice_index_or l.owners.items v None ≡ owner_of (map (λ r. r.now) l.resources) v;
}
