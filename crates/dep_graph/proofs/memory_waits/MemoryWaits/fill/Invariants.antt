use Rattle.std.proofs.Common.{◌≡◌, ◌≤◌, ◌-◌, ℕ, length}
use Rattle.std.specs.Prelude.{slice_index_or}
use Rattle.dep_graph.proofs.memory_waits.MemoryWaits.fill.Given as goal

abbrev pub invariant-loop-self : goal.invariant-loop-self
invariant-loop-self l = record {
  few : length l.self.places.items ≤ l.j;
  same : (k : ℕ) → slice_index_or l.self.places.items k 0 ≡ slice_index_or l.fn.self.places.items k 0;
  waits : l.self.waits ≡ l.fn.self.waits;
}

abbrev pub decreases-loop-self : goal.decreases-loop-self
decreases-loop-self l = l.j - length l.self.places.items
