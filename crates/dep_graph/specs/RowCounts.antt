-- The stalls of a row by the cycles from which on it has what it needs.
use Rattle.std.specs.Prelude.{◌≡◌, ℕ, ◌+◌, ◌-◌, max, List, [], ◌∷◌, Bool, if◌then◌else◌}
use Rattle.dep_graph.specs.declared.counts.Counts.{Counts}
use Rattle.dep_graph.specs.declared.counts.Marks.{Marks}

-- each count is how far its mark lies beyond those before it
pub record AreOfRow (start : ℕ) (from : Marks) (end : ℕ) (reserved : Bool) (counts : Counts) : Type 0 where
  pub group : counts.group ≡ max start from.group - start
  pub reorder : counts.reorder ≡ max (max start from.group) from.reorder - max start from.group
  pub registers : counts.registers ≡ max (max (max start from.group) from.reorder) from.registers - max (max start from.group) from.reorder
  pub loads : counts.loads ≡ max (max (max (max start from.group) from.reorder) from.registers) from.loads - max (max (max start from.group) from.reorder) from.registers
  pub stores : counts.stores ≡ max (max (max (max (max start from.group) from.reorder) from.registers) from.loads) from.stores - max (max (max (max start from.group) from.reorder) from.registers) from.loads
  pub buffers : counts.buffers ≡ (if reserved then 0 else end - max (max (max (max (max start from.group) from.reorder) from.registers) from.loads) from.stores)
  pub reserved_is : counts.reserved ≡ (if reserved then end - max (max (max (max (max start from.group) from.reorder) from.registers) from.loads) from.stores else 0)

-- counts by what was lacking, in their order
abbrev pub listed : Counts → List ℕ
listed a = a.group ∷ a.reorder ∷ a.registers ∷ a.loads ∷ a.stores ∷ a.buffers ∷ a.reserved ∷ []

-- all counts together
abbrev pub total : Counts → ℕ
total a = a.group + a.reorder + a.registers + a.loads + a.stores + a.buffers + a.reserved

-- two counts together
abbrev pub both : Counts → Counts → Counts
both a b = record {
  group = a.group + b.group;
  reorder = a.reorder + b.reorder;
  registers = a.registers + b.registers;
  loads = a.loads + b.loads;
  stores = a.stores + b.stores;
  buffers = a.buffers + b.buffers;
  reserved = a.reserved + b.reserved;
}
