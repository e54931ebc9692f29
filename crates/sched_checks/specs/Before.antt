-- What the checks of a record ask of those before it.
use Rattle.std.specs.Prelude.{◌≡◌, ℕ, ◌+◌, ◌-◌, ◌^◌, ◌<◌, min, List, [], length, sum_by, count_by, slice_index_or, Bool, false, ◌||◌, if◌then◌else◌}
use Rattle.std.specs.List.{list_any}
use Rattle.rv_isa.specs.declared.op.Op.{Op}
use Rattle.sched_resolve.specs.declared.entry.Entry.{Entry}
use Rattle.sched_resolve.specs.declared.entry.Entry.TheVariants as entry
use Rattle.sched_checks.specs.Checks.{is_model, is_resource, is_file, is_retirement, is_load_queue, is_store_queue, entry_units, held_by, same_op, rewrites}
use Rattle.sched_checks.specs.declared.before.Counts.{Counts}

-- a number as far as 64 bits hold it
abbrev pub capped : ℕ → ℕ
capped n = min n (2 ^ 64 - 1)

abbrev pub one_if : Bool → ℕ
one_if b = if b then 1 else 0

-- what there is among these
abbrev pub counts_of : List Entry → Counts
counts_of es = record {
  models = list_any is_model es;
  resources = capped (count_by is_resource es);
  units = capped (sum_by entry_units es);
  files = capped (count_by is_file es);
  retirements = list_any is_retirement es;
  load_queues = list_any is_load_queue es;
  store_queues = list_any is_store_queue es;
}

abbrev pub counts_with : Counts → Entry → Counts
counts_with s e = record {
  models = s.models || is_model e;
  resources = capped (s.resources + one_if (is_resource e));
  units = capped (s.units + entry_units e);
  files = capped (s.files + one_if (is_file e));
  retirements = s.retirements || is_retirement e;
  load_queues = s.load_queues || is_load_queue e;
  store_queues = s.store_queues || is_store_queue e;
}

abbrev pub ops_of : Entry → List Op
ops_of (entry.Rewrite r) = r.ops
ops_of _ = []

-- the truth of each register is whether a file of these holds it
pub record Holds (held : List Bool) (es : List Entry) : Type 0 where
  pub places : length held ≡ 32
  pub same : (r : ℕ) → r < 32 → slice_index_or held r false ≡ list_any (held_by r) es

-- the opcodes that these rewrite are among those
pub record Names (ops : List Op) (es : List Entry) : Type 0 where
  pub same : (o : Op) → list_any (same_op o) ops ≡ list_any (rewrites o) es
