-- The rows that load, store or fence and have not retired, oldest first, and which of them may issue.
use Rattle.std.specs.Prelude.{ℕ, List, [], ◌∷◌, map, Bool, true, false, not, ◌&&◌, ◌||◌, nat_le, nat_lt, nat_eq, if◌then◌else◌}
use Rattle.std.specs.List.{list_all, list_any, count_by}
use Rattle.machine_model.specs.declared.limits.Limits.{Limits}
use Rattle.rv_isa.specs.declared.facts.Kind.{Kind}
use Rattle.rv_isa.specs.declared.facts.Kind.TheVariants.{Plain, Load, Store, Barrier}
use Rattle.cycle_rules.specs.Row.{is_load, is_store, is_barrier}
use Rattle.cycle_rules.specs.Dispatch.{has_room}
use Rattle.cycle_rules.specs.Issue.{Older, memory_order}

pub record MemRow : Type 0 where
  pub row : ℕ
  pub kind : Kind
  pub issued : Bool
  -- the cycle of its completion; 0 where it has not issued
  pub complete : ℕ

-- how many loads, and how many stores, they are
abbrev pub loads_in : List MemRow → ℕ
loads_in rows = count_by (λ x. is_load x.kind) rows

abbrev pub stores_in : List MemRow → ℕ
stores_in rows = count_by (λ x. is_store x.kind) rows

-- the queue of a kind has room for one more
abbrev pub has_place : Limits → List MemRow → Kind → Bool
has_place limits rows Load = has_room limits.loads (loads_in rows)
has_place limits rows Store = has_room limits.stores (stores_in rows)
has_place limits rows Barrier = true
has_place limits rows Plain = true

abbrev pub is_plain : Kind → Bool
is_plain Plain = true
is_plain Load = false
is_plain Store = false
is_plain Barrier = false

abbrev pub is_fence : Kind → Bool
is_fence kind = is_store kind || is_barrier kind

-- a store or a barrier stands among rows older than j
abbrev pub has_fence : ℕ → List MemRow → Bool
has_fence j rows = list_any (λ x. nat_lt x.row j && is_fence x.kind) rows

-- an older row x, as row j finds it in cycle c behind the rows that stand between them and later
abbrev pub older_row : Bool → ℕ → ℕ → MemRow → List MemRow → Older
older_row no_alias j c x rows = record {
  may_pass = no_alias;
  fenced = has_fence j rows;
  issued = x.issued;
  completed = x.issued && nat_le x.complete c;
}

-- row j, of a kind, may issue in cycle c as far as the older ones of these rows are concerned
abbrev pub may_go : Kind → Bool → ℕ → ℕ → List MemRow → Bool
may_go kind no_alias j c [] = true
may_go kind no_alias j c (x ∷ rows) =
    (not (nat_lt x.row j) || memory_order kind x.kind (older_row no_alias j c x rows)) && may_go kind no_alias j c rows

-- the kind of a row among them
abbrev pub kind_of : ℕ → List MemRow → Kind
kind_of row [] = Plain
kind_of row (x ∷ rows) = if nat_eq x.row row then x.kind else kind_of row rows

-- the rows after one has issued
abbrev pub moved : ℕ → ℕ → MemRow → MemRow
moved row w x = if nat_eq x.row row then record x { issued = true; complete = w } else x

abbrev pub with_issue : ℕ → ℕ → List MemRow → List MemRow
with_issue row w rows = map (moved row w) rows

abbrev pub are_below : ℕ → List MemRow → Bool
are_below row rows = list_all (λ x. nat_lt x.row row) rows

-- the oldest row is this one, has issued, and completed before a cycle
abbrev pub retires_as : ℕ → ℕ → List MemRow → Bool
retires_as row c [] = false
retires_as row c (x ∷ rows) = nat_eq x.row row && (x.issued && nat_lt x.complete c)

-- a row is among them and has not issued
abbrev pub waits : ℕ → List MemRow → Bool
waits row rows = list_any (λ x. nat_eq x.row row && not x.issued) rows
