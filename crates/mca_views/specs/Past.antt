-- What the rows before row j leave behind: for each register the row that wrote it last, and for each kind of access the latest cycle.
use Rattle.std.specs.Prelude.{◌≡◌, ◌<◌, ℕ, max, length, slice_index_or, Bool, true, false, ◌&&◌, Option, if◌then◌else◌}
use Rattle.rv_isa.specs.declared.facts.Kind.{Kind}
use Rattle.cycle_rules.specs.CycleBound.{max_below}
use Rattle.cycle_rules.specs.Row.{Input, Table, is_load, is_store, is_barrier}
use Rattle.cycle_rules.specs.Issue.{producer, is_fenced}
use Rattle.cycle_rules.specs.WaitTimes.{seen_from}
use Rattle.mca_views.specs.declared.latest.Latest.{Latest as LatestOf}
use Rattle.mca_views.specs.declared.past.Past.{Past}

-- the first cycle in which a row finds that row k has completed
abbrev pub done_from : Input → Table → Bool → ℕ → ℕ
done_from g t reserved k = max (seen_from g t reserved k) (t k).complete

-- the latest of some cycles of the first j rows, over those of a kind
abbrev pub latest : Input → (Kind → Bool) → (ℕ → ℕ) → ℕ → ℕ
latest g is cycle j = max_below j (λ k. if is (g.row k).kind then cycle k else 0)

-- as a row finds them that is reserved, or is not
pub record IsLatest (g : Input) (t : Table) (reserved : Bool) (j : ℕ) (l : LatestOf) : Type 0 where
  pub barriers : l.barriers ≡ latest g is_barrier (done_from g t reserved) j
  pub stores : l.stores ≡ latest g is_store (done_from g t reserved) j
  pub loads : l.loads ≡ latest g is_load (done_from g t reserved) j
  pub issued_stores : l.issued_stores ≡ latest g is_store (seen_from g t reserved) j
  pub issued_loads : l.issued_loads ≡ latest g is_load (seen_from g t reserved) j
  -- of the loads behind which a store or a barrier stands
  pub fenced_loads : l.fenced_loads ≡ max_below j (λ k. if is_load (g.row k).kind && is_fenced g k j then seen_from g t reserved k else 0)

pub record IsPast (g : Input) (t : Table) (j : ℕ) (p : Past) : Type 0 where
  pub registers : length p.writers.items ≡ 32
  pub writers : (r : ℕ) (d : Option ℕ) → r < 32 → slice_index_or p.writers.items r d ≡ producer g j r
  pub of_reserved : IsLatest g t true j p.of_reserved
  pub of_others : IsLatest g t false j p.of_others
