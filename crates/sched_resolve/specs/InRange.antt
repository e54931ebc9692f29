-- Every place that an entry tells is the place of something.
use Rattle.std.specs.Prelude.{◌≡◌, ℕ, ◌<◌, List, length, Contains, None, Some}
use Rattle.std.specs.List.{filter_map}
use Rattle.std.specs.declared.option.Option.{Option}
use Rattle.sched_resolve.specs.declared.entry.Entry.{Entry}
use Rattle.sched_resolve.specs.declared.entry.Entry.TheVariants as entry
use Rattle.sched_resolve.specs.declared.entry.Makeup.TheVariants as makeup
use Rattle.sched_resolve.specs.declared.entry.Resource.{Resource}
use Rattle.sched_resolve.specs.declared.entry.Write.{Write}
use Rattle.sched_resolve.specs.declared.entry.Advance.{Advance}
use Rattle.sched_resolve.specs.declared.entry.Queue.{Queue}
use Rattle.sched_resolve.specs.declared.entry.Rewrite.{Rewrite}
use Rattle.sched_resolve.specs.declared.entry.Defaults.{Defaults}

abbrev pub resource_in : Entry → Option Resource
resource_in (entry.Resource r) = Some r
resource_in _ = None

abbrev pub write_in : Entry → Option Write
write_in (entry.Write w) = Some w
write_in _ = None

abbrev pub advance_in : Entry → Option Advance
advance_in (entry.Advance a) = Some a
advance_in _ = None

-- the resources, the writes and the advances, each in the order of their numbers
abbrev pub resources_of : List Entry → List Resource
resources_of es = filter_map resource_in es

abbrev pub writes_of : List Entry → List Write
writes_of es = filter_map write_in es

abbrev pub advances_of : List Entry → List Advance
advances_of es = filter_map advance_in es

pub record AreInRange (es : List Entry) (ds : List Defaults) : Type 0 where
  -- resources
  pub uses : (w : Write) → Contains es (entry.Write w) → (p : ℕ) → Contains w.uses (Some p) → p < length (resources_of es)
  pub members : (r : Resource) → Contains es (entry.Resource r) → (names : List (Option ℕ)) → r.makeup ≡ makeup.Group names → (p : ℕ) → Contains names (Some p) → p < length (resources_of es)
  pub load : (q : Queue) → Contains es (entry.LoadQueue q) → (p : ℕ) → q.resource ≡ Some p → p < length (resources_of es)
  pub store : (q : Queue) → Contains es (entry.StoreQueue q) → (p : ℕ) → q.resource ≡ Some p → p < length (resources_of es)
  -- writes
  pub writes : (a : Advance) → Contains es (entry.Advance a) → (p : ℕ) → Contains a.writes p → p < length (writes_of es)
  pub write : (r : Rewrite) → Contains es (entry.Rewrite r) → (p : ℕ) → r.write ≡ Some p → p < length (writes_of es)
  pub default_write : (d : Defaults) → Contains ds d → (p : ℕ) → d.write ≡ Some p → p < length (writes_of es)
  -- reads, which are numbered as the first advances that name them
  pub read : (a : Advance) → Contains es (entry.Advance a) → a.read < length (advances_of es)
  pub rs1 : (r : Rewrite) → Contains es (entry.Rewrite r) → (p : ℕ) → r.rs1 ≡ Some p → p < length (advances_of es)
  pub rs2 : (r : Rewrite) → Contains es (entry.Rewrite r) → (p : ℕ) → r.rs2 ≡ Some p → p < length (advances_of es)
  pub default_rs1 : (d : Defaults) → Contains ds d → (p : ℕ) → d.rs1 ≡ Some p → p < length (advances_of es)
  pub default_rs2 : (d : Defaults) → Contains ds d → (p : ℕ) → d.rs2 ≡ Some p → p < length (advances_of es)
  -- one for each opcode
  pub opcodes : length ds ≡ 66
