-- The places that the entries of a table tell are those of entries, by the numbers of the entries.
use Rattle.std.proofs.Common.{◌≡◌, ℕ, ◌<◌, List, length, Some}
use Rattle.std.specs.Prelude.{Contains, slice_get}
use Rattle.sched_checks.specs.Resources.{resources_of}
use Rattle.sched_resolve.specs.declared.entry.Advance.{Advance}
use Rattle.sched_resolve.specs.declared.entry.Defaults.{Defaults}
use Rattle.sched_resolve.specs.declared.entry.Entry.{Entry}
use Rattle.sched_resolve.specs.declared.entry.Resource.{Resource}
use Rattle.sched_resolve.specs.declared.entry.Rewrite.{Rewrite}
use Rattle.sched_resolve.specs.declared.entry.Write.{Write}
use Rattle.sched_validate.specs.Classes.{writes_of, advances_of}
use Rattle.sched_validate.specs.Lists.{rewrites_of}
use Rattle.sched_validate.specs.Places.{members_of, IsPlace}

pub record ArePlaces (es : List Entry) (ds : List Defaults) : Type 0 where
  pub member : (k : ℕ) (r : Resource) → slice_get (resources_of es) k ≡ Some r → (p : ℕ) → Contains (members_of r.makeup) (Some p) → p < length (resources_of es)
  pub used : (k : ℕ) (w : Write) → slice_get (writes_of es) k ≡ Some w → (p : ℕ) → Contains w.uses (Some p) → p < length (resources_of es)
  pub read : (k : ℕ) (a : Advance) → slice_get (advances_of es) k ≡ Some a → a.read < length (advances_of es)
  pub rewritten : (k : ℕ) (r : Rewrite) → slice_get (rewrites_of es) k ≡ Some r → IsPlace (length (writes_of es)) r.write
  pub rewritten_rs1 : (k : ℕ) (r : Rewrite) → slice_get (rewrites_of es) k ≡ Some r → IsPlace (length (advances_of es)) r.rs1
  pub rewritten_rs2 : (k : ℕ) (r : Rewrite) → slice_get (rewrites_of es) k ≡ Some r → IsPlace (length (advances_of es)) r.rs2
  pub written : (k : ℕ) (d : Defaults) → slice_get ds k ≡ Some d → IsPlace (length (writes_of es)) d.write
  pub rs1 : (k : ℕ) (d : Defaults) → slice_get ds k ≡ Some d → IsPlace (length (advances_of es)) d.rs1
  pub rs2 : (k : ℕ) (d : Defaults) → slice_get ds k ≡ Some d → IsPlace (length (advances_of es)) d.rs2
