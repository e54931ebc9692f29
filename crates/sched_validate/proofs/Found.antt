-- The entries of a kind, each sound behind those before it.
use Rattle.std.proofs.Common.{◌≡◌, ℕ, List, Some, ap, subst}
use Rattle.std.specs.Prelude.{Option, take, slice_get}
use Rattle.std.specs.List.{filter_map}
use Rattle.sched_checks.specs.Resources.{resource_in, resources_of}
use Rattle.sched_resolve.specs.declared.entry.Entry.{Entry}
use Rattle.sched_resolve.specs.declared.entry.Entry.TheVariants as entry
use Rattle.sched_resolve.specs.declared.entry.Model.{Model}
use Rattle.sched_resolve.specs.declared.entry.Resource.{Resource}
use Rattle.sched_resolve.specs.declared.entry.Write.{Write}
use Rattle.sched_resolve.specs.declared.entry.Advance.{Advance}
use Rattle.sched_resolve.specs.declared.entry.File.{File}
use Rattle.sched_resolve.specs.declared.entry.Retirement.{Retirement}
use Rattle.sched_resolve.specs.declared.entry.Rewrite.{Rewrite}
use Rattle.sched_validate.specs.Lists.{model_in, file_in, retirement_in, rewrite_in}
use Rattle.sched_validate.specs.Classes.{write_in, advance_in}
use Rattle.sched_validate.proofs.KindLists.{Origin, from_list}
use Rattle.sched_validate.proofs.Sound.{IsSound, IsHealthy}

-- the entry of a kind with a number is sound behind those before it, of which so many are of the kind
pub record IsKind {B : Type 0} (f : Entry → Option B) (make : B → Entry) (es : List Entry) (k : ℕ) (b : B) (i : ℕ) : Type 0 where
  pub sound : IsSound (resources_of es) (take i es) (make b)
  pub before : filter_map f (take i es) ≡ take k (filter_map f es)

kind_from : {B : Type 0} (f : Entry → Option B) (make : B → Entry) → ((a : Entry) (b : B) → f a ≡ Some b → a ≡ make b)
    → (es : List Entry) → IsHealthy es → (k : ℕ) (b : B) → Origin f es k b → (i : ℕ) × IsKind f make es k b i
kind_from f make is es health k b (i, a, r) = (i, record { sound = subst (λ e. IsSound (resources_of es) (take i es) e) (is a b r.gives) (health.sound i a r.at); before = r.before })

pub kind_of : {B : Type 0} (f : Entry → Option B) (make : B → Entry) → ((a : Entry) (b : B) → f a ≡ Some b → a ≡ make b)
    → (es : List Entry) → IsHealthy es → (k : ℕ) (b : B) → slice_get (filter_map f es) k ≡ Some b → (i : ℕ) × IsKind f make es k b i
kind_of f make is es health k b h = kind_from f make is es health k b (from_list f es b k h)

pub is_model_entry : (a : Entry) (b : Model) → model_in a ≡ Some b → a ≡ entry.Model b
is_model_entry (entry.Model x) b h = (let e : x ≡ b = cc in ap entry.Model e)
is_model_entry _ b h = absurd cc

pub is_resource_entry : (a : Entry) (b : Resource) → resource_in a ≡ Some b → a ≡ entry.Resource b
is_resource_entry (entry.Resource x) b h = (let e : x ≡ b = cc in ap entry.Resource e)
is_resource_entry _ b h = absurd cc

pub is_write_entry : (a : Entry) (b : Write) → write_in a ≡ Some b → a ≡ entry.Write b
is_write_entry (entry.Write x) b h = (let e : x ≡ b = cc in ap entry.Write e)
is_write_entry _ b h = absurd cc

pub is_advance_entry : (a : Entry) (b : Advance) → advance_in a ≡ Some b → a ≡ entry.Advance b
is_advance_entry (entry.Advance x) b h = (let e : x ≡ b = cc in ap entry.Advance e)
is_advance_entry _ b h = absurd cc

pub is_file_entry : (a : Entry) (b : File) → file_in a ≡ Some b → a ≡ entry.File b
is_file_entry (entry.File x) b h = (let e : x ≡ b = cc in ap entry.File e)
is_file_entry _ b h = absurd cc

pub is_retirement_entry : (a : Entry) (b : Retirement) → retirement_in a ≡ Some b → a ≡ entry.Retirement b
is_retirement_entry (entry.Retirement x) b h = (let e : x ≡ b = cc in ap entry.Retirement e)
is_retirement_entry _ b h = absurd cc

pub is_rewrite_entry : (a : Entry) (b : Rewrite) → rewrite_in a ≡ Some b → a ≡ entry.Rewrite b
is_rewrite_entry (entry.Rewrite x) b h = (let e : x ≡ b = cc in ap entry.Rewrite e)
is_rewrite_entry _ b h = absurd cc
