-- A table without an illness describes a machine that keeps the law.
use Rattle.std.proofs.Common.{◌≡◌, ℕ, zero, suc, ◌<◌, ◌≤◌, List, [], ◌∷◌, length, None, Some, refl, sym, subst, ◌∙◌, ap, arith, inl, inr, pos}
use Rattle.std.specs.Prelude.{◌⊎◌, map, slice_get, slice_index_or}
use Rattle.std.proofs.Common.{get_or}
use Rattle.std.proofs.lemmas.Option.{slice_get_cases, slice_get_within}
use Rattle.machine_model.specs.Valid.{IsValidMachine, IsResource, IsOwner, IsShare, IsBinding, IsWrite}
use Rattle.machine_model.specs.Uses.{units_of, share_unit}
use Rattle.machine_model.specs.declared.tuning.Tuning.{Tuning}
use Rattle.machine_model.specs.declared.answers.Binding.{Binding}
use Rattle.machine_model.specs.declared.answers.UnitOwner.{UnitOwner}
use Rattle.machine_model.specs.declared.facts.FileShare.{FileShare}
use Rattle.sched_checks.specs.Illness.{illness_of}
use Rattle.sched_checks.specs.Resources.{count_of, resources_of, total, share}
use Rattle.sched_resolve.specs.declared.entry.Defaults.{Defaults}
use Rattle.sched_resolve.specs.declared.entry.Entry.{Entry}
use Rattle.sched_resolve.specs.declared.entry.File.{File}
use Rattle.sched_resolve.specs.declared.entry.Resource.{Resource}
use Rattle.sched_resolve.specs.declared.entry.Write.{Write}
use Rattle.sched_validate.specs.Classes.{write_in, advance_in, writes_of, advances_of, facts_of, no_facts}
use Rattle.sched_validate.specs.Lists.{files_of}
use Rattle.sched_validate.specs.Machine.{machine_of}
use Rattle.sched_validate.proofs.Places.{ArePlaces}
use Rattle.sched_validate.proofs.GoodBindings.{IsBound, binding_holds, small_advance, no_advance}
use Rattle.sched_validate.proofs.GoodFiles.{IsGoodFile, IsHeld, good_file, few_files, held}
use Rattle.sched_validate.proofs.GoodLimits.{limits_hold}
use Rattle.sched_validate.proofs.KindLists.{length_kind}
use Rattle.sched_validate.proofs.Ranges.{high_count}
use Rattle.sched_validate.proofs.UnitOwners.{IsOwned, owned_by}
use Rattle.sched_validate.proofs.GoodResources.{IsGood, good, few, fits, some_total}
use Rattle.sched_validate.proofs.Sound.{IsHealthy, healthy}
use Rattle.sched_validate.proofs.UnitCounts.{Fits, units_counted, shares_counted, units_are_low}
use Rattle.sched_validate.proofs.GoodWrites.{good_write, write_holds}

abbrev pub Law : Type 0
Law = (es : List Entry) (ds : List Defaults) (t : Tuning) → length es ≤ 8192 → ArePlaces es ds → illness_of es ≡ None → IsValidMachine 256 256 (machine_of es ds t)

pub map_at : {X Y : Type 0} (f : X → Y) (xs : List X) (k : ℕ) (x : X) (d : Y) → slice_get xs k ≡ Some x → slice_index_or (map f xs) k d ≡ f x
map_at f [] k x d h = absurd cc
map_at f (y ∷ xs) zero x d h = (let e : y ≡ x = cc in ap f e)
map_at f (y ∷ xs) (suc k) x d h = map_at f xs k x d h

-- the element at a place that there is
element_if : {X : Type 0} (xs : List X) (k : ℕ) → k < length xs → ((x : X) × (k < length xs) × (slice_get xs k ≡ Some x) × (get_or xs k x ≡ x)) ⊎ ((length xs ≤ k) × (slice_get xs k ≡ None)) → (x : X) × (slice_get xs k ≡ Some x)
element_if xs k lt (inl (x, _, at, _)) = (x, at)
element_if xs k lt (inr (past, _)) = absurd (omega (arith, lt, past))

element : {X : Type 0} (xs : List X) (k : ℕ) → k < length xs → (x : X) × (slice_get xs k ≡ Some x)
element xs k lt = element_if xs k lt (slice_get_cases xs k).1

resource_holds : (es : List Entry) (ds : List Defaults) (t : Tuning) → ArePlaces es ds → ((j : ℕ) (r : Resource) → slice_get (resources_of es) j ≡ Some r → IsGood (resources_of es) j r)
    → (k : ℕ) → (x : Resource) × (slice_get (resources_of es) k ≡ Some x) → IsResource (machine_of es ds t) k
resource_holds es ds t places all k (x, at) =
    let is : _ = all k x at in
    let fit : _ = fits (resources_of es) all in
    let buffer : slice_index_or (map (λ r. r.buffer) (resources_of es)) k (pos 0) ≡ x.buffer = map_at (λ r. r.buffer) (resources_of es) k x (pos 0) at in
    record {
      buffer_low = rw buffer is.buffer_low;
      buffer_high = rw buffer is.buffer_high;
      some_unit = omega (arith, units_counted (resources_of es) fit k, some_total (resources_of es) all k x at (places.member k x at));
      units_low = λ u h. units_are_low (resources_of es) fit k u h;
    }

owner_holds : (es : List Entry) (ds : List Defaults) (t : Tuning) (u : ℕ) (o : UnitOwner) → IsOwned (resources_of es) u o → IsOwner (machine_of es ds t) u o
owner_holds es ds t u o is = record { resource = is.resource; has = is.has; place = is.place }

share_holds : (es : List Entry) (ds : List Defaults) (t : Tuning) (s : FileShare) → (j : ℕ) × (f : File) × IsHeld (files_of es) s j f → IsShare (machine_of es ds t) s
share_holds es ds t s (j, f, is) =
    let lt : j < length (files_of es) = slice_get_within (files_of es) j f is.at in
    let size : slice_index_or (map (λ x. count_of x.size) (files_of es)) s.file 0 ≡ count_of f.size = subst (λ n. slice_index_or (map (λ x. count_of x.size) (files_of es)) n 0 ≡ count_of f.size) (sym is.number) (map_at (λ x. count_of x.size) (files_of es) j f 0 is.at) in
    record {
      file = omega (arith, lt, is.number);
      cost_low = is.fair.low;
      cost_high = is.fair.high;
      room = λ some. omega (arith, size, is.fair.room (λ none. some (size ∙ none)));
    }

file_holds : (es : List Entry) (k : ℕ) → ((j : ℕ) (f : File) → slice_get (files_of es) j ≡ Some f → IsGoodFile j f) → (f : File) × (slice_get (files_of es) k ≡ Some f)
    → slice_index_or (map (λ x. count_of x.size) (files_of es)) k 0 ≤ 65536
file_holds es k all (f, at) = (let size : slice_index_or (map (λ x. count_of x.size) (files_of es)) k 0 ≡ count_of f.size = map_at (λ x. count_of x.size) (files_of es) k f 0 at in
    omega (arith, size, high_count 65536 f.size (all k f at).size_high))

write_at : (es : List Entry) (ds : List Defaults) (t : Tuning) → IsHealthy es → ArePlaces es ds → units_of (machine_of es ds t) ≡ total (resources_of es) → share_unit (machine_of es ds t) ≡ share (resources_of es)
    → (k : ℕ) → (w : Write) × (slice_get (writes_of es) k ≡ Some w) → IsWrite (machine_of es ds t) (slice_index_or (map facts_of (writes_of es)) k no_facts)
write_at es ds t health places size shares k (w, at) =
    subst (IsWrite (machine_of es ds t)) (sym (map_at facts_of (writes_of es) k w no_facts at))
    (write_holds (machine_of es ds t) es w (good_write es health k w at) refl size shares (places.used k w at))

binding_at : (es : List Entry) (ds : List Defaults) (t : Tuning) (b : Binding) → IsBound (length (writes_of es)) (length (advances_of es)) b → IsBinding (machine_of es ds t) b
binding_at es ds t b is = record { write = is.write; rs1 = is.rs1; rs2 = is.rs2 }

pub valid : Law
valid es ds t few_entries places sound =
    let health : IsHealthy es = healthy es sound in
    let all : (j : ℕ) (r : Resource) → slice_get (resources_of es) j ≡ Some r → IsGood (resources_of es) j r = λ j r e. good es health j r e in
    let files : (j : ℕ) (f : File) → slice_get (files_of es) j ≡ Some f → IsGoodFile j f = λ j f e. good_file es health j f e in
    let fit : Fits (resources_of es) = fits (resources_of es) all in
    let size : units_of (machine_of es ds t) ≡ total (resources_of es) = λ i r. units_counted (resources_of es) fit r i in
    let shares : share_unit (machine_of es ds t) ≡ share (resources_of es) = λ i q r. shares_counted (resources_of es) fit q r i in
    let writes : length (writes_of es) ≤ length es = length_kind write_in es in
    let advances : length (advances_of es) ≤ length es = length_kind advance_in es in
    record {
      limits = limits_hold es t health all;
      units = refl;
      units_fit = omega arith;
      units_few = omega arith;
      resources_few = few (resources_of es) all;
      resource = λ r lt. resource_holds es ds t places all r (element (resources_of es) r lt);
      owner = λ u o h. owner_holds es ds t u o (owned_by (resources_of es) u o h);
      files_few = few_files (files_of es) files;
      file = λ f lt. file_holds es f files (element (files_of es) f lt);
      share = λ r s h. share_holds es ds t s (held (files_of es) r s files h);
      writes_few = omega (arith, writes, few_entries);
      reads_few = omega (arith, advances, few_entries);
      binding = λ o b h. binding_at es ds t b (binding_holds es ds o b places h);
      write = λ k lt. write_at es ds t health places size shares k (element (writes_of es) k lt);
      advance_low = λ r w. (small_advance es health r w).0;
      advance_high = λ r w. (small_advance es health r w).1;
      no_advance = λ w. no_advance (advances_of es) w (omega (arith, advances, few_entries)) places.read;
    }
