-- What the steps need that work out what a machine keeps, of a table without an illness.
use Rattle.std.proofs.Common.{◌≡◌, ℕ, ℤ, ◌<◌, ◌≤◌, ◌^◌, zero, suc, List, [], ◌∷◌, length, map, get_or, Bool, false, None, Some, Bor, refl, sym, subst, ◌∙◌, ap, arith, pos}
use Rattle.std.specs.Prelude.{Option, slice_get, slice_index_or, sum_by, All, Contains}
use Rattle.std.specs.List.{list_any}
use Rattle.std.proofs.lemmas.List.{take_all}
use Rattle.std.proofs.lemmas.Bool.{or_parts}
use Rattle.std.proofs.lemmas.Option.{slice_get-map, slice_get-get_or, slice_get_within, get_or_from_slice_get}
use Rattle.std.specs.Option.{option_map}
use Rattle.sched_checks.specs.Checks.{is_outside}
use Rattle.sched_checks.specs.Resources.{count_of, own_units, place_or_first}
use Rattle.sched_validate.proofs.Masks.{any_default}
use Rattle.sched_resolve.specs.InRange.{AreInRange, write_in, advance_in, resources_of, writes_of, advances_of}
use Rattle.sched_resolve.specs.declared.entry.Advance.{Advance}
use Rattle.sched_resolve.specs.declared.entry.Defaults.{Defaults}
use Rattle.sched_resolve.specs.declared.entry.Entry.{Entry}
use Rattle.sched_resolve.specs.declared.entry.Entry.TheVariants as entry
use Rattle.sched_resolve.specs.declared.entry.File.{File}
use Rattle.sched_resolve.specs.declared.entry.Makeup.{Makeup}
use Rattle.sched_resolve.specs.declared.entry.Makeup.TheVariants as makeup
use Rattle.sched_resolve.specs.declared.entry.Resource.{Resource}
use Rattle.sched_resolve.specs.declared.entry.Rewrite.{Rewrite}
use Rattle.sched_resolve.specs.declared.entry.Write.{Write}
use Rattle.sched_validate.specs.Advances.{IsSmallAdvance}
use Rattle.sched_validate.specs.Buffers.{IsBuffered}
use Rattle.sched_validate.specs.Classes.{hold_or_one, read_class, IsSmallWrite, IsSmallRewrite, IsSmallDefaults}
use Rattle.sched_validate.specs.Files.{IsSmallFile}
use Rattle.sched_validate.specs.Lists.{files_of, rewrites_of, rewrite_in}
use Rattle.sched_validate.specs.Places.{members_of, IsPlace}
use Rattle.sched_validate.proofs.Places.{ArePlaces}
use Rattle.sched_validate.specs.Spans.{MembersArePlaces}
use Rattle.sched_validate.specs.Units.{first_unit}
use Rattle.sched_validate.proofs.Found.{is_resource_entry, is_write_entry, is_advance_entry, is_rewrite_entry}
use Rattle.sched_validate.proofs.GoodBindings.{IsGoodAdvance, good_advance}
use Rattle.sched_validate.proofs.GoodFiles.{IsGoodFile, good_file}
use Rattle.sched_validate.proofs.GoodResources.{IsGood, good, few, low_first}
use Rattle.sched_validate.proofs.GoodWrites.{IsGoodWrite, good_write}
use Rattle.sched_validate.proofs.KindLists.{Origin, from_list, length_kind}
use Rattle.sched_validate.proofs.Ranges.{inside, high_count}
use Rattle.sched_validate.proofs.Sound.{IsHealthy}

-- The places in range, by the numbers of the entries

contains_at : {X : Type 0} (xs : List X) (k : ℕ) (x : X) → slice_get xs k ≡ Some x → Contains xs x
contains_at xs k x h = (k, slice_get_within xs k x h, get_or_from_slice_get xs k x x h)

contained : {B : Type 0} (f : Entry → Option B) (make : B → Entry) → ((a : Entry) (b : B) → f a ≡ Some b → a ≡ make b) → (es : List Entry) (k : ℕ) (b : B) → Origin f es k b → Contains es (make b)
contained f make is es k b (i, a, r) = subst (Contains es) (is a b r.gives) (contains_at es i a r.at)

member_low : (es : List Entry) (ds : List Defaults) → AreInRange es ds → (r : Resource) → Contains es (entry.Resource r) → (m : Makeup) → r.makeup ≡ m → (p : ℕ) → Contains (members_of m) (Some p) → p < length (resources_of es)
member_low es ds is r there (makeup.Units n) made p (k, lt, e) = absurd (omega (arith, lt))
member_low es ds is r there (makeup.Group ms) made p within = is.members r there ms made p within

pub places : (es : List Entry) (ds : List Defaults) → AreInRange es ds → ArePlaces es ds
places es ds is = record {
  member = λ k r h p within. member_low es ds is r (contained _ entry.Resource is_resource_entry es k r (from_list _ es r k h)) r.makeup refl p within;
  used = λ k w h p within. is.uses w (contained _ entry.Write is_write_entry es k w (from_list _ es w k h)) p within;
  read = λ k a h. is.read a (contained _ entry.Advance is_advance_entry es k a (from_list _ es a k h));
  rewritten = λ k r h p e. is.write r (contained rewrite_in entry.Rewrite is_rewrite_entry es k r (from_list rewrite_in es r k h)) p e;
  rewritten_rs1 = λ k r h p e. is.rs1 r (contained rewrite_in entry.Rewrite is_rewrite_entry es k r (from_list rewrite_in es r k h)) p e;
  rewritten_rs2 = λ k r h p e. is.rs2 r (contained rewrite_in entry.Rewrite is_rewrite_entry es k r (from_list rewrite_in es r k h)) p e;
  written = λ k d h p e. is.default_write d (contains_at ds k d h) p e;
  rs1 = λ k d h p e. is.default_rs1 d (contains_at ds k d h) p e;
  rs2 = λ k d h p e. is.default_rs2 d (contains_at ds k d h) p e;
}

-- What holds of each element of a list holds of each reference to one

ref_at : {X : Type 0} (refs : List (Bor X)) (k : ℕ) (d : Bor X) → k < length refs → slice_get (map (λ r. r.now) refs) k ≡ Some (get_or refs k d).now
ref_at refs k d lt = slice_get-map (λ r. r.now) refs k ∙ ap (option_map (λ r. r.now)) (slice_get-get_or refs k d lt)

pub all_refs : {X : Type 0} (P : X → Type 0) (refs : List (Bor X)) (xs : List X) → map (λ r. r.now) refs ≡ xs → ((k : ℕ) (x : X) → slice_get xs k ≡ Some x → P x) → All (λ r. P r.now) refs
all_refs P refs xs e each = λ k d lt. each k (get_or refs k d).now (sym (ap (λ ys. slice_get ys k) e) ∙ ref_at refs k d lt)

-- The needs

pub buffered : (es : List Entry) → IsHealthy es → (k : ℕ) (r : Resource) → slice_get (resources_of es) k ≡ Some r → IsBuffered r
buffered es health k r h = (let is : IsGood (resources_of es) k r = good es health k r h in record { low = is.buffer_low; high = is.buffer_high })

pub units_fit : (es : List Entry) → IsHealthy es → sum_by (λ r. own_units r.makeup) (resources_of es) ≤ 256
units_fit es health = (let low : first_unit (resources_of es) (length (resources_of es)) ≤ 256 = low_first (resources_of es) (λ j r e. good es health j r e) (length (resources_of es)) in
    subst (λ xs. sum_by (λ r. own_units r.makeup) xs ≤ 256) (take_all (length (resources_of es)) (resources_of es) (omega arith)) low)

pub members_fit : (es : List Entry) (ds : List Defaults) → ArePlaces es ds → MembersArePlaces (resources_of es)
members_fit es ds is = λ k p r at within. is.member k r at p within

none_at : {X : Type 0} (p : X → Bool) (xs : List X) → list_any p xs ≡ false → (j : ℕ) (d : X) → j < length xs → p (get_or xs j d) ≡ false
none_at p [] e j d lt = absurd (omega (arith, lt))
none_at p (x ∷ xs) e zero d lt = (or_parts (p x) (list_any p xs) e).0
none_at p (x ∷ xs) e (suc j) d lt = none_at p xs (or_parts (p x) (list_any p xs) e).1 j d (omega (arith, lt))

small_cost : (c : ℤ) → is_outside (pos 1) (pos 8) c ≡ false → count_of c < 2 ^ 32
small_cost c e = omega (arith, high_count 8 c (inside (pos 1) (pos 8) c e).1)

pub small_file : (es : List Entry) → IsHealthy es → (k : ℕ) (f : File) → slice_get (files_of es) k ≡ Some f → IsSmallFile f
small_file es health k f h = (let is : IsGoodFile k f = good_file es health k f h in record {
  size = omega (arith, high_count 65536 f.size is.size_high);
  costs = λ j d lt. small_cost (get_or f.costs j d) (none_at (is_outside (pos 1) (pos 8)) f.costs is.costs j d lt);
})

small_cycles : (c : ℤ) → is_outside (pos 0) (pos 1000000) c ≡ false → count_of c < 2 ^ 32
small_cycles c e = omega (arith, high_count 1000000 c (inside (pos 0) (pos 1000000) c e).1)

small_hold : (cs : List ℤ) → list_any (is_outside (pos 0) (pos 1000000)) cs ≡ false → (k : ℕ) → hold_or_one (slice_get cs k) < 2 ^ 32
small_hold [] e k = omega arith
small_hold (c ∷ cs) e zero = small_cycles c (or_parts (is_outside (pos 0) (pos 1000000) c) (list_any (is_outside (pos 0) (pos 1000000)) cs) e).0
small_hold (c ∷ cs) e (suc k) = small_hold cs (or_parts (is_outside (pos 0) (pos 1000000) c) (list_any (is_outside (pos 0) (pos 1000000)) cs) e).1 k

small_place : (n : ℕ) (us : List (Option ℕ)) → n ≤ 64 → ((p : ℕ) → Contains us (Some p) → p < n) → (k : ℕ) → k < length us → (o : Option ℕ) → slice_index_or us k None ≡ o → place_or_first o < 2 ^ 8
small_place n us few low k lt None e = omega arith
small_place n us few low k lt (Some p) e = (let here : p < n = low p (k, lt, any_default us k (Some p) None lt ∙ e) in omega (arith, here, few))

pub small_write : (es : List Entry) (ds : List Defaults) → IsHealthy es → ArePlaces es ds → (k : ℕ) (w : Write) → slice_get (writes_of es) k ≡ Some w → IsSmallWrite w
small_write es ds health is k w h = (let at : IsGoodWrite es w = good_write es health k w h in record {
  latency = omega (arith, at.latency);
  micro_ops = omega (arith, at.uops_high);
  few = at.few;
  resources = λ j lt. small_place (length (resources_of es)) w.uses (few (resources_of es) (λ i r e. good es health i r e)) (is.used k w h) j lt (slice_index_or w.uses j None) refl;
  holds = small_hold w.cycles at.cycles;
})

small_class : (n : ℕ) (o : Option ℕ) → n ≤ 8192 → IsPlace n o → read_class o < 2 ^ 16
small_class n None few low = omega arith
small_class n (Some p) few low = omega (arith, few, low p refl)

pub small_rewrite : (es : List Entry) (ds : List Defaults) → length es ≤ 8192 → ArePlaces es ds → (k : ℕ) (r : Rewrite) → slice_get (rewrites_of es) k ≡ Some r → IsSmallRewrite r
small_rewrite es ds few is k r h = record {
  write = λ p e. omega (arith, is.rewritten k r h p e, length_kind write_in es, few);
  rs1 = small_class (length (advances_of es)) r.rs1 (omega (arith, length_kind advance_in es, few)) (is.rewritten_rs1 k r h);
  rs2 = small_class (length (advances_of es)) r.rs2 (omega (arith, length_kind advance_in es, few)) (is.rewritten_rs2 k r h);
}

pub small_defaults : (es : List Entry) (ds : List Defaults) → length es ≤ 8192 → ArePlaces es ds → All IsSmallDefaults ds
small_defaults es ds few is = λ k d lt. (let h : slice_get ds k ≡ Some (get_or ds k d) = slice_get-get_or ds k d lt in record {
  write = λ p e. omega (arith, is.written k (get_or ds k d) h p e, length_kind write_in es, few);
  rs1 = small_class (length (advances_of es)) (get_or ds k d).rs1 (omega (arith, length_kind advance_in es, few)) (is.rs1 k (get_or ds k d) h);
  rs2 = small_class (length (advances_of es)) (get_or ds k d).rs2 (omega (arith, length_kind advance_in es, few)) (is.rs2 k (get_or ds k d) h);
})

pub small_cycles_of : (es : List Entry) → IsHealthy es → (k : ℕ) (a : Advance) → slice_get (advances_of es) k ≡ Some a → IsSmallAdvance a
small_cycles_of es health k a h = (let is : IsGoodAdvance a = good_advance es health k a h in (is.low, is.high))

-- a function of references is one of what they refer to
pub map_refs : {X Y : Type 0} (f : X → Y) (refs : List (Bor X)) (xs : List X) → map (λ r. r.now) refs ≡ xs → map (λ r. f r.now) refs ≡ map f xs
map_refs f refs xs e = each refs ∙ ap (map f) e
  where
    each : (rs : List (Bor _)) → map (λ r. f r.now) rs ≡ map f (map (λ r. r.now) rs)
    each [] = refl
    each (r ∷ rs) = ap (λ ys. f r.now ∷ ys) (each rs)
