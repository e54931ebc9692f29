-- What the law says of the resources of a table without an illness.
use Rattle.std.proofs.Common.{◌≡◌, ℕ, ◌+◌, ◌<◌, ◌≤◌, zero, suc, List, [], ◌∷◌, ◌++◌, length, Bool, true, false, None, Some, refl, sym, ◌∙◌, ap, arith, nat_eq, cond, inl, inr, pos}
use Rattle.std.specs.Prelude.{Option, Contains, int_le, neg_ℤ, ◌&&◌, ◌⊎◌, nat_lt, nat_le, not, take, slice_get, sum_by, count_by, if◌then◌else◌}
use Rattle.std.specs.List.{list_any, filter_map}
use Rattle.std.proofs.lemmas.Bool.Decides.{nat_tests}
use Rattle.std.proofs.lemmas.Bool.{or_parts, not_from_false}
use Rattle.std.proofs.lemmas.List.{length-take}
use Rattle.std.proofs.lemmas.List.Sums.{sum_by-cons, sum_by-append}
use Rattle.std.proofs.lemmas.Option.{slice_get_within, slice_get_cases}
use Rattle.std.proofs.Common.{get_or}
use Rattle.sched_checks.specs.Resources.{own_units, is_group, group_at, units_at, resource_in, resources_of, plain_at, parts_in, total, with_part, with_parts}
use Rattle.sched_checks.specs.Checks.{is_outside, is_resource, entry_units, bad_units, is_empty_makeup, has_group, unknown_member, is_group_member}
use Rattle.sched_resolve.specs.declared.entry.Entry.{Entry}
use Rattle.sched_resolve.specs.declared.entry.Entry.TheVariants as entry
use Rattle.sched_resolve.specs.declared.entry.Makeup.{Makeup}
use Rattle.sched_resolve.specs.declared.entry.Makeup.TheVariants as makeup
use Rattle.sched_resolve.specs.declared.entry.Resource.{Resource}
use Rattle.sched_validate.specs.Units.{first_unit}
use Rattle.sched_validate.specs.Places.{members_of}
use Rattle.sched_validate.proofs.KindLists.{sum_kind, sum_ones}
use Rattle.sched_validate.proofs.Found.{IsKind, kind_of, is_resource_entry}
use Rattle.sched_validate.proofs.Ranges.{inside, not_zero, true_from_not}
use Rattle.sched_validate.proofs.ListTests.{four_parts}
use Rattle.sched_validate.proofs.Sound.{IsHealthy}
use Rattle.sched_validate.proofs.UnitCounts.{Fits}

-- what the checks say of the resource with a number
pub record IsGood (rs : List Resource) (k : ℕ) (r : Resource) : Type 0 where
  pub few : k < 64
  pub buffer_low : int_le (neg_ℤ (pos 1)) r.buffer ≡ true
  pub buffer_high : int_le r.buffer (pos 4096) ≡ true
  pub not_bad : bad_units r.makeup ≡ false
  pub units : first_unit rs k + own_units r.makeup ≤ 256
  pub not_empty : is_empty_makeup r.makeup ≡ false
  pub known : unknown_member r.makeup ≡ false
  pub flat : has_group rs r.makeup ≡ false

count_resources : (xs : List Entry) → count_by is_resource xs ≡ length (filter_map resource_in xs)
count_resources xs = sum_kind resource_in (λ e. cond {A = ℕ} (is_resource e) 1 0) (λ _. 1) no_one one xs ∙ sum_ones (filter_map resource_in xs)
  where
    no_one : (a : Entry) → resource_in a ≡ None → ◌≡◌ {A = ℕ} (cond (is_resource a) 1 0) 0
    no_one (entry.Resource r) h = absurd cc
    no_one _ h = refl

    one : (a : Entry) (b : Resource) → resource_in a ≡ Some b → ◌≡◌ {A = ℕ} (cond (is_resource a) 1 0) 1
    one (entry.Resource r) b h = refl
    one _ b h = absurd cc

sum_units : (xs : List Entry) → sum_by entry_units xs ≡ sum_by (λ r. own_units r.makeup) (filter_map resource_in xs)
sum_units xs = sum_kind resource_in entry_units (λ r. own_units r.makeup) no_one one xs
  where
    no_one : (a : Entry) → resource_in a ≡ None → entry_units a ≡ 0
    no_one (entry.Resource r) h = absurd cc
    no_one _ h = refl

    one : (a : Entry) (b : Resource) → resource_in a ≡ Some b → entry_units a ≡ own_units b.makeup
    one (entry.Resource r) b h = (let e : r ≡ b = cc in ap (λ x. own_units x.makeup) e)
    one _ b h = absurd cc

good_if : (es : List Entry) (k : ℕ) (r : Resource) → k < length (resources_of es) → (i : ℕ) × IsKind resource_in entry.Resource es k r i → IsGood (resources_of es) k r
good_if es k r lt (i, at) =
    let ranges : _ = four_parts (is_outside (neg_ℤ (pos 1)) (pos 4096) r.buffer) (bad_units r.makeup) (nat_le 64 (count_by is_resource (take i es))) (nat_lt 256 (sum_by entry_units (take i es) + own_units r.makeup)) at.sound.in_range in
    let buffers : _ = inside (neg_ℤ (pos 1)) (pos 4096) r.buffer ranges.0 in
    let number : length (filter_map resource_in (take i es)) ≡ k = ap length at.before ∙ length-take k (resources_of es) ∙ omega (arith, lt) in
    let count : count_by is_resource (take i es) ≡ k = count_resources (take i es) ∙ number in
    let sum : sum_by entry_units (take i es) ≡ first_unit (resources_of es) k = sum_units (take i es) ∙ ap (λ xs. sum_by (λ x. own_units x.makeup) xs) at.before in
    let named : _ = or_parts (not r.in_model) (unknown_member r.makeup) at.sound.named in
    record {
      few = grind (arith, nat_tests, ranges.2, count);
      buffer_low = buffers.0;
      buffer_high = buffers.1;
      not_bad = ranges.1;
      units = grind (arith, nat_tests, ranges.3, sum);
      not_empty = at.sound.some_units;
      known = named.1;
      flat = at.sound.flat;
    }

pub good : (es : List Entry) → IsHealthy es → (k : ℕ) (r : Resource) → slice_get (resources_of es) k ≡ Some r → IsGood (resources_of es) k r
good es health k r h = good_if es k r (slice_get_within (resources_of es) k r h) (kind_of resource_in entry.Resource is_resource_entry es health k r h)

-- there are at most 64
last_few : (rs : List Resource) (n : ℕ) → length rs ≡ suc n → ((k : ℕ) (r : Resource) → slice_get rs k ≡ Some r → IsGood rs k r)
    → ((r : Resource) × (n < length rs) × (slice_get rs n ≡ Some r) × (get_or rs n r ≡ r)) ⊎ ((length rs ≤ n) × (slice_get rs n ≡ None)) → suc n ≤ 64
last_few rs n e all (inl (r, lt, at, _)) = omega (arith, (all n r at).few)
last_few rs n e all (inr (past, _)) = absurd (omega (arith, past, e))

few_if : (rs : List Resource) (n : ℕ) → length rs ≡ n → ((k : ℕ) (r : Resource) → slice_get rs k ≡ Some r → IsGood rs k r) → n ≤ 64
few_if rs zero e all = omega arith
few_if rs (suc n) e all = last_few rs n e all (slice_get_cases rs n).1

pub few : (rs : List Resource) → ((k : ℕ) (r : Resource) → slice_get rs k ≡ Some r → IsGood rs k r) → length rs ≤ 64
few rs all = few_if rs (length rs) refl all

-- all units are below 256
next_unit : (rs : List Resource) (n : ℕ) → first_unit rs (suc n) ≡ first_unit rs n + units_at (slice_get rs n)
next_unit [] zero = refl
next_unit [] (suc n) = refl
next_unit (r ∷ rs) zero = refl
next_unit (r ∷ rs) (suc n) = omega (arith, next_unit rs n, sum_by-cons (λ x. own_units x.makeup) r (take (suc n) rs), sum_by-cons (λ x. own_units x.makeup) r (take n rs))

fits_at : (rs : List Resource) (k : ℕ) (o : Option Resource) → slice_get rs k ≡ o → first_unit rs k ≤ 256 → ((j : ℕ) (r : Resource) → slice_get rs j ≡ Some r → IsGood rs j r) → first_unit rs k + units_at o ≤ 256
fits_at rs k None e low all = omega (arith, low)
fits_at rs k (Some r) e low all = (all k r e).units

pub low_first : (rs : List Resource) → ((j : ℕ) (r : Resource) → slice_get rs j ≡ Some r → IsGood rs j r) → (n : ℕ) → first_unit rs n ≤ 256
low_first rs all zero = omega arith
low_first rs all (suc n) = omega (arith, next_unit rs n, fits_at rs n (slice_get rs n) refl (low_first rs all n) all)

pub fits : (rs : List Resource) → ((j : ℕ) (r : Resource) → slice_get rs j ≡ Some r → IsGood rs j r) → Fits rs
fits rs all p = fits_at rs p (slice_get rs p) refl (low_first rs all p) all

-- each resource has a unit
units_grow : (rs : List Resource) (ps : List ℕ) (m : Option ℕ) → sum_by (λ p. units_at (slice_get rs p)) ps ≤ sum_by (λ p. units_at (slice_get rs p)) (with_part rs ps m)
units_grow rs ps None = omega arith
units_grow rs ps (Some p) = go (plain_at (slice_get rs p) && not (list_any (λ q. nat_eq q p) ps))
  where
    go : (b : Bool) → sum_by (λ x. units_at (slice_get rs x)) ps ≤ sum_by (λ x. units_at (slice_get rs x)) (if b then ps ++ p ∷ [] else ps)
    go true = omega (arith, sum_by-append (λ x. units_at (slice_get rs x)) ps (p ∷ []))
    go false = omega arith

all_grow : (rs : List Resource) (ps : List ℕ) (ms : List (Option ℕ)) → sum_by (λ p. units_at (slice_get rs p)) ps ≤ sum_by (λ p. units_at (slice_get rs p)) (with_parts rs ps ms)
all_grow rs ps [] = omega arith
all_grow rs ps (m ∷ ms) = omega (arith, units_grow rs ps m, all_grow rs (with_part rs ps m) ms)

own_some : (m : Makeup) → bad_units m ≡ false → is_empty_makeup m ≡ false → is_group m ≡ false → 0 < own_units m
own_some (makeup.Units n) bad empty flat = not_zero n ((true_from_not (int_le (pos 0) n) bad)) empty
own_some (makeup.Group ms) bad empty flat = absurd cc

-- the first member of a group is a ProcResource that has units
first_some : (rs : List Resource) (p : ℕ) (o : Option Resource) → slice_get rs p ≡ o → p < length rs → group_at o ≡ false → ((j : ℕ) (r : Resource) → slice_get rs j ≡ Some r → IsGood rs j r)
    → 0 < sum_by (λ x. units_at (slice_get rs x)) (with_part rs [] (Some p))
first_some rs p None e lt flat all = elim (slice_get_cases rs p).1 [
  | inl there ↦ (let clash : None ≡ Some there.0 = sym e ∙ there.2 in absurd cc)
  | inr past ↦ absurd (omega (arith, past.0, lt))
]
first_some rs p (Some r) e lt flat all =
    (let plain : plain_at (slice_get rs p) ≡ true = rw e (not_from_false (is_group r.makeup) flat) in
    let units : 0 < units_at (slice_get rs p) = rw e (own_some r.makeup (all p r e).not_bad (all p r e).not_empty flat) in
    rw plain (omega (arith, units, sum_by-cons (λ x. units_at (slice_get rs x)) p [])))

some_in : (rs : List Resource) (k : ℕ) (m : Makeup) → ((j : ℕ) (r : Resource) → slice_get rs j ≡ Some r → IsGood rs j r)
    → 0 < units_at (slice_get rs k) ⊎ (is_group m ≡ true) → is_empty_makeup m ≡ false → unknown_member m ≡ false → has_group rs m ≡ false → ((p : ℕ) → Contains (members_of m) (Some p) → p < length rs)
    → 0 < sum_by (λ p. units_at (slice_get rs p)) (parts_in rs k m)
some_in rs k (makeup.Units n) all (inl own) empty known flat low = omega (arith, own, sum_by-cons (λ x. units_at (slice_get rs x)) k [])
some_in rs k (makeup.Units n) all (inr group) empty known flat low = absurd cc
some_in rs k (makeup.Group []) all own empty known flat low = let clash : true ≡ false = empty in absurd cc
some_in rs k (makeup.Group (None ∷ ms)) all own empty known flat low = let clash : true ≡ false = known in absurd cc
some_in rs k (makeup.Group (Some p ∷ ms)) all own empty known flat low =
    (let lt : p < length rs = low p (0, omega arith, refl) in
    let plain : group_at (slice_get rs p) ≡ false = (or_parts (group_at (slice_get rs p)) (list_any (is_group_member rs) ms) flat).0 in
    omega (arith, first_some rs p (slice_get rs p) refl lt plain all, all_grow rs (with_part rs [] (Some p)) ms))

own_or_group : (rs : List Resource) (k : ℕ) (r : Resource) → slice_get rs k ≡ Some r → (b : Bool) → is_group r.makeup ≡ b → IsGood rs k r → (0 < units_at (slice_get rs k)) ⊎ (is_group r.makeup ≡ true)
own_or_group rs k r e true g is = inr g
own_or_group rs k r e false g is = inl (rw e (own_some r.makeup is.not_bad is.not_empty g))

pub some_total : (rs : List Resource) → ((j : ℕ) (r : Resource) → slice_get rs j ≡ Some r → IsGood rs j r)
    → (k : ℕ) (r : Resource) → slice_get rs k ≡ Some r → ((p : ℕ) → Contains (members_of r.makeup) (Some p) → p < length rs) → 0 < total rs k
some_total rs all k r e low = (let is : _ = all k r e in
    rw e (some_in rs k r.makeup all (own_or_group rs k r e (is_group r.makeup) refl is) is.not_empty is.known is.flat low))
