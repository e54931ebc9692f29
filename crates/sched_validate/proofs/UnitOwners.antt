-- The owner of a unit has it, at the place that is told.
use Rattle.std.proofs.Common.{◌≡◌, ℕ, ◌+◌, ◌-◌, ◌<◌, ◌≤◌, suc, List, [], ◌∷◌, length, Bool, true, false, None, Some, refl, sym, subst, ◌∙◌, ap, arith}
use Rattle.std.specs.Prelude.{Option, ◌&&◌, ◌||◌, nat_lt, nat_le, take, slice_get, sum_by, if◌then◌else◌}
use Rattle.std.proofs.lemmas.Bool.Decides.{nat_tests}
use Rattle.std.proofs.lemmas.List.{take_all}
use Rattle.std.proofs.lemmas.List.Sums.{sum_by-cons}
use Rattle.std.proofs.lemmas.Option.{slice_get_within}
use Rattle.unit_sets.specs.Below.{count_below}
use Rattle.unit_sets.proofs.Count.{count-same}
use Rattle.machine_model.specs.declared.answers.UnitOwner.{UnitOwner}
use Rattle.sched_checks.specs.Resources.{own_units, units_at, is_group, group_at, parts_in, parts}
use Rattle.sched_resolve.specs.declared.entry.Makeup.{Makeup}
use Rattle.sched_resolve.specs.declared.entry.Makeup.TheVariants as makeup
use Rattle.sched_resolve.specs.declared.entry.Resource.{Resource}
use Rattle.sched_validate.specs.Units.{first_unit, owns, has_unit, owner_from, owner_of}
use Rattle.sched_validate.proofs.Counts.{count_interval}
use Rattle.sched_validate.proofs.UnitCounts.{in_turn, owned}

-- of the resources from number k on, whose units begin at first: the j-th has the unit
pub record OwnsUnit (rs : List Resource) (k first u : ℕ) (o : UnitOwner) (j : ℕ) (r : Resource) : Type 0 where
  pub at : slice_get rs j ≡ Some r
  pub number : o.resource ≡ k + j
  pub low : first + first_unit rs j ≤ u
  pub high : u < first + first_unit rs j + own_units r.makeup
  pub place : o.place ≡ u - (first + first_unit rs j)

later_owner : (r : Resource) (rs : List Resource) (k first u : ℕ) (o : UnitOwner) → (j : ℕ) × (x : Resource) × OwnsUnit rs (k + 1) (first + own_units r.makeup) u o j x
    → (j : ℕ) × (x : Resource) × OwnsUnit (r ∷ rs) k first u o j x
later_owner r rs k first u o (j, x, h) = (let step : first_unit (r ∷ rs) (suc j) ≡ own_units r.makeup + first_unit rs j = sum_by-cons (λ y. own_units y.makeup) r (take j rs) in
    (suc j, x, record { at = h.at; number = omega (arith, h.number); low = omega (arith, h.low, step); high = omega (arith, h.high, step); place = omega (arith, h.place, step) }))

owner_if : (r : Resource) (rs : List Resource) (k first u : ℕ) (o : UnitOwner) → first ≤ u → (b : Bool) → nat_lt u (first + own_units r.makeup) ≡ b
    → (if b then Some (record { resource = k; place = u - first }) else owner_from rs (k + 1) (first + own_units r.makeup) u) ≡ Some o
    → (first + own_units r.makeup ≤ u → owner_from rs (k + 1) (first + own_units r.makeup) u ≡ Some o → (j : ℕ) × (x : Resource) × OwnsUnit rs (k + 1) (first + own_units r.makeup) u o j x)
    → (j : ℕ) × (x : Resource) × OwnsUnit (r ∷ rs) k first u o j x
owner_if r rs k first u o low true e h rest = (let same : ◌≡◌ {A = UnitOwner} (record { resource = k; place = u - first }) o = cc in
    let a : k ≡ o.resource = ap (λ x. x.resource) same in
    let b : u - first ≡ o.place = ap (λ x. x.place) same in
    let lt : u < first + own_units r.makeup = grind (arith, nat_tests, e) in
    (0, r, record { at = refl; number = omega (arith, a); low = omega (arith, low); high = omega (arith, lt); place = omega (arith, b) }))
owner_if r rs k first u o low false e h rest = later_owner r rs k first u o (rest (grind (arith, nat_tests, e)) h)

pub owner_at : (rs : List Resource) (k first u : ℕ) (o : UnitOwner) → first ≤ u → owner_from rs k first u ≡ Some o → (j : ℕ) × (x : Resource) × OwnsUnit rs k first u o j x
owner_at [] k first u o low h = absurd cc
owner_at (r ∷ rs) k first u o low h = owner_if r rs k first u o low (nat_lt u (first + own_units r.makeup)) refl h (owner_at rs (k + 1) (first + own_units r.makeup) u o)

-- what the law says of an owner
pub record IsOwned (rs : List Resource) (u : ℕ) (o : UnitOwner) : Type 0 where
  pub resource : o.resource < length rs
  pub plain : group_at (slice_get rs o.resource) ≡ false
  pub has : has_unit rs o.resource u ≡ true
  pub place : o.place ≡ count_below u (has_unit rs o.resource)

plain_parts : (rs : List Resource) (k : ℕ) (m : Makeup) → is_group m ≡ false → parts_in rs k m ≡ k ∷ []
plain_parts rs k (makeup.Units n) e = refl
plain_parts rs k (makeup.Group ms) e = absurd cc

own_plain : (m : Makeup) → 0 < own_units m → is_group m ≡ false
own_plain (makeup.Units n) h = refl
own_plain (makeup.Group ms) h = absurd (omega (arith, h))

has_own : (rs : List Resource) (k v : ℕ) → parts rs k ≡ k ∷ [] → has_unit rs k v ≡ owns rs v k
has_own rs k v e = rw e (one (owns rs v k))
  where
    one : (b : Bool) → (b || false) ≡ b
    one true = refl
    one false = refl

owned_if : (rs : List Resource) (u : ℕ) (o : UnitOwner) → (j : ℕ) × (x : Resource) × OwnsUnit rs 0 0 u o j x → IsOwned rs u o
owned_if rs u o (j, x, h) =
    let same : o.resource ≡ j = omega (arith, h.number) in
    let plain : is_group x.makeup ≡ false = own_plain x.makeup (omega (arith, h.low, h.high)) in
    let alone : parts rs j ≡ j ∷ [] = rw h.at (plain_parts rs j x.makeup plain) in
    let units : units_at (slice_get rs j) ≡ own_units x.makeup = rw h.at refl in
    let lt : _ = slice_get_within rs j x h.at in
    let inside : owns rs u j ≡ true = grind (arith, nat_tests, h.low, h.high, units) in
    let mine : has_unit rs j u ≡ true = has_own rs j u alone ∙ inside in
    let count : count_below u (has_unit rs j) ≡ u - first_unit rs j = count-same u (has_unit rs j) (λ v. nat_le (first_unit rs j) v && nat_lt v (first_unit rs j + (u - first_unit rs j)))
    (λ v low. has_own rs j v alone ∙ grind (arith, nat_tests, low, h.low, h.high, units)) ∙ count_interval u (first_unit rs j) (u - first_unit rs j) (omega (arith, h.low)) in
    record {
      resource = omega (arith, same, lt);
      plain = subst (λ r. group_at (slice_get rs r) ≡ false) (sym same) (rw h.at plain);
      has = subst (λ r. has_unit rs r u ≡ true) (sym same) mine;
      place = subst (λ r. o.place ≡ count_below u (has_unit rs r)) (sym same) (omega (arith, count, h.place));
    }

pub owned_by : (rs : List Resource) (u : ℕ) (o : UnitOwner) → owner_of rs u ≡ Some o → IsOwned rs u o
owned_by rs u o h = owned_if rs u o (owner_at rs 0 0 u o (omega arith) h)

-- where a unit has no owner, all units that resources have of their own stand below it
past_if : (r : Resource) (rs : List Resource) (k first u : ℕ) (b : Bool) → nat_lt u (first + own_units r.makeup) ≡ b
    → (if b then Some (record { resource = k; place = u - first }) else owner_from rs (k + 1) (first + own_units r.makeup) u) ≡ None
    → (first + own_units r.makeup ≤ u → owner_from rs (k + 1) (first + own_units r.makeup) u ≡ None → first + own_units r.makeup + sum_by (λ y. own_units y.makeup) rs ≤ u)
    → first + sum_by (λ y. own_units y.makeup) (r ∷ rs) ≤ u
past_if r rs k first u true e h rest = absurd cc
past_if r rs k first u false e h rest = omega (arith, sum_by-cons (λ y. own_units y.makeup) r rs, rest (grind (arith, nat_tests, e)) h)

past_all : (rs : List Resource) (k first u : ℕ) → first ≤ u → owner_from rs k first u ≡ None → first + sum_by (λ y. own_units y.makeup) rs ≤ u
past_all [] k first u low h = omega (arith, low)
past_all (r ∷ rs) k first u low h = past_if r rs k first u (nat_lt u (first + own_units r.makeup)) refl h (past_all rs (k + 1) (first + own_units r.makeup) u)

has_plain : (rs : List Resource) (k u : ℕ) (o : Option Resource) → slice_get rs k ≡ o → group_at o ≡ false → has_unit rs k u ≡ true → (k < length rs) × (owns rs u k ≡ true)
has_plain rs k u None e plain h = (let clash : false ≡ true = rw e at h in absurd cc)
has_plain rs k u (Some r) e plain h = (let alone : parts rs k ≡ k ∷ [] = rw e (plain_parts rs k r.makeup plain) in
    (slice_get_within rs k r e, sym (has_own rs k u alone) ∙ h))

unowned_if : (rs : List Resource) (u k : ℕ) → owner_of rs u ≡ None → group_at (slice_get rs k) ≡ false → (b : Bool) → has_unit rs k u ≡ b → b ≡ false
unowned_if rs u k none plain false h = refl
unowned_if rs u k none plain true h =
    let has : _ = has_plain rs k u (slice_get rs k) refl plain h in
    let past : 0 + sum_by (λ y. own_units y.makeup) rs ≤ u = past_all rs 0 0 u (omega arith) none in
    let whole : first_unit rs (length rs) ≡ sum_by (λ y. own_units y.makeup) rs = ap (sum_by (λ y. own_units y.makeup)) (take_all (length rs) rs (omega arith)) in
    absurd (omega (arith, (owned rs u k has.1).1, in_turn rs k (length rs) has.0, whole, past))

pub unowned : (rs : List Resource) (u k : ℕ) → owner_of rs u ≡ None → group_at (slice_get rs k) ≡ false → has_unit rs k u ≡ false
unowned rs u k none plain = unowned_if rs u k none plain (has_unit rs k u) refl
