-- The units of the resources: each has as many as its parts have, and two share one where they share a part that has units.
use Rattle.std.proofs.Common.{◌≡◌, ℕ, ◌+◌, ◌<◌, ◌≤◌, zero, suc, List, [], ◌∷◌, ◌++◌, Bool, true, false, None, Some, refl, sym, subst, ◌∙◌, arith, inl, inr}
use Rattle.std.specs.Prelude.{Option, ◌&&◌, nat_lt, nat_le, not, take, slice_get, sum_by, if◌then◌else◌}
use Rattle.std.specs.List.{list_any}
use Rattle.std.proofs.lemmas.Bool.Decides.{nat_tests}
use Rattle.std.proofs.lemmas.Bool.{and_parts, and_from, cases_order}
use Rattle.std.proofs.lemmas.List.Sums.{sum_by-cons}
use Rattle.unit_sets.specs.Below.{count_below}
use Rattle.sched_checks.specs.Resources.{own_units, units_at, plain_at, with_part, with_parts, parts_in, parts_at, parts, total, share}
use Rattle.sched_resolve.specs.declared.entry.Makeup.{Makeup}
use Rattle.sched_resolve.specs.declared.entry.Makeup.TheVariants as makeup
use Rattle.sched_resolve.specs.declared.entry.Resource.{Resource}
use Rattle.sched_validate.specs.Units.{first_unit, owns, has_unit}
use Rattle.sched_validate.proofs.Counts.{count_none, count_interval, count_or, count_some, some_count}
use Rattle.sched_validate.proofs.ListTests.{bool_same, is_in, any_some, any_at, IsDistinct, distinct_more}

-- all units are below 256
abbrev pub Fits : List Resource → Type 0
Fits rs = (p : ℕ) → first_unit rs p + units_at (slice_get rs p) ≤ 256

-- the units of one resource stand before those of a later one
pub in_turn : (rs : List Resource) (p q : ℕ) → p < q → first_unit rs p + units_at (slice_get rs p) ≤ first_unit rs q
in_turn [] zero q lt = omega arith
in_turn [] (suc p) q lt = omega arith
in_turn (r ∷ rs) p zero lt = absurd (omega (arith, lt))
in_turn (r ∷ rs) zero (suc q) lt = omega (arith, sum_by-cons (λ x. own_units x.makeup) r (take q rs))
in_turn (r ∷ rs) (suc p) (suc q) lt = omega (arith, in_turn rs p q (omega (arith, lt)), sum_by-cons (λ x. own_units x.makeup) r (take q rs), sum_by-cons (λ x. own_units x.makeup) r (take p rs))

pub owned : (rs : List Resource) (u p : ℕ) → owns rs u p ≡ true → (first_unit rs p ≤ u) × (u < first_unit rs p + units_at (slice_get rs p))
owned rs u p h = (let parts : _ = and_parts (nat_le (first_unit rs p) u) (nat_lt u (first_unit rs p + units_at (slice_get rs p))) h in
    (grind (arith, nat_tests, parts.0), grind (arith, nat_tests, parts.1)))

-- a unit has one owner
pub one_owner : (rs : List Resource) (u p q : ℕ) → owns rs u p ≡ true → owns rs u q ≡ true → p ≡ q
one_owner rs u p q hp hq = (let a : _ = owned rs u p hp in let b : _ = owned rs u q hq in
    elim (cases_order p q) [
      | inl same ↦ same
      | inr (inl low) ↦ absurd (omega (arith, a.0, a.1, b.0, b.1, in_turn rs p q low))
      | inr (inr high) ↦ absurd (omega (arith, a.0, a.1, b.0, b.1, in_turn rs q p high))
    ])

-- the parts of a resource are distinct
part_distinct : (rs : List Resource) (ps : List ℕ) (m : Option ℕ) → IsDistinct ps → IsDistinct (with_part rs ps m)
part_distinct rs ps None h = h
part_distinct rs ps (Some p) h = go (plain_at (slice_get rs p)) (is_in ps p) refl
  where
    go : (a b : Bool) → is_in ps p ≡ b → IsDistinct (if a && not b then ps ++ p ∷ [] else ps)
    go true false e = distinct_more ps p h e
    go true true e = h
    go false b e = h

parts_distinct : (rs : List Resource) (ps : List ℕ) (ms : List (Option ℕ)) → IsDistinct ps → IsDistinct (with_parts rs ps ms)
parts_distinct rs ps [] h = h
parts_distinct rs ps (m ∷ ms) h = parts_distinct rs (with_part rs ps m) ms (part_distinct rs ps m h)

distinct_in : (rs : List Resource) (k : ℕ) (m : Makeup) → IsDistinct (parts_in rs k m)
distinct_in rs k (makeup.Units n) = (refl, tt)
distinct_in rs k (makeup.Group members) = parts_distinct rs [] members tt

distinct_at : (rs : List Resource) (k : ℕ) (o : Option Resource) → IsDistinct (parts_at rs k o)
distinct_at rs k None = tt
distinct_at rs k (Some r) = distinct_in rs k r.makeup

-- so a resource has as many units as its parts
count_parts : (rs : List Resource) → Fits rs → (ps : List ℕ) → IsDistinct ps → count_below 256 (λ u. list_any (owns rs u) ps) ≡ sum_by (λ p. units_at (slice_get rs p)) ps
count_parts rs fits [] h = count_none 256 _ (λ v lt. refl)
count_parts rs fits (p ∷ ps) h = (let rest : _ = count_parts rs fits ps h.1 in
    let one : _ = count_interval 256 (first_unit rs p) (units_at (slice_get rs p)) (fits p) in
    let both : _ = count_or 256 (λ u. owns rs u p) (λ u. list_any (owns rs u) ps) (λ u mine others. never u mine (any_some (owns rs u) ps others)) in
    omega (arith, both, one, rest, sum_by-cons (λ q. units_at (slice_get rs q)) p ps))
  where
    never : (u : ℕ) → owns rs u p ≡ true → (q : ℕ) × (owns rs u q ≡ true) × (is_in ps q ≡ true) → ⊥
    never u mine (q, his, there) = (let same : p ≡ q = one_owner rs u p q mine his in
        let out : is_in ps q ≡ false = subst (λ x. is_in ps x ≡ false) same h.0 in
        let clash : true ≡ false = sym there ∙ out in cc)

pub units_counted : (rs : List Resource) → Fits rs → (r : ℕ) → count_below 256 (has_unit rs r) ≡ total rs r
units_counted rs fits r = count_parts rs fits (parts rs r) (distinct_at rs r (slice_get rs r))

-- two resources share a unit where they share a part that has units
shared_part : (rs : List Resource) (q r : ℕ) → (u : ℕ) × (u < 256) × ((has_unit rs q u && has_unit rs r u) ≡ true) → share rs q r ≡ true
shared_part rs q r (u, lt, h) = go (any_some (owns rs u) (parts rs q) (and_parts _ _ h).0) (any_some (owns rs u) (parts rs r) (and_parts _ _ h).1)
  where
    go : (p : ℕ) × (owns rs u p ≡ true) × (is_in (parts rs q) p ≡ true) → (s : ℕ) × (owns rs u s ≡ true) × (is_in (parts rs r) s ≡ true) → share rs q r ≡ true
    go (p, mine, here) (s, his, there) = (let same : p ≡ s = one_owner rs u p s mine his in
        let a : _ = owned rs u p mine in
        let some : nat_lt 0 (units_at (slice_get rs p)) ≡ true = (let low : 0 < units_at (slice_get rs p) = omega (arith, a.0, a.1) in grind (arith, nat_tests, low)) in
        let too : is_in (parts rs r) p ≡ true = subst (λ x. is_in (parts rs r) x ≡ true) (sym same) there in
        any_at (λ x. nat_lt 0 (units_at (slice_get rs x)) && is_in (parts rs r) x) (parts rs q) p here (and_from _ _ some too))

shared_unit : (rs : List Resource) (q r : ℕ) → Fits rs → (p : ℕ) × ((nat_lt 0 (units_at (slice_get rs p)) && is_in (parts rs r) p) ≡ true) × (is_in (parts rs q) p ≡ true)
    → 0 < count_below 256 (λ u. has_unit rs q u && has_unit rs r u)
shared_unit rs q r fits (p, h, here) = (let parted : _ = and_parts (nat_lt 0 (units_at (slice_get rs p))) (is_in (parts rs r) p) h in
    let some : 0 < units_at (slice_get rs p) = grind (arith, nat_tests, parted.0) in
    let mine : owns rs (first_unit rs p) p ≡ true = grind (arith, nat_tests, some) in
    some_count 256 (first_unit rs p) (λ u. has_unit rs q u && has_unit rs r u) (omega (arith, fits p, some))
    (and_from _ _ (any_at (owns rs (first_unit rs p)) (parts rs q) p here mine) (any_at (owns rs (first_unit rs p)) (parts rs r) p parted.1 mine)))

pub shares_counted : (rs : List Resource) → Fits rs → (q r : ℕ) → nat_lt 0 (count_below 256 (λ u. has_unit rs q u && has_unit rs r u)) ≡ share rs q r
shares_counted rs fits q r = bool_same _ _
    (λ h. shared_part rs q r (count_some 256 (λ u. has_unit rs q u && has_unit rs r u) (grind (arith, nat_tests, h))))
    (λ h. (let low : _ = shared_unit rs q r fits (any_some (λ p. nat_lt 0 (units_at (slice_get rs p)) && is_in (parts rs r) p) (parts rs q) h) in grind (arith, nat_tests, low)))

-- no unit is past the last
low_if : (rs : List Resource) (u : ℕ) (ps : List ℕ) → Fits rs → (p : ℕ) × (owns rs u p ≡ true) × (is_in ps p ≡ true) → u < 256
low_if rs u ps fits (p, mine, there) = (let a : _ = owned rs u p mine in omega (arith, a.1, fits p))

pub units_are_low : (rs : List Resource) → Fits rs → (r u : ℕ) → has_unit rs r u ≡ true → u < 256
units_are_low rs fits r u h = low_if rs u (parts rs r) fits (any_some (owns rs u) (parts rs r) h)
