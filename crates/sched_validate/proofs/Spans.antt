-- The units of the resources as they are laid out are those that the definitions of a table tell.
use Rattle.std.proofs.Common.{◌≡◌, ℕ, ℤ, ◌+◌, ◌<◌, ◌≤◌, zero, suc, List, [], ◌∷◌, ◌++◌, length, map, take, get_or, Bool, true, false, None, Some, Bor, refl, sym, subst, ◌∙◌, ap, arith}
use Rattle.std.specs.Prelude.{Option, ◌&&◌, ◌||◌, nat_lt, nat_le, not, slice_get, sum_by, All, Contains, if◌then◌else◌}
use Rattle.std.specs.List.{list_any}
use Rattle.std.specs.Option.{option_map}
use Rattle.std.proofs.lemmas.Bool.Decides.{nat_tests}
use Rattle.std.proofs.lemmas.List.{length-map}
use Rattle.std.proofs.lemmas.List.Elements.{All-nil, All-cons, Contains-get_or}
use Rattle.std.proofs.lemmas.List.Folds.{list_any-append}
use Rattle.std.proofs.lemmas.List.Sums.{sum_by-cons}
use Rattle.std.proofs.lemmas.Option.{slice_get-map, slice_get-get_or}
use Rattle.sched_checks.specs.Resources.{own_units, units_at, is_group, plain_at, with_part, with_parts, parts_in, parts_at, parts}
use Rattle.sched_resolve.specs.declared.entry.Makeup.{Makeup}
use Rattle.sched_resolve.specs.declared.entry.Makeup.TheVariants as makeup
use Rattle.sched_resolve.specs.declared.entry.Resource.{Resource}
use Rattle.sched_validate.specs.Places.{members_of, IsPlace}
use Rattle.sched_validate.specs.Spans.{span_at, is_within, spans_from, spans_of, in_member}
use Rattle.sched_validate.specs.Units.{first_unit, owns, has_unit}
use Rattle.sched_validate.specs.declared.layout.Span.{Span}
use Rattle.sched_validate.proofs.ListTests.{is_in, any_at}

-- there is one for each resource
pub spans_count : (rs : List Resource) (first : ℕ) → length (spans_from rs first) ≡ length rs
spans_count [] first = refl
spans_count (r ∷ rs) first = ap suc (spans_count rs (first + own_units r.makeup))

-- no unit is 256 or more
pub spans_fit : (rs : List Resource) (first : ℕ) → first + sum_by (λ r. own_units r.makeup) rs ≤ 256 → All (λ s. s.first + s.count ≤ 256) (spans_from rs first)
spans_fit [] first h = All-nil (λ s. s.first + s.count ≤ 256)
spans_fit (r ∷ rs) first h = (let step : sum_by (λ x. own_units x.makeup) (r ∷ rs) ≡ own_units r.makeup + sum_by (λ x. own_units x.makeup) rs = sum_by-cons (λ x. own_units x.makeup) r rs in
    All-cons (λ s. s.first + s.count ≤ 256) (record { first = first; count = own_units r.makeup }) (spans_from rs (first + own_units r.makeup)) (omega (arith, h, step))
    (spans_fit rs (first + own_units r.makeup) (omega (arith, h, step))))

no_interval : (a v : ℕ) → (nat_le a v && nat_lt v (a + 0)) ≡ false
no_interval a v = grind (arith, nat_tests)

same_interval : (a b n v : ℕ) → a ≡ b → (nat_le a v && nat_lt v (a + n)) ≡ (nat_le b v && nat_lt v (b + n))
same_interval a b n v e = ap (λ x. nat_le x v && nat_lt v (x + n)) e

within_from : (rs : List Resource) (first p v : ℕ) → is_within (span_at (spans_from rs first) p) v ≡ (nat_le (first + first_unit rs p) v && nat_lt v (first + first_unit rs p + units_at (slice_get rs p)))
within_from [] first zero v = no_interval 0 v ∙ sym (no_interval (first + first_unit [] zero) v)
within_from [] first (suc p) v = no_interval 0 v ∙ sym (no_interval (first + first_unit [] (suc p)) v)
within_from (r ∷ rs) first zero v = same_interval first (first + first_unit (r ∷ rs) zero) (own_units r.makeup) v (omega arith)
within_from (r ∷ rs) first (suc p) v = (let step : first_unit (r ∷ rs) (suc p) ≡ own_units r.makeup + first_unit rs p = sum_by-cons (λ x. own_units x.makeup) r (take p rs) in
    within_from rs (first + own_units r.makeup) p v
    ∙ same_interval (first + own_units r.makeup + first_unit rs p) (first + first_unit (r ∷ rs) (suc p)) (units_at (slice_get rs p)) v (omega (arith, step)))

pub within_owned : (rs : List Resource) (p v : ℕ) → is_within (span_at (spans_of rs) p) v ≡ owns rs v p
within_owned rs p v = within_from rs 0 p v ∙ same_interval (0 + first_unit rs p) (first_unit rs p) (units_at (slice_get rs p)) v (omega arith)

-- a group has no units of its own
no_own : (m : Makeup) → is_group m ≡ true → own_units m ≡ 0
no_own (makeup.Units n) h = absurd cc
no_own (makeup.Group ms) h = refl

none_of_group : (o : Option Resource) → plain_at o ≡ false → units_at o ≡ 0
none_of_group None h = refl
none_of_group (Some r) h = no_own r.makeup (not_not (is_group r.makeup) h)
  where
    not_not : (b : Bool) → not b ≡ false → b ≡ true
    not_not true e = refl
    not_not false e = absurd cc

group_owns_none : (rs : List Resource) (p v : ℕ) → plain_at (slice_get rs p) ≡ false → owns rs v p ≡ false
group_owns_none rs p v h = ap (λ n. nat_le (first_unit rs p) v && nat_lt v (first_unit rs p + n)) (none_of_group (slice_get rs p) h) ∙ no_interval (first_unit rs p) v

or_false : (a : Bool) → (a || false) ≡ a
or_false true = refl
or_false false = refl

or_same : (a b : Bool) → (b ≡ true → a ≡ true) → a ≡ (a || b)
or_same true b h = refl
or_same false true h = h refl
or_same false false h = refl

or_group : (a b c : Bool) → ((a || b) || c) ≡ (a || (b || c))
or_group true b c = refl
or_group false b c = refl

-- the units of the parts are those of the members
part_units : (rs : List Resource) (ps : List ℕ) (v : ℕ) (m : Option ℕ) → list_any (owns rs v) (with_part rs ps m) ≡ (list_any (owns rs v) ps || in_member (spans_of rs) v m)
part_units rs ps v None = sym (or_false (list_any (owns rs v) ps))
part_units rs ps v (Some p) = go (plain_at (slice_get rs p)) (is_in ps p) refl refl ∙ ap (λ b. list_any (owns rs v) ps || b) (sym (within_owned rs p v))
  where
    go : (a b : Bool) → plain_at (slice_get rs p) ≡ a → is_in ps p ≡ b → list_any (owns rs v) (if a && not b then ps ++ p ∷ [] else ps) ≡ (list_any (owns rs v) ps || owns rs v p)
    go true false plain out = list_any-append (owns rs v) ps (p ∷ []) ∙ ap (λ b. list_any (owns rs v) ps || b) (or_false (owns rs v p))
    go true true plain there = or_same (list_any (owns rs v) ps) (owns rs v p) (λ mine. any_at (owns rs v) ps p there mine)
    go false b plain _ = sym (ap (λ x. list_any (owns rs v) ps || x) (group_owns_none rs p v plain) ∙ or_false (list_any (owns rs v) ps))

pub parts_units : (rs : List Resource) (ps : List ℕ) (v : ℕ) (ms : List (Option ℕ)) → list_any (owns rs v) (with_parts rs ps ms) ≡ (list_any (owns rs v) ps || list_any (in_member (spans_of rs) v) ms)
parts_units rs ps v [] = sym (or_false (list_any (owns rs v) ps))
parts_units rs ps v (m ∷ ms) = parts_units rs (with_part rs ps m) v ms ∙ ap (λ b. b || list_any (in_member (spans_of rs) v) ms) (part_units rs ps v m)
    ∙ or_group (list_any (owns rs v) ps) (in_member (spans_of rs) v m) (list_any (in_member (spans_of rs) v) ms)

-- a resource's units
pub units_of_one : (rs : List Resource) (k v : ℕ) (r : Resource) (n : ℤ) → slice_get rs k ≡ Some r → r.makeup ≡ makeup.Units n → has_unit rs k v ≡ (is_within (span_at (spans_of rs) k) v || false)
units_of_one rs k v r n at made = ap (list_any (owns rs v)) alone ∙ ap (λ b. b || false) (sym (within_owned rs k v))
  where
    alone : parts rs k ≡ k ∷ []
    alone = ap (parts_at rs k) at ∙ ap (parts_in rs k) made

pub units_of_group : (rs : List Resource) (k v : ℕ) (r : Resource) (ms : List (Option ℕ)) → slice_get rs k ≡ Some r → r.makeup ≡ makeup.Group ms → has_unit rs k v ≡ list_any (in_member (spans_of rs) v) ms
units_of_group rs k v r ms at made = ap (list_any (owns rs v)) (ap (parts_at rs k) at ∙ ap (parts_in rs k) made) ∙ parts_units rs [] v ms

-- the same of references to the resources
pub resource_at : (xs : List (Bor Resource)) (k : ℕ) (d : Bor Resource) → k < length xs → slice_get (map (λ r. r.now) xs) k ≡ Some (get_or xs k d).now
resource_at xs k d lt = slice_get-map (λ r. r.now) xs k ∙ ap (option_map (λ r. r.now)) (slice_get-get_or xs k d lt)

pub spans_many : (xs : List (Bor Resource)) (spans : List Span) → spans ≡ spans_of (map (λ r. r.now) xs) → length spans ≡ length xs
spans_many xs spans e = ap length e ∙ spans_count (map (λ r. r.now) xs) 0 ∙ length-map xs (λ r. r.now)

pub spans_low : (rs : List Resource) (spans : List Span) → spans ≡ spans_of rs → sum_by (λ r. own_units r.makeup) rs ≤ 256 → All (λ s. s.first + s.count ≤ 256) spans
spans_low rs spans e h = subst (All (λ s. s.first + s.count ≤ 256)) (sym e) (spans_fit rs 0 (omega (arith, h)))

pub members_known : (n : ℕ) (r : Resource) (ms : List (Option ℕ)) → r.makeup ≡ makeup.Group ms → ((p : ℕ) → Contains (members_of r.makeup) (Some p) → p < n) → All (IsPlace n) ms
members_known n r ms made h = λ j d lt p e. h p (subst (λ m. Contains (members_of m) (Some p)) (sym made) (subst (Contains ms) e (Contains-get_or ms j d lt)))
