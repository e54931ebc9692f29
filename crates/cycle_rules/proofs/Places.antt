-- The uses of a row that took units, one by one, and the place after the last unit of a resource.
use Rattle.std.proofs.Common.{◌≡◌, ℕ, ◌+◌, ◌<◌, ◌≤◌, inl, inr, List, [], ◌∷◌, ◌++◌, length, drop, arith, sym, ◌∙◌, ap, refl, Bool, true, false, ◌||◌}
use Rattle.std.specs.Prelude.{nat_eq, slice_index_or, if◌then◌else◌}
use Rattle.std.specs.List.{list_any}
use Rattle.std.proofs.Math.ListN.{drop_of_length-le}
use Rattle.std.proofs.lemmas.List.{drop_more}
use Rattle.std.proofs.lemmas.List.Folds.{list_any-append}
use Rattle.std.proofs.lemmas.Bool.Decides.{nat_tests}
use Rattle.std.proofs.lemmas.Bool.{cases_Bool}
use Rattle.machine_model.specs.declared.facts.Use.{Use}
use Rattle.cycle_rules.specs.Given.{later_place}
use Rattle.cycle_rules.specs.Pick.{Taken, taken_by, place_after}
use Rattle.cycle_rules.proofs.Tests.{or_parts}

pub taken_nothing : (from : ℕ) (uses : List Use) → taken_by from uses [] ≡ []
unfolding taken_by
taken_nothing from [] = refl
taken_nothing from (w ∷ ws) = refl

pub taken_no_uses : (from : ℕ) (units : List ℕ) → taken_by from [] units ≡ []
unfolding taken_by
taken_no_uses from units = refl

pub taken_over : (from i : ℕ) (uses : List Use) (units : List ℕ) → length units ≤ i → taken_by from (drop i uses) (drop i units) ≡ []
taken_over from i uses units le = ap (taken_by from (drop i uses)) (drop_of_length-le units le) ∙ taken_nothing from (drop i uses)

pub taken_past : (from i : ℕ) (uses : List Use) (units : List ℕ) → length uses ≤ i → taken_by from (drop i uses) (drop i units) ≡ []
taken_past from i uses units le = ap (λ ws. taken_by from ws (drop i units)) (drop_of_length-le uses le) ∙ taken_no_uses from (drop i units)

one_more : (from : ℕ) (w : Use) (ws : List Use) (u : ℕ) (us : List ℕ) → taken_by from (w ∷ ws) (u ∷ us) ≡ taken_by from (w ∷ []) (u ∷ []) ++ taken_by from ws us
unfolding taken_by
one_more from w ws u us = elim (cases_Bool (nat_eq w.hold 0)) [ inl none ↦ rw none refl | inr some ↦ rw some refl ]

pub taken_step : (from i : ℕ) (uses : List Use) (units : List ℕ) (d : Use) (e : ℕ) → i < length uses → i < length units
    → taken_by from (drop i uses) (drop i units) ≡ taken_by from (slice_index_or uses i d ∷ []) (slice_index_or units i e ∷ []) ++ taken_by from (drop (i + 1) uses) (drop (i + 1) units)
taken_step from i uses units d e lu ln = (λ m. taken_by from (drop_more uses i d lu m) (drop_more units i e ln m)) ∙ one_more from (slice_index_or uses i d) (drop (i + 1) uses) (slice_index_or units i e) (drop (i + 1) units)

-- Whether one of them passes a test

pub any_step : (f : Taken → Bool) (from i : ℕ) (uses : List Use) (units : List ℕ) (d : Use) (e : ℕ) → i < length uses → i < length units → list_any f (taken_by from (slice_index_or uses i d ∷ []) (slice_index_or units i e ∷ [])) ≡ false
    → list_any f (taken_by from (drop i uses) (drop i units)) ≡ list_any f (taken_by from (drop (i + 1) uses) (drop (i + 1) units))
any_step f from i uses units d e lu ln none =
    ap (list_any f) (taken_step from i uses units d e lu ln)
    ∙ list_any-append f (taken_by from (slice_index_or uses i d ∷ []) (slice_index_or units i e ∷ [])) (taken_by from (drop (i + 1) uses) (drop (i + 1) units))
    ∙ rw none refl

pub any_found : (f : Taken → Bool) (from i : ℕ) (uses : List Use) (units : List ℕ) (d : Use) (e : ℕ) → i < length uses → i < length units → list_any f (taken_by from (slice_index_or uses i d ∷ []) (slice_index_or units i e ∷ [])) ≡ true
    → list_any f (taken_by from (drop i uses) (drop i units)) ≡ true
any_found f from i uses units d e lu ln some =
    ap (list_any f) (taken_step from i uses units d e lu ln)
    ∙ list_any-append f (taken_by from (slice_index_or uses i d ∷ []) (slice_index_or units i e ∷ [])) (taken_by from (drop (i + 1) uses) (drop (i + 1) units))
    ∙ rw some refl

-- The place after the last unit of a resource

abbrev pub names_it : ℕ → Taken → Bool
names_it r h = nat_eq h.resource r

pub place_none : (r : ℕ) (xs : List Taken) → list_any (names_it r) xs ≡ false → place_after r xs ≡ 0
unfolding place_after
place_none r [] h = refl
place_none r (x ∷ xs) h = let q : (names_it r x ≡ false) × (list_any (names_it r) xs ≡ false) = or_parts _ _ h in rw (q.1, q.0) refl

-- there is a place exactly where one of them names the resource
pub place_zero : (r : ℕ) (xs : List Taken) → nat_eq (place_after r xs) 0 ≡ true → list_any (names_it r) xs ≡ false
unfolding place_after
place_zero r [] h = refl
place_zero r (x ∷ xs) h = elim (cases_Bool (list_any (names_it r) xs)) [
  | inl more ↦ absurd (let e : list_any (names_it r) xs ≡ false = place_zero r xs (rw more at h) in cc)
  | inr last ↦ rw last (or_no (names_it r x) (first (names_it r x) (rw last at h)))
]
  where
    first : (b : Bool) → nat_eq (if b then x.unit + 1 else 0) 0 ≡ true → b ≡ false
    first true e = absurd (grind (arith, nat_tests, e))
    first false e = refl

    or_no : (b : Bool) → b ≡ false → (b || false) ≡ false
    or_no b e = rw e refl

pub place_append_if : (r : ℕ) (xs ys : List Taken) → place_after r (xs ++ ys) ≡ (if list_any (names_it r) ys then place_after r ys else place_after r xs)
unfolding place_after
place_append_if r [] ys = go (list_any (names_it r) ys) refl
  where
    go : (b : Bool) → list_any (names_it r) ys ≡ b → place_after r ys ≡ (if b then place_after r ys else 0)
    go true e = refl
    go false e = place_none r ys e
place_append_if r (x ∷ xs) ys = rw (list_any-append (names_it r) xs ys, place_append_if r xs ys) (go (list_any (names_it r) xs) (list_any (names_it r) ys))
  where
    go : (a b : Bool) → (if (a || b) then (if b then place_after r ys else place_after r xs) else (if names_it r x then x.unit + 1 else 0))
        ≡ (if b then place_after r ys else (if a then place_after r xs else (if names_it r x then x.unit + 1 else 0)))
    go true true = refl
    go true false = refl
    go false true = refl
    go false false = refl

pub later_zero : (n : ℕ) → n ≡ later_place 0 n
later_zero n = grind (arith, nat_tests)

later_some : (a b : ℕ) → nat_eq b 0 ≡ false → later_place a b ≡ b
later_some a b e = rw e refl

later_none : (a b : ℕ) → b ≡ 0 → later_place a b ≡ a
later_none a b e = rw e refl

pub place_append : (r : ℕ) (xs ys : List Taken) → place_after r (xs ++ ys) ≡ later_place (place_after r xs) (place_after r ys)
place_append r xs ys = place_append_if r xs ys ∙ go (list_any (names_it r) ys) refl
  where
    go : (b : Bool) → list_any (names_it r) ys ≡ b → (if b then place_after r ys else place_after r xs) ≡ later_place (place_after r xs) (place_after r ys)
    go true e = elim (cases_Bool (nat_eq (place_after r ys) 0)) [ inl none ↦ absurd (let f : list_any (names_it r) ys ≡ false = place_zero r ys none in cc) | inr some ↦ sym (later_some (place_after r xs) (place_after r ys) some) ]
    go false e = sym (later_none (place_after r xs) (place_after r ys) (place_none r ys e))

later_joins : (a b c : ℕ) → later_place a (later_place b c) ≡ later_place (later_place a b) c
later_joins a b c = elim (cases_Bool (nat_eq c 0)) [ inl none ↦ rw none refl | inr some ↦ rw (some, some) refl ]

pub place_start : (r from : ℕ) (uses : List Use) (units : List ℕ) → place_after r (taken_by from uses units) ≡ later_place 0 (place_after r (taken_by from (drop 0 uses) (drop 0 units)))
place_start r from uses units = later_zero (place_after r (taken_by from uses units))

pub place_step : (r from i before place : ℕ) (uses : List Use) (units : List ℕ) (d : Use) (e : ℕ) → i < length uses → i < length units
    → place ≡ later_place before (place_after r (taken_by from (slice_index_or uses i d ∷ []) (slice_index_or units i e ∷ [])))
    → later_place before (place_after r (taken_by from (drop i uses) (drop i units))) ≡ later_place place (place_after r (taken_by from (drop (i + 1) uses) (drop (i + 1) units)))
place_step r from i before place uses units d e lu ln is =
    ap (later_place before) (ap (place_after r) (taken_step from i uses units d e lu ln) ∙ place_append r (taken_by from (slice_index_or uses i d ∷ []) (slice_index_or units i e ∷ [])) (taken_by from (drop (i + 1) uses) (drop (i + 1) units)))
    ∙ later_joins before (place_after r (taken_by from (slice_index_or uses i d ∷ []) (slice_index_or units i e ∷ []))) (place_after r (taken_by from (drop (i + 1) uses) (drop (i + 1) units)))
    ∙ ap (λ n. later_place n (place_after r (taken_by from (drop (i + 1) uses) (drop (i + 1) units)))) (sym is)

pub place_end : (r before : ℕ) (xs : List Taken) → xs ≡ [] → later_place before (place_after r xs) ≡ before
unfolding place_after
place_end r before xs e = rw e refl
