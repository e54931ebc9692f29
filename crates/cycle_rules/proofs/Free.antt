-- Which unit a use takes, and which the uses of a row take one after another.
use Rattle.std.proofs.Common.{zero, suc, ◌≡◌, ℕ, ◌+◌, ◌-◌, ◌<◌, ◌≤◌, inl, inr, List, [], ◌∷◌, ◌++◌, arith, sym, ◌∙◌, ap, refl, Bool, true, false, not, ◌&&◌, append-nil, replicate, length, take, drop, slice_index_or}
use Rattle.std.specs.Prelude.{nat_eq, Option, Some, None, is_some}
use Rattle.std.specs.List.{list_any, slice_set}
use Rattle.std.proofs.Math.ListN.{drop_of_length-le}
use Rattle.std.proofs.lemmas.Bool.{cases_Bool}
use Rattle.std.proofs.lemmas.Bool.Decides.{nat_tests}
use Rattle.std.proofs.lemmas.List.{append_assoc, drop-replicate, take_more, drop_more, take_more_set, drop-set-lt, take-append-drop, length-take-le}
use Rattle.std.proofs.lemmas.List.Folds.{list_any-append}
use Rattle.std.proofs.lemmas.Grind.{drop_more_same}
use Rattle.machine_model.specs.Meaning.{MachineMeaning}
use Rattle.machine_model.specs.declared.facts.Use.{Use}
use Rattle.cycle_rules.specs.Below.{first_from}
use Rattle.cycle_rules.specs.Given.{later_place}
use Rattle.cycle_rules.specs.Pick.{Taken, holds_at, is_free, place_after, cyclic_from, pick_unit, pick_units, prepend, add_front, taken_by, padded, no_unit}
use Rattle.cycle_rules.proofs.Places.{place_append}

abbrev holder : ℕ → ℕ → Taken → Bool
holder c u h = nat_eq h.unit u && holds_at c h

pub free_held : (earlier own : List Taken) (c u : ℕ) → list_any (holder c u) earlier ≡ true → false ≡ is_free (earlier ++ own) c u
unfolding is_free
free_held earlier own c u h = rw (list_any-append (holder c u) earlier own, h) refl

pub free_own : (earlier own : List Taken) (c u : ℕ) (b : Bool) → list_any (holder c u) earlier ≡ false → b ≡ list_any (holder c u) own → not b ≡ is_free (earlier ++ own) c u
unfolding is_free
free_own earlier own c u b h e = rw (list_any-append (holder c u) earlier own, h, e) refl

pub place_own : (r : ℕ) (earlier own : List Taken) (n : ℕ) → n ≡ place_after r own → (n ≡ 0 → ⊥) → n ≡ place_after r (earlier ++ own)
place_own r earlier own n e some = e ∙ (let is : nat_eq (place_after r own) 0 ≡ false = grind (arith, nat_tests, e, some) in go is) ∙ sym (place_append r earlier own)
  where
    go : nat_eq (place_after r own) 0 ≡ false → place_after r own ≡ later_place (place_after r earlier) (place_after r own)
    go is = rw is refl

pub place_rows : (r : ℕ) (earlier own : List Taken) (n k : ℕ) → n ≡ place_after r own → n ≡ 0 → k ≡ place_after r earlier → k ≡ place_after r (earlier ++ own)
place_rows r earlier own n k e none is = is ∙ (let z : nat_eq (place_after r own) 0 ≡ true = grind (arith, nat_tests, e, none) in go z) ∙ sym (place_append r earlier own)
  where
    go : nat_eq (place_after r own) 0 ≡ true → place_after r earlier ≡ later_place (place_after r earlier) (place_after r own)
    go z = rw z refl

-- the first number that passes, as a loop finds it

pub first_step : (u n : ℕ) (p : ℕ → Bool) → u < n → p u ≡ false → first_from u (n - u) p ≡ first_from (u + 1) (n - (u + 1)) p
unfolding first_from
first_step u n p lt h = let more : n - u ≡ suc (n - (u + 1)) = omega arith in rw (more, h) refl

pub first_here : (u n : ℕ) (p : ℕ → Bool) → u < n → p u ≡ true → first_from u (n - u) p ≡ Some u
unfolding first_from
first_here u n p lt h = let more : n - u ≡ suc (n - (u + 1)) = omega arith in rw (more, h) refl

pub first_over : (u n : ℕ) (p : ℕ → Bool) → n ≤ u → first_from u (n - u) p ≡ None
unfolding first_from
first_over u n p le = let none : n - u ≡ 0 = omega arith in rw none refl

pub unit_found : (m : MachineMeaning) (earlier : List Taken) (c r place n u : ℕ) (a : Option ℕ) → m.unit_count ≡ n → place ≡ place_after r earlier → a ≡ first_from place (n - place) (λ v. m.units r v && is_free earlier c v) → a ≡ Some u
    → Some u ≡ pick_unit m earlier c r
unfolding pick_unit cyclic_from
unit_found m earlier c r place n u a count e is some = rw (count, ← e, ← is, some) refl

pub unit_around : (m : MachineMeaning) (earlier : List Taken) (c r place n : ℕ) (a b : Option ℕ) → m.unit_count ≡ n → place ≡ place_after r earlier → a ≡ first_from place (n - place) (λ v. m.units r v && is_free earlier c v) → a ≡ None
    → b ≡ first_from 0 (n - 0) (λ v. m.units r v && is_free earlier c v) → b ≡ pick_unit m earlier c r
unfolding pick_unit cyclic_from
unit_around m earlier c r place n a b count e is none other = let whole : n - 0 ≡ n = omega arith in rw (count, ← e, ← is, none) (rw whole at other)

-- a use, and those after it

pub next_none : (m : MachineMeaning) (earlier : List Taken) (c : ℕ) (w : Use) (rest : List Use) → w.hold ≡ 0
    → pick_units m earlier c (w ∷ rest) ≡ prepend (Some no_unit) (λ u. pick_units m (earlier ++ taken_by c (w ∷ []) (u ∷ [])) c rest)
unfolding pick_units taken_by
next_none m earlier c w rest e = let is : nat_eq w.hold 0 ≡ true = grind (arith, nat_tests) in rw is (ap (λ l. add_front no_unit (pick_units m l c rest)) (sym (append-nil earlier)))

pub next_some : (m : MachineMeaning) (earlier : List Taken) (c : ℕ) (w : Use) (rest : List Use) (o : Option ℕ) → (w.hold ≡ 0 → ⊥) → o ≡ pick_unit m earlier c w.resource
    → pick_units m earlier c (w ∷ rest) ≡ prepend o (λ u. pick_units m (earlier ++ taken_by c (w ∷ []) (u ∷ [])) c rest)
unfolding pick_units taken_by
next_some m earlier c w rest o ne e = let is : nat_eq w.hold 0 ≡ false = grind (arith, nat_tests) in rw (is, e) refl

-- The uses of a row take their units one after another

abbrev pub prefixed : List ℕ → Option (List ℕ) → Option (List ℕ)
prefixed us None = None
prefixed us (Some rest) = Some (us ++ rest)

-- k of the uses have taken units
pub record PicksSo (m : MachineMeaning) (c : ℕ) (earlier : List Taken) (uses : List Use) (k : ℕ) (units : List ℕ) : Type 0 where
  pub picks : pick_units m earlier c uses ≡ prefixed (take k units) (pick_units m (earlier ++ taken_by c (take k uses) (take k units)) c (drop k uses))
  pub rest : drop k units ≡ drop k (replicate 8 no_unit)
  pub size : length units ≡ 8

pub picks_start : (m : MachineMeaning) (c : ℕ) (earlier : List Taken) (uses : List Use) → PicksSo m c earlier uses 0 (replicate 8 no_unit)
unfolding taken_by
picks_start m c earlier uses = record {
  picks = sym (ap (λ l. prefixed [] (pick_units m l c uses)) (append-nil earlier) ∙ none (pick_units m earlier c uses));
  rest = refl;
  size = refl;
}
  where
    none : (o : Option (List ℕ)) → prefixed [] o ≡ o
    none (Some us) = refl
    none None = refl

taken_more : (c : ℕ) (uses : List Use) (units : List ℕ) (w : Use) (u : ℕ) → length uses ≡ length units → taken_by c (uses ++ w ∷ []) (units ++ u ∷ []) ≡ taken_by c uses units ++ taken_by c (w ∷ []) (u ∷ [])
unfolding taken_by
taken_more c [] [] w u e = refl
taken_more c [] (x ∷ us) w u e = absurd (omega (arith, e))
taken_more c (v ∷ ws) [] w u e = absurd (omega (arith, e))
taken_more c (v ∷ ws) (x ∷ us) w u e = elim (cases_Bool (nat_eq v.hold 0)) [
  | inl none ↦ rw (none, taken_more c ws us w u (omega (arith, e))) refl
  | inr some ↦ rw (some, taken_more c ws us w u (omega (arith, e))) refl
]

length-set : (xs : List ℕ) (i x : ℕ) → length (slice_set xs i x) ≡ length xs
length-set [] i x = refl
length-set (y ∷ xs) zero x = refl
length-set (y ∷ xs) (suc i) x = omega (arith, length-set xs i x)

prefix_more : (us : List ℕ) (u : ℕ) (o : Option (List ℕ)) → prefixed us (add_front u o) ≡ prefixed (us ++ u ∷ []) o
prefix_more us u None = refl
prefix_more us u (Some rest) = ap Some (sym (append_assoc us (u ∷ []) rest))

-- what one use more makes of it, whether it finds a unit or not
next_picks : (m : MachineMeaning) (c : ℕ) (earlier : List Taken) (uses : List Use) (k : ℕ) (units : List ℕ) (d : Use) (o : Option ℕ) → k < length uses → PicksSo m c earlier uses k units
    → ((rest : List Use) → pick_units m (earlier ++ taken_by c (take k uses) (take k units)) c (slice_index_or uses k d ∷ rest)
    ≡ prepend o (λ u. pick_units m ((earlier ++ taken_by c (take k uses) (take k units)) ++ taken_by c (slice_index_or uses k d ∷ []) (u ∷ [])) c rest))
    → pick_units m earlier c uses ≡ prefixed (take k units) (prepend o (λ u. pick_units m ((earlier ++ taken_by c (take k uses) (take k units)) ++ taken_by c (slice_index_or uses k d ∷ []) (u ∷ [])) c (drop (k + 1) uses)))
next_picks m c earlier uses k units d o lt p h = p.picks ∙ ap (λ ws. prefixed (take k units) (pick_units m (earlier ++ taken_by c (take k uses) (take k units)) c ws)) (drop_more uses k d lt) ∙ ap (prefixed (take k units)) (h (drop (k + 1) uses))

pub picks_step : (m : MachineMeaning) (c : ℕ) (earlier : List Taken) (uses : List Use) (k u : ℕ) (units : List ℕ) (d : Use) (o : Option ℕ) → k < length uses → length uses ≤ 8 → o ≡ Some u → PicksSo m c earlier uses k units
    → ((rest : List Use) → pick_units m (earlier ++ taken_by c (take k uses) (take k units)) c (slice_index_or uses k d ∷ rest)
    ≡ prepend o (λ v. pick_units m ((earlier ++ taken_by c (take k uses) (take k units)) ++ taken_by c (slice_index_or uses k d ∷ []) (v ∷ [])) c rest))
    → PicksSo m c earlier uses (k + 1) (slice_set units k u)
picks_step m c earlier uses k u units d o lt few some p h = record {
  picks = next_picks m c earlier uses k units d o lt p h
      ∙ ap (λ q. prefixed (take k units) (prepend q (λ v. pick_units m ((earlier ++ taken_by c (take k uses) (take k units)) ++ taken_by c (slice_index_or uses k d ∷ []) (v ∷ [])) c (drop (k + 1) uses)))) some
      ∙ prefix_more (take k units) u (pick_units m ((earlier ++ taken_by c (take k uses) (take k units)) ++ taken_by c (slice_index_or uses k d ∷ []) (u ∷ [])) c (drop (k + 1) uses))
      ∙ (λ i. prefixed (sym units_more i) (pick_units m (sym list i) c (drop (k + 1) uses)));
  rest = drop-set-lt (k + 1) units k u (omega arith) ∙ drop_more_same units (replicate 8 no_unit) k p.rest;
  size = length-set units k u ∙ p.size;
}
  where
    units_more : take (k + 1) (slice_set units k u) ≡ take k units ++ u ∷ []
    units_more = take_more_set units k u (omega (arith, lt, few, p.size))

    uses_more : take (k + 1) uses ≡ take k uses ++ slice_index_or uses k d ∷ []
    uses_more = take_more uses k d lt

    list : earlier ++ taken_by c (take (k + 1) uses) (take (k + 1) (slice_set units k u)) ≡ (earlier ++ taken_by c (take k uses) (take k units)) ++ taken_by c (slice_index_or uses k d ∷ []) (u ∷ [])
    list =
        (λ i. earlier ++ taken_by c (uses_more i) (units_more i))
        ∙ ap (λ l. earlier ++ l) (taken_more c (take k uses) (take k units) (slice_index_or uses k d) u (length-take-le k uses (omega (arith, lt)) ∙ sym (length-take-le k units (omega (arith, lt, few, p.size)))))
        ∙ sym (append_assoc earlier (taken_by c (take k uses) (take k units)) (taken_by c (slice_index_or uses k d ∷ []) (u ∷ [])))

pub picks_none : (m : MachineMeaning) (c : ℕ) (earlier : List Taken) (uses : List Use) (k : ℕ) (units : List ℕ) (d : Use) (o : Option ℕ) → k < length uses → o ≡ None → PicksSo m c earlier uses k units
    → ((rest : List Use) → pick_units m (earlier ++ taken_by c (take k uses) (take k units)) c (slice_index_or uses k d ∷ rest)
    ≡ prepend o (λ v. pick_units m ((earlier ++ taken_by c (take k uses) (take k units)) ++ taken_by c (slice_index_or uses k d ∷ []) (v ∷ [])) c rest))
    → pick_units m earlier c uses ≡ None
picks_none m c earlier uses k units d o lt none p h = next_picks m c earlier uses k units d o lt p h
    ∙ ap (λ q. prefixed (take k units) (prepend q (λ v. pick_units m ((earlier ++ taken_by c (take k uses) (take k units)) ++ taken_by c (slice_index_or uses k d ∷ []) (v ∷ [])) c (drop (k + 1) uses)))) none

pub picks_end : (m : MachineMeaning) (c : ℕ) (earlier : List Taken) (uses : List Use) (k : ℕ) (units : List ℕ) → k ≡ length uses → length uses ≤ 8 → PicksSo m c earlier uses k units
    → (is_some (pick_units m earlier c uses) ≡ true) × (units ≡ padded (pick_units m earlier c uses))
unfolding pick_units padded
picks_end m c earlier uses k units end few p = (ap is_some whole, sym (ap padded whole ∙ pads))
  where
    nothing : drop k uses ≡ []
    nothing = drop_of_length-le uses (omega (arith, end))

    whole : pick_units m earlier c uses ≡ Some (take k units ++ [])
    whole = p.picks ∙ ap (λ ws. prefixed (take k units) (pick_units m (earlier ++ taken_by c (take k uses) (take k units)) c ws)) nothing

    long : length (take k units) ≡ k
    long = length-take-le k units (omega (arith, end, few, p.size))

    pads : (take k units ++ []) ++ replicate (8 - length (take k units ++ [])) no_unit ≡ units
    pads = rw (append-nil (take k units), long) (ap (λ l. take k units ++ l) (sym (p.rest ∙ drop-replicate k 8 no_unit)) ∙ take-append-drop k units)
