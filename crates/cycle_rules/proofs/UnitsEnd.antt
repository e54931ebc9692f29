-- How long the units of a row are held, and between which cycles a choice of units stays the same.
use Rattle.std.proofs.Common.{zero, suc, ◌≡◌, ℕ, ◌+◌, ◌-◌, ◌<◌, ◌≤◌, ◌⊎◌, inl, inr, List, [], ◌∷◌, ◌++◌, arith, ◌∙◌, ap, refl, Bool, true, false, ◌&&◌, not}
use Rattle.std.specs.Prelude.{nat_lt, nat_le, nat_eq, if◌then◌else◌, Option, Some, None}
use Rattle.std.specs.List.{list_any, list_all}
use Rattle.std.proofs.lemmas.Bool.Decides.{nat_tests}
use Rattle.std.proofs.lemmas.Bool.{cases_Bool, cases_lt, leb-true, and_parts, lt-ltb, both_ways, eq-eqb}
use Rattle.machine_model.specs.Meaning.{MachineMeaning}
use Rattle.machine_model.specs.declared.facts.Use.{Use}
use Rattle.cycle_rules.specs.Below.{first_from, count_below}
use Rattle.cycle_rules.specs.CycleBound.{reach}
use Rattle.cycle_rules.specs.Pick.{Taken, holds_at, is_free, place_after, cyclic_from, or_else, pick_unit, pick_units, taken_by, prepend, add_front}
use Rattle.cycle_rules.proofs.Tests.{or_parts, or_none}
use Rattle.cycle_rules.specs.Held.{AllEnd, AllBegun, NoChange, changes_at, most_changes}

pub none_end : (c : ℕ) → AllEnd c []
none_end c b le = refl

pub end_later : (a b : ℕ) (hs : List Taken) → a ≤ b → AllEnd a hs → AllEnd b hs
end_later a b hs le h c up = h c (omega arith)

past : (c b : ℕ) (h : Taken) → h.from + h.hold ≤ b → holds_at b h ≡ false
unfolding holds_at
past c b h le = grind (arith, nat_tests)

-- a row that takes units in cycle c holds none of them from c and its reach on
pub units_end : (c : ℕ) (uses : List Use) (units : List ℕ) → AllEnd (c + reach uses) (taken_by c uses units)
unfolding taken_by
units_end c [] us b le = refl
units_end c (w ∷ rest) [] b le = refl
units_end c (w ∷ rest) (u ∷ us) b le = go (cases_Bool (nat_eq w.hold 0)) (units_end c rest us b (omega arith))
  where
    go : (nat_eq w.hold 0 ≡ true) ⊎ (nat_eq w.hold 0 ≡ false) → list_any (holds_at b) (taken_by c rest us) ≡ false
        → list_any (holds_at b) (if nat_eq w.hold 0 then taken_by c rest us else record { resource = w.resource; hold = w.hold; unit = u; from = c } ∷ taken_by c rest us) ≡ false
    go (inl none) h = rw none h
    go (inr some) h = rw some (or_none _ _ (past c b (record { resource = w.resource; hold = w.hold; unit = u; from = c }) (omega arith)) h)

-- Two lists of uses that name the same units and resources, and hold the same in two cycles

data AlikeAt (a b : ℕ) : List Taken → List Taken → Type 0 where
  none : AlikeAt a b [] []
  some : (x y : Taken) (xs ys : List Taken) → x.resource ≡ y.resource → x.unit ≡ y.unit → holds_at a x ≡ holds_at b y → AlikeAt a b xs ys → AlikeAt a b (x ∷ xs) (y ∷ ys)

alike_any : (a b u : ℕ) (xs ys : List Taken) → AlikeAt a b xs ys → list_any (λ h. nat_eq h.unit u && holds_at a h) xs ≡ list_any (λ h. nat_eq h.unit u && holds_at b h) ys
alike_any a b u _ _ none = refl
alike_any a b u _ _ (some x y xs ys r n h rest) = rw (h, n, alike_any a b u xs ys rest) refl

alike_names : (a b r : ℕ) (xs ys : List Taken) → AlikeAt a b xs ys → list_any (λ k. nat_eq k.resource r) xs ≡ list_any (λ k. nat_eq k.resource r) ys
alike_names a b r _ _ none = refl
alike_names a b r _ _ (some x y xs ys e n h rest) = rw (e, alike_names a b r xs ys rest) refl

alike_place : (a b r : ℕ) (xs ys : List Taken) → AlikeAt a b xs ys → place_after r xs ≡ place_after r ys
unfolding place_after
alike_place a b r _ _ none = refl
alike_place a b r _ _ (some x y xs ys e n h rest) = rw (e, n, alike_names a b r xs ys rest, alike_place a b r xs ys rest) refl

alike_more : (a b : ℕ) (xs ys : List Taken) (x y : Taken) → AlikeAt a b xs ys → x.resource ≡ y.resource → x.unit ≡ y.unit → holds_at a x ≡ holds_at b y → AlikeAt a b (xs ++ x ∷ []) (ys ++ y ∷ [])
alike_more a b _ _ v w none r n h = some v w [] [] r n h none
alike_more a b _ _ v w (some x y xs ys r n h rest) r' n' h' = some x y (xs ++ v ∷ []) (ys ++ w ∷ []) r n h (alike_more a b xs ys v w rest r' n' h')

pub first_same : (a n : ℕ) (p q : ℕ → Bool) → ((u : ℕ) → p u ≡ q u) → first_from a n p ≡ first_from a n q
unfolding first_from
first_same a zero p q e = refl
first_same a (suc n) p q e = rw (e a, first_same (a + 1) n p q e) refl

pub cyclic_same : (n a : ℕ) (p q : ℕ → Bool) → ((u : ℕ) → p u ≡ q u) → cyclic_from n a p ≡ cyclic_from n a q
unfolding cyclic_from
cyclic_same n a p q e = ap (λ o. or_else o (first_from 0 n p)) (first_same a (n - a) p q e) ∙ ap (or_else (first_from a (n - a) q)) (first_same 0 n p q e)

alike_unit : (m : MachineMeaning) (a b r : ℕ) (xs ys : List Taken) → AlikeAt a b xs ys → pick_unit m xs a r ≡ pick_unit m ys b r
unfolding pick_unit is_free
alike_unit m a b r xs ys h =
    let free : (u : ℕ) → (m.units r u && not (list_any (λ h. nat_eq h.unit u && holds_at a h) xs)) ≡ (m.units r u && not (list_any (λ h. nat_eq h.unit u && holds_at b h) ys)) = λ u. rw (alike_any a b u xs ys h) refl in
    ap (λ n. cyclic_from m.unit_count n (λ u. m.units r u && not (list_any (λ h. nat_eq h.unit u && holds_at a h) xs))) (alike_place a b r xs ys h)
    ∙ cyclic_same m.unit_count (place_after r ys) _ _ free

own_alike : (a b r n u : ℕ) → holds_at a (record { resource = r; hold = n; unit = u; from = a }) ≡ holds_at b (record { resource = r; hold = n; unit = u; from = b })
unfolding holds_at
own_alike a b r n u = grind (arith, nat_tests)

prepend_same : (o : Option ℕ) (f g : ℕ → Option (List ℕ)) → ((u : ℕ) → f u ≡ g u) → prepend o f ≡ prepend o g
prepend_same (Some u) f g e = ap (add_front u) (e u)
prepend_same None f g e = refl

alike_picks : (m : MachineMeaning) (a b : ℕ) (uses : List Use) (xs ys : List Taken) → AlikeAt a b xs ys → pick_units m xs a uses ≡ pick_units m ys b uses
unfolding pick_units
alike_picks m a b [] xs ys h = refl
alike_picks m a b (w ∷ rest) xs ys h = elim (cases_Bool (nat_eq w.hold 0)) [
  | inl zero_hold ↦ rw (zero_hold, alike_picks m a b rest xs ys h) refl
  | inr more ↦ rw (more, alike_unit m a b w.resource xs ys h) (prepend_same (pick_unit m ys b w.resource) _ _
      (λ u. alike_picks m a b rest _ _ (alike_more a b xs ys _ _ h refl refl (own_alike a b w.resource w.hold u))))
]

holds_over : (x : Taken) {a b : ℕ} → a ≤ b → x.from + x.hold ≤ a → holds_at a x ≡ holds_at b x
unfolding holds_at
holds_over x le past = grind (arith, nat_tests)

holds_still : (x : Taken) {a b : ℕ} → a ≤ b → x.from ≤ a → b < x.from + x.hold → holds_at a x ≡ holds_at b x
unfolding holds_at
holds_still x le begun still = grind (arith, nat_tests)

-- a use that has begun and does not change between two cycles holds the same in both
begun_alike : (m : MachineMeaning) (a b : ℕ) (hs : List Taken) → a ≤ b → AllBegun a hs → NoChange m a b hs → AlikeAt a b hs hs
unfolding changes_at
begun_alike m a b [] le begun quiet = none
begun_alike m a b (x ∷ hs) le begun quiet =
    let p : (nat_le x.from a ≡ true) × (list_all (λ h. nat_le h.from a) hs ≡ true) = and_parts _ _ begun in
    let q : (c : ℕ) → a < c → c ≤ b → ((nat_lt 0 x.hold && nat_eq c (x.from + x.hold)) ≡ false) × (list_any (changes_at m c) hs ≡ false) = λ c l h. or_parts _ _ (quiet c l h) in
    some x x hs hs refl refl (one x le p.0 (λ c l h. (q c l h).0)) (begun_alike m a b hs le p.1 (λ c l h. (q c l h).1))
  where
    one : (x : Taken) → a ≤ b → nat_le x.from a ≡ true → ((c : ℕ) → a < c → c ≤ b → (nat_lt 0 x.hold && nat_eq c (x.from + x.hold)) ≡ false) → holds_at a x ≡ holds_at b x
    one x le begun quiet = elim (cases_lt a (x.from + x.hold)) [
      | inr past ↦ holds_over x le past
      | inl now ↦ elim (cases_lt b (x.from + x.hold)) [
        | inl still ↦ holds_still x le (leb-true _ _ begun) still
        | inr gone ↦ (let none : (nat_lt 0 x.hold && nat_eq (x.from + x.hold) (x.from + x.hold)) ≡ false = quiet (x.from + x.hold) now gone in
            absurd (both_ways _ none (rw (lt-ltb 0 x.hold (omega (arith, leb-true _ _ begun, now)), eq-eqb (x.from + x.hold) (x.from + x.hold) refl) refl)))
      ]
    ]

-- between two cycles without a change the same units are picked, or none in both
pub units_stay : (m : MachineMeaning) (earlier : List Taken) (a b : ℕ) (uses : List Use) → a ≤ b → AllBegun a earlier → NoChange m a b earlier → pick_units m earlier a uses ≡ pick_units m earlier b uses
units_stay m earlier a b uses le begun quiet = alike_picks m a b uses earlier earlier (begun_alike m a b earlier le begun quiet)

-- Changes

pub late_changes : (m : MachineMeaning) (h : Taken) (c : ℕ) → changes_at m c h ≡ true → h.from < c
unfolding changes_at
late_changes m h c e = grind (arith, nat_tests, e)

count_gone : (m : MachineMeaning) (h : Taken) (n : ℕ) → n ≤ h.from + h.hold → count_below n (λ c. changes_at m c h) ≡ 0
unfolding count_below changes_at
count_gone m h zero le = refl
count_gone m h (suc n) le =
    let rest : count_below n (λ c. changes_at m c h) ≡ 0 = count_gone m h n (omega arith) in
    let here : (nat_lt 0 h.hold && nat_eq n (h.from + h.hold)) ≡ false = grind (arith, nat_tests, le) in
    rw here (omega (arith, rest))

changed : (m : MachineMeaning) (c : ℕ) (h : Taken) → h.from + h.hold < c → changes_at m c h ≡ false
unfolding changes_at
changed m c h lt = grind (arith, nat_tests, lt)

-- a use changes once at most
pub few_changes : (m : MachineMeaning) (h : Taken) (n : ℕ) → count_below n (λ c. changes_at m c h) ≤ most_changes m
unfolding count_below
few_changes m h zero = omega arith
few_changes m h (suc n) = elim (cases_lt n (h.from + h.hold)) [
  | inl low ↦ omega (arith, count_gone m h (suc n) (omega arith))
  | inr high ↦ elim (cases_lt (h.from + h.hold) n) [
    | inl above ↦ (let here : changes_at m n h ≡ false = changed m n h above in rw here (omega (arith, few_changes m h n)))
    | inr at ↦ (let rest : count_below n (λ c. changes_at m c h) ≡ 0 = count_gone m h n (omega arith) in one (changes_at m n h) rest)
  ]
]
  where
    one : (b : Bool) → count_below n (λ c. changes_at m c h) ≡ 0 → count_below n (λ c. changes_at m c h) + (if b then 1 else 0) ≤ 1
    one true e = omega (arith, e)
    one false e = omega (arith, e)
