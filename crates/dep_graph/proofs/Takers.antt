-- Which row holds a unit, as rows take units.
use Rattle.std.proofs.Common.{zero, suc, ◌≡◌, ℕ, ◌+◌, ◌<◌, ◌≤◌, inl, inr, arith, refl, sym, ◌∙◌, ap, subst, Bool, true, false, ◌&&◌, ◌||◌, not, List, [], ◌∷◌, ◌++◌, length}
use Rattle.std.specs.Prelude.{nat_eq, nat_lt, nat_le, slice_index, slice_set, replicate, Option, Some, None, ⊤}
use Rattle.std.specs.List.{list_any, list_all}
use Rattle.std.proofs.lemmas.Bool.{cases_lt, cases_eq, cases_Bool, and_parts, or_cases, false≢true}
use Rattle.std.proofs.lemmas.Bool.Decides.{nat_tests}
use Rattle.std.proofs.lemmas.List.{get_or-set_same, get_or-set_other, length-set}
use Rattle.std.proofs.lemmas.List.Folds.{list_any-append}
use Rattle.machine_model.specs.Meaning.{MachineMeaning}
use Rattle.machine_model.specs.declared.facts.Use.{Use}
use Rattle.cycle_rules.specs.Row.{Input, Table}
use Rattle.cycle_rules.specs.Pick.{Taken, holds_at, is_free, pick_unit, pick_units, add_front, prepend, no_unit, taken_by}
use Rattle.cycle_rules.specs.Held.{taken_of}
use Rattle.cycle_rules.proofs.UnitsFound.{pick_unit_some}
use Rattle.dep_graph.proofs.Holding.{list_all_cons}
use Rattle.dep_graph.specs.Holders.{taken_along, holds_one, taker_at, AreHolders, noted}
use Rattle.dep_graph.specs.declared.holders.Taker.{Taker}

any_cons : {X : Type 0} (p : X → Bool) (x : X) (xs : List X) → list_any p (x ∷ xs) ≡ (p x || list_any p xs)
any_cons p x xs = list_any-append p (x ∷ []) xs ∙ ap (λ b. b || list_any p xs) (or_false (p x))
  where
    or_false : (b : Bool) → (b || false) ≡ b
    or_false true = refl
    or_false false = refl

any_one : {X : Type 0} (p : X → Bool) (x : X) → list_any p (x ∷ []) ≡ p x
any_one p x = any_cons p x [] ∙ or_false (p x)
  where
    or_false : (b : Bool) → (b || false) ≡ b
    or_false true = refl
    or_false false = refl

or_parts : (x y : Bool) → (x || y) ≡ false → (x ≡ false) × (y ≡ false)
or_parts false y e = (refl, e)
or_parts true y e = cc

-- What is picked

-- uses that took units in a cycle, one after another, each of them a unit that was free
abbrev pub ArePicked : MachineMeaning → List Taken → ℕ → List Taken → Type 0
ArePicked m earlier c [] = ⊤
ArePicked m earlier c (h ∷ hs) = (h.from ≡ c) × (h.unit < m.unit_count) × (is_free earlier c h.unit ≡ true) × ArePicked m (earlier ++ h ∷ []) c hs

front_of : (u : ℕ) (o : Option (List ℕ)) (us : List ℕ) → add_front u o ≡ Some us → (rest : List ℕ) × (o ≡ Some rest) × (us ≡ u ∷ rest)
front_of u None us is = absurd (cc)
front_of u (Some rest) us is = (rest, refl, (let e : u ∷ rest ≡ us = cc in sym e))

no_front : (rest : ℕ → Option (List ℕ)) (us : List ℕ) (o : Option ℕ) → prepend o rest ≡ Some us → (u : ℕ) × (o ≡ Some u) × (add_front u (rest u) ≡ Some us)
no_front rest us None is = absurd (cc)
no_front rest us (Some u) is = (u, refl, is)

pub are_picked : (m : MachineMeaning) (earlier : List Taken) (c : ℕ) (uses : List Use) (us more : List ℕ) → pick_units m earlier c uses ≡ Some us → ArePicked m earlier c (taken_by c uses (us ++ more))
unfolding pick_units taken_by
are_picked m earlier c [] us more is = none (us ++ more)
  where
    none : (xs : List ℕ) → ArePicked m earlier c (taken_by c [] xs)
    none [] = tt
    none (x ∷ xs) = tt
are_picked m earlier c (w ∷ rest) us more is = elim (cases_Bool (nat_eq w.hold 0)) [
  | inl none ↦
      (let front : add_front no_unit (pick_units m earlier c rest) ≡ Some us = rw none at is in
      let parts = front_of no_unit (pick_units m earlier c rest) us front in
      subst (λ xs. ArePicked m earlier c (taken_by c (w ∷ rest) (xs ++ more))) (sym parts.2) (rw none (are_picked m earlier c rest parts.0 more parts.1)))
  | inr some ↦
      (let f : ℕ → Option (List ℕ) = λ u. pick_units m (earlier ++ record { resource = w.resource; hold = w.hold; unit = u; from = c } ∷ []) c rest in
      let whole : prepend (pick_unit m earlier c w.resource) f ≡ Some us = rw some at is in
      let found = no_front f us (pick_unit m earlier c w.resource) whole in
      let parts = front_of found.0 (f found.0) us found.2 in
      let unit = pick_unit_some m earlier c w.resource found.0 found.1 in
      subst (λ xs. ArePicked m earlier c (taken_by c (w ∷ rest) (xs ++ more))) (sym parts.2)
      (rw some (refl, unit.0, unit.2, are_picked m (earlier ++ record { resource = w.resource; hold = w.hold; unit = found.0; from = c } ∷ []) c rest parts.0 more parts.1)))
]

pub picked_known : (m : MachineMeaning) (earlier : List Taken) (c : ℕ) (hs : List Taken) (n : ℕ) → n ≡ m.unit_count → ArePicked m earlier c hs → list_all (λ h. nat_lt h.unit n) hs ≡ true
picked_known m earlier c [] n is p = refl
picked_known m earlier c (h ∷ hs) n is p =
    let low : nat_lt h.unit n ≡ true = (let lt : h.unit < n = omega (arith, p.1, is) in grind (arith, nat_tests, lt)) in
    list_all_cons (λ h. nat_lt h.unit n) h hs ∙ (rw (low, picked_known m (earlier ++ h ∷ []) c hs n is p.3) refl)

-- The last that took a unit

-- of those that hold a unit in cycle a or later the one that is kept
pub record KeepsLast (count : ℕ) (holds : ℕ → ℕ → ℕ → Bool) (a : ℕ) (last : List Taker) : Type 0 where
  pub latest : (i u b : ℕ) → u < count → a ≤ b → holds i u b ≡ true → ((taker_at last u).place ≡ i) × (b < (taker_at last u).until)
  pub real : (u b : ℕ) → u < count → a ≤ b → b < (taker_at last u).until → holds (taker_at last u).place u b ≡ true

taker_same : (last : List Taker) (u : ℕ) (x : Taker) → u < length last → taker_at (slice_set last u x) u ≡ x
taker_same last u x lt = get_or-set_same last u x _ lt

taker_other : (last : List Taker) (u v : ℕ) (x : Taker) → (v ≡ u → ⊥) → taker_at (slice_set last u x) v ≡ taker_at last v
taker_other last u v x ne = get_or-set_other last u v x _ ne

last_more : (count : ℕ) (old new_ : ℕ → ℕ → ℕ → Bool) (a q unit end : ℕ) (last : List Taker) → KeepsLast count old a last → length last ≡ count → unit < count → ((i b : ℕ) → a ≤ b → old i unit b ≡ false)
    → ((i u b : ℕ) → a ≤ b → new_ i u b ≡ (old i u b || (nat_eq i q && nat_eq unit u && nat_lt b end))) → KeepsLast count new_ a (slice_set last unit (record { place = q; until = end }))
last_more count old new_ a q unit end last h size low free is = record {
  latest = λ i u b lt le holds. elim (cases_eq u unit) [
    | inl here ↦
        (let got : taker_at (slice_set last unit x) u ≡ x = ap (taker_at (slice_set last unit x)) here ∙ taker_same last unit x (omega (arith, low, size)) in
        let none : old i u b ≡ false = ap (λ v. old i v b) here ∙ free i b le in
        let mine : (nat_eq i q && nat_eq unit u && nat_lt b end) ≡ true = after_none (old i u b) _ none (sym (is i u b le) ∙ holds) in
        let two : ((nat_eq i q && nat_eq unit u) ≡ true) × (nat_lt b end ≡ true) = and_parts _ _ mine in
        let one : (nat_eq i q ≡ true) × (nat_eq unit u ≡ true) = and_parts _ _ two.0 in
        let e : i ≡ q = grind (arith, nat_tests, one.0) in
        let early : b < end = grind (arith, nat_tests, two.1) in
        (ap (λ y. y.place) got ∙ sym e, subst (λ y. b < y.until) (sym got) early))
    | inr other ↦
        (let got : taker_at (slice_set last unit x) u ≡ taker_at last u = taker_other last unit u x other in
        let miss : nat_eq unit u ≡ false = grind (arith, nat_tests, other) in
        let none : (nat_eq i q && nat_eq unit u && nat_lt b end) ≡ false = (rw miss (three (nat_eq i q) (nat_lt b end))) in
        let before : old i u b ≡ true = first_of (old i u b) _ none (sym (is i u b le) ∙ holds) in
        let there = h.latest i u b lt le before in
        (ap (λ y. y.place) got ∙ there.0, subst (λ y. b < y.until) (sym got) there.1))
  ];
  real = λ u b lt le early. elim (cases_eq u unit) [
    | inl here ↦
        (let got : taker_at (slice_set last unit x) u ≡ x = ap (taker_at (slice_set last unit x)) here ∙ taker_same last unit x (omega (arith, low, size)) in
        let soon : b < end = subst (λ y. b < y.until) got early in
        let one : nat_eq q q ≡ true = grind (arith, nat_tests) in
        let two : nat_eq unit u ≡ true = grind (arith, nat_tests, here) in
        let three : nat_lt b end ≡ true = grind (arith, nat_tests, soon) in
        subst (λ y. new_ y.place u b ≡ true) (sym got) (is q u b le ∙ (rw (one, two, three) (or_true (old q u b)))))
    | inr other ↦
        (let got : taker_at (slice_set last unit x) u ≡ taker_at last u = taker_other last unit u x other in
        let before : old (taker_at last u).place u b ≡ true = h.real u b lt le (subst (λ y. b < y.until) got early) in
        subst (λ y. new_ y.place u b ≡ true) (sym got) (is (taker_at last u).place u b le ∙ (rw before refl)))
  ];
}
  where
    x : Taker
    x = record { place = q; until = end }

    or_true : (b : Bool) → (b || true) ≡ true
    or_true true = refl
    or_true false = refl

    three : (p r : Bool) → (p && false && r) ≡ false
    three true r = refl
    three false r = refl

    after_none : (p r : Bool) → p ≡ false → (p || r) ≡ true → r ≡ true
    after_none true r e k = absurd (false≢true (sym e))
    after_none false r e k = k

    first_of : (p r : Bool) → r ≡ false → (p || r) ≡ true → p ≡ true
    first_of true r e k = refl
    first_of false r e k = absurd (false≢true (sym e ∙ k))

-- who holds units: the first q rows of an order, and some uses of the next one
abbrev pub with_some : Input → Table → List ℕ → ℕ → List Taken → ℕ → ℕ → ℕ → Bool
with_some g t order q xs i u b = (nat_lt i q && holds_one g t u b (slice_index order i)) || (nat_eq i q && list_any (λ h. nat_eq h.unit u && holds_at b h) xs)

-- what does not hold a unit any more will not hold it later
gone_later : (u c b : ℕ) (hs : List Taken) → list_all (λ h. nat_le h.from c) hs ≡ true → c ≤ b → list_any (λ h. nat_eq h.unit u && holds_at c h) hs ≡ false → list_any (λ h. nat_eq h.unit u && holds_at b h) hs ≡ false
unfolding holds_at
gone_later u c b [] begun le none = refl
gone_later u c b (h ∷ hs) begun le none =
    let parts = or_parts _ _ (sym (any_cons (λ h. nat_eq h.unit u && holds_at c h) h hs) ∙ none) in
    let all : (nat_le h.from c ≡ true) × (list_all (λ h. nat_le h.from c) hs ≡ true) = and_parts _ _ (sym (list_all_cons (λ h. nat_le h.from c) h hs) ∙ begun) in
    any_cons (λ h. nat_eq h.unit u && holds_at b h) h hs ∙ (rw (one (nat_eq h.unit u) h.from (h.from + h.hold) all.0 parts.0, gone_later u c b hs all.1 le parts.1) refl)
  where
    one : (p : Bool) (from end : ℕ) → nat_le from c ≡ true → (p && (nat_le from c && nat_lt c end)) ≡ false → (p && (nat_le from b && nat_lt b end)) ≡ false
    one false from end is none = refl
    one true from end is none = let late : nat_lt c end ≡ false = (rw is at none) in let after : nat_lt b end ≡ false = grind (arith, nat_tests, le, late) in rw after (and_false (nat_le from b))
      where
        and_false : (x : Bool) → (x && false) ≡ false
        and_false true = refl
        and_false false = refl

begun_by : (a c : ℕ) (uses : List Use) (us : List ℕ) → c ≤ a → list_all (λ h. nat_le h.from a) (taken_by c uses us) ≡ true
unfolding taken_by
begun_by a c [] us le = refl
begun_by a c (w ∷ rest) [] le = refl
begun_by a c (w ∷ rest) (u ∷ us) le = elim (cases_Bool (nat_eq w.hold 0)) [
  | inl none ↦ rw none (begun_by a c rest us le)
  | inr some ↦ rw some (list_all_cons (λ h. nat_le h.from a) (record { resource = w.resource; hold = w.hold; unit = u; from = c }) (taken_by c rest us) ∙ (let e : nat_le c a ≡ true = grind (arith, nat_tests, le) in rw (e, begun_by a c rest us le) refl))
]

along_none : (g : Input) (t : Table) (order : List ℕ) (f : Taken → Bool) (q i : ℕ) → list_any f (taken_along g t order q) ≡ false → i < q → list_any f (taken_of g t (slice_index order i)) ≡ false
along_none g t order f zero i none lt = absurd (omega (arith, lt))
along_none g t order f (suc q) i none lt =
    let parts = or_parts _ _ (sym (list_any-append f (taken_along g t order q) (taken_of g t (slice_index order q))) ∙ none) in
    elim (cases_lt i q) [
      | inl low ↦ along_none g t order f q i parts.0 low
      | inr past ↦ (let e : i ≡ q = omega (arith, past, lt) in subst (λ x. list_any f (taken_of g t (slice_index order x)) ≡ false) (sym e) parts.1)
    ]

not_false : (b : Bool) → not b ≡ true → b ≡ false
not_false true e = cc
not_false false e = refl

-- a unit that is free is held by none of them
free_none : (g : Input) (t : Table) (order : List ℕ) (q c u : ℕ) (xs : List Taken) → ((i : ℕ) → i < q → (t (slice_index order i)).issue ≤ c) → list_all (λ h. nat_le h.from c) xs ≡ true → is_free (taken_along g t order q ++ xs) c u ≡ true → (i b : ℕ) → c ≤ b → with_some g t order q xs i u b ≡ false
unfolding is_free
free_none g t order q c u xs early begun free i b le =
    let parts = or_parts _ _ (sym (list_any-append (λ h. nat_eq h.unit u && holds_at c h) (taken_along g t order q) xs) ∙ not_false _ free) in
    let rest : list_any (λ h. nat_eq h.unit u && holds_at b h) xs ≡ false = gone_later u c b xs begun le parts.1 in
    elim (cases_lt i q) [
      | inl low ↦
          (let k : ℕ = slice_index order i in
          let none : holds_one g t u b k ≡ false = gone_later u c b (taken_of g t k) (begun_by c (t k).issue (g.row k).uses (t k).units (early i low)) le (along_none g t order (λ h. nat_eq h.unit u && holds_at c h) q i parts.0 low) in
          rw (none, rest) (both (nat_lt i q) (nat_eq i q)))
      | inr past ↦ (let e : nat_lt i q ≡ false = grind (arith, nat_tests, past) in rw (e, rest) (both false (nat_eq i q)))
    ]
  where
    both : (x y : Bool) → ((x && false) || (y && false)) ≡ false
    both true true = refl
    both true false = refl
    both false true = refl
    both false false = refl

nil : {X : Type 0} (xs : List X) → xs ++ [] ≡ xs
nil [] = refl
nil (x ∷ xs) = ap (λ l. x ∷ l) (nil xs)

joined : {X : Type 0} (xs ys zs : List X) → (xs ++ ys) ++ zs ≡ xs ++ (ys ++ zs)
joined [] ys zs = refl
joined (x ∷ xs) ys zs = ap (λ l. x ∷ l) (joined xs ys zs)

with_one : (g : Input) (t : Table) (order : List ℕ) (q c : ℕ) (xs : List Taken) (h : Taken) → h.from ≡ c → (i u b : ℕ) → c ≤ b
    → with_some g t order q (xs ++ h ∷ []) i u b ≡ (with_some g t order q xs i u b || (nat_eq i q && nat_eq h.unit u && nat_lt b (h.from + h.hold)))
unfolding holds_at
with_one g t order q c xs h from i u b le =
    let there : nat_le h.from b ≡ true = (let k : h.from ≤ b = omega (arith, from, le) in grind (arith, nat_tests, k)) in
    ap (λ l. (nat_lt i q && holds_one g t u b (slice_index order i)) || (nat_eq i q && l)) (list_any-append (λ h. nat_eq h.unit u && holds_at b h) xs (h ∷ []))
    ∙ ap (λ l. (nat_lt i q && holds_one g t u b (slice_index order i)) || (nat_eq i q && (list_any (λ h. nat_eq h.unit u && holds_at b h) xs || l))) (any_one (λ h. nat_eq h.unit u && holds_at b h) h)
    ∙ ap (λ l. (nat_lt i q && holds_one g t u b (slice_index order i)) || (nat_eq i q && (list_any (λ h. nat_eq h.unit u && holds_at b h) xs || (nat_eq h.unit u && (l && nat_lt b (h.from + h.hold)))))) there
    ∙ parts (nat_lt i q && holds_one g t u b (slice_index order i)) (nat_eq i q) (list_any (λ h. nat_eq h.unit u && holds_at b h) xs) (nat_eq h.unit u) (nat_lt b (h.from + h.hold))
  where
    parts : (x y l p r : Bool) → (x || (y && (l || (p && r)))) ≡ ((x || (y && l)) || (y && p && r))
    parts true y l p r = refl
    parts false false l p r = refl
    parts false true true p r = refl
    parts false true false p r = refl

-- the uses of a row are noted one after another
all_noted : (g : Input) (t : Table) (order : List ℕ) (q c : ℕ) (xs hs : List Taken) (last : List Taker) → ((i : ℕ) → i < q → (t (slice_index order i)).issue ≤ c) → list_all (λ h. nat_le h.from c) xs ≡ true
    → length last ≡ g.machine.unit_count → ArePicked g.machine (taken_along g t order q ++ xs) c hs → KeepsLast g.machine.unit_count (with_some g t order q xs) c last
    → KeepsLast g.machine.unit_count (with_some g t order q (xs ++ hs)) c (noted q hs last)
all_noted g t order q c xs [] last early begun size picked h = subst (λ l. KeepsLast g.machine.unit_count (with_some g t order q l) c last) (sym (nil xs)) h
all_noted g t order q c xs (x ∷ hs) last early begun size picked h =
    let more : list_all (λ h. nat_le h.from c) (xs ++ x ∷ []) ≡ true = (let e : nat_le x.from c ≡ true = (let le : x.from ≤ c = omega (arith, picked.0) in grind (arith, nat_tests, le)) in all_more xs begun e) in
    let step : KeepsLast g.machine.unit_count (with_some g t order q (xs ++ x ∷ [])) c (slice_set last x.unit (record { place = q; until = x.from + x.hold })) =
    last_more g.machine.unit_count (with_some g t order q xs) (with_some g t order q (xs ++ x ∷ [])) c q x.unit (x.from + x.hold) last h size picked.1 (free_none g t order q c x.unit xs early begun picked.2) (with_one g t order q c xs x picked.0) in
    let rest : ArePicked g.machine (taken_along g t order q ++ (xs ++ x ∷ [])) c hs = subst (λ l. ArePicked g.machine l c hs) (joined (taken_along g t order q) xs (x ∷ [])) picked.3 in
    subst (λ l. KeepsLast g.machine.unit_count (with_some g t order q l) c (noted q hs (slice_set last x.unit (record { place = q; until = x.from + x.hold })))) (joined xs (x ∷ []) hs)
    (all_noted g t order q c (xs ++ x ∷ []) hs (slice_set last x.unit (record { place = q; until = x.from + x.hold })) early more (length-set last x.unit (record { place = q; until = x.from + x.hold }) ∙ size) rest step)
  where
    all_more : (ys : List Taken) → list_all (λ h. nat_le h.from c) ys ≡ true → nat_le x.from c ≡ true → list_all (λ h. nat_le h.from c) (ys ++ x ∷ []) ≡ true
    all_more [] b e = list_all_cons (λ h. nat_le h.from c) x [] ∙ (rw e refl)
    all_more (y ∷ ys) b e =
        let parts : (nat_le y.from c ≡ true) × (list_all (λ h. nat_le h.from c) ys ≡ true) = and_parts _ _ (sym (list_all_cons (λ h. nat_le h.from c) y ys) ∙ b) in
        list_all_cons (λ h. nat_le h.from c) y (ys ++ x ∷ []) ∙ (rw (parts.0, all_more ys parts.1 e) refl)

length_noted : (q : ℕ) (hs : List Taken) (last : List Taker) → length (noted q hs last) ≡ length last
length_noted q [] last = refl
length_noted q (h ∷ hs) last = length_noted q hs (slice_set last h.unit (record { place = q; until = h.from + h.hold })) ∙ length-set last h.unit (record { place = q; until = h.from + h.hold })

-- so are those of the next row of the order
pub holders_more : (g : Input) (t : Table) (order : List ℕ) (q a : ℕ) (last : List Taker) → ((i : ℕ) → i < q → (t (slice_index order i)).issue ≤ (t (slice_index order q)).issue) → a ≤ (t (slice_index order q)).issue
    → ArePicked g.machine (taken_along g t order q) (t (slice_index order q)).issue (taken_of g t (slice_index order q)) → AreHolders g t order q a last
    → AreHolders g t order (q + 1) (t (slice_index order q)).issue (noted q (taken_of g t (slice_index order q)) last)
holders_more g t order q a last early le picked h =
    let c : ℕ = (t (slice_index order q)).issue in
    let hs : List Taken = taken_of g t (slice_index order q) in
    let before : KeepsLast g.machine.unit_count (with_some g t order q []) c last = record {
      latest = λ i u b lt later holds. (let is : (nat_lt i q && holds_one g t u b (slice_index order i)) ≡ true = drop_none _ (nat_eq i q) holds in
          let parts : (nat_lt i q ≡ true) × (holds_one g t u b (slice_index order i) ≡ true) = and_parts _ _ is in
          let low : i < q = grind (arith, nat_tests, parts.0) in h.latest i u b low lt (omega (arith, le, later)) parts.1);
      real = λ u b lt later soon. (let r = h.real u b lt (omega (arith, le, later)) soon in let low : nat_lt (taker_at last u).place q ≡ true = (let k : (taker_at last u).place < q = r.0 in grind (arith, nat_tests, k)) in rw (low, r.1) refl);
    } in
    let after : KeepsLast g.machine.unit_count (with_some g t order q hs) c (noted q hs last) = all_noted g t order q c [] hs last early refl h.size (subst (λ l. ArePicked g.machine l c hs) (sym (nil (taken_along g t order q))) picked) before in
    record {
      size = length_noted q hs last ∙ h.size;
      latest = λ i u b lt low later holds. after.latest i u b low later (elim (cases_lt i q) [
        | inl less ↦ (let e : nat_lt i q ≡ true = grind (arith, nat_tests, less) in rw (e, holds) refl)
        | inr past ↦ (let here : i ≡ q = omega (arith, past, lt) in
            let mine : list_any (λ h. nat_eq h.unit u && holds_at b h) hs ≡ true = subst (λ x. holds_one g t u b (slice_index order x) ≡ true) here holds in
            let e : nat_lt i q ≡ false = grind (arith, nat_tests, past) in let s : nat_eq i q ≡ true = grind (arith, nat_tests, here) in rw (e, s, mine) refl)
      ]);
      real = λ u b lt later soon. real_of u b (after.real u b lt later soon);
    }
  where
    drop_none : (x y : Bool) → (x || (y && false)) ≡ true → x ≡ true
    drop_none true y e = refl
    drop_none false true e = cc
    drop_none false false e = cc

    real_of : (u b : ℕ) → with_some g t order q (taken_of g t (slice_index order q)) (taker_at (noted q (taken_of g t (slice_index order q)) last) u).place u b ≡ true
        → ((taker_at (noted q (taken_of g t (slice_index order q)) last) u).place < q + 1) × (holds_one g t u b (slice_index order (taker_at (noted q (taken_of g t (slice_index order q)) last) u).place) ≡ true)
    real_of u b is = split (taker_at (noted q (taken_of g t (slice_index order q)) last) u).place is
      where
        split : (p : ℕ) → with_some g t order q (taken_of g t (slice_index order q)) p u b ≡ true → (p < q + 1) × (holds_one g t u b (slice_index order p) ≡ true)
        split p is = elim (or_cases (nat_lt p q && holds_one g t u b (slice_index order p)) (nat_eq p q && list_any (λ h. nat_eq h.unit u && holds_at b h) (taken_of g t (slice_index order q))) is) [
          | inl first ↦ (let parts : (nat_lt p q ≡ true) × (holds_one g t u b (slice_index order p) ≡ true) = and_parts _ _ first in let low : p < q = grind (arith, nat_tests, parts.0) in (omega (arith, low), parts.1))
          | inr second ↦ (let parts : (nat_eq p q ≡ true) × (list_any (λ h. nat_eq h.unit u && holds_at b h) (taken_of g t (slice_index order q)) ≡ true) = and_parts _ _ second in
              let e : p ≡ q = grind (arith, nat_tests, parts.0) in (omega (arith, e), subst (λ x. holds_one g t u b (slice_index order x) ≡ true) (sym e) parts.1))
        ]

pub holders_none : (g : Input) (t : Table) (order : List ℕ) (last : List Taker) → last ≡ replicate g.machine.unit_count (record { place = 0; until = 0 }) → length last ≡ g.machine.unit_count → AreHolders g t order 0 0 last
holders_none g t order last is size = record {
  size = size;
  latest = λ i u b lt. absurd (omega (arith, lt));
  real = λ u b lt le soon. absurd (let none : taker_at last u ≡ record { place = 0; until = 0 } = ap (λ l. taker_at l u) is ∙ zeros g.machine.unit_count u in omega (arith, soon, ap (λ y. y.until) none));
}
  where
    zeros : (n u : ℕ) → taker_at (replicate n (record { place = 0; until = 0 })) u ≡ record { place = 0; until = 0 }
    zeros zero u = refl
    zeros (suc n) zero = refl
    zeros (suc n) (suc u) = zeros n u
