-- Uses that can be met find their units where no earlier use holds one.
use Rattle.std.proofs.Common.{zero, suc, ◌≡◌, ℕ, ◌+◌, ◌-◌, ◌<◌, ◌≤◌, inl, inr, List, [], ◌∷◌, ◌++◌, arith, sym, ◌∙◌, ap, subst, refl, Bool, true, false, ◌&&◌, ◌||◌, not, append_assoc, append-nil}
use Rattle.std.specs.Prelude.{nat_lt, nat_eq, count_by, if◌then◌else◌, Option, Some, None, is_some}
use Rattle.std.specs.List.{list_any}
use Rattle.std.proofs.lemmas.Bool.{cases_Bool, cases_lt, cases_eq, and_parts, lt-ltb, both_ways, eq-eqb, ne_eqb, not-false, ltb-true}
use Rattle.std.proofs.lemmas.List.Folds.{list_any-append}
use Rattle.std.proofs.lemmas.List.Sums.{sum_by-append}
use Rattle.machine_model.specs.Meaning.{MachineMeaning}
use Rattle.machine_model.specs.Uses.{units_of, share_unit, can_meet}
use Rattle.machine_model.specs.declared.facts.Use.{Use}
use Rattle.cycle_rules.specs.Below.{first_from, count_below}
use Rattle.cycle_rules.specs.Pick.{Taken, holds_at, is_free, place_after, cyclic_from, or_else, pick_unit, pick_units, prepend, add_front}
use Rattle.cycle_rules.specs.Bind.{AreUses}
use Rattle.cycle_rules.specs.Held.{AllEnd}
use Rattle.cycle_rules.proofs.Counts.{count_none}
use Rattle.cycle_rules.proofs.Tests.{and_false, and_true, or_parts}

-- how many of the uses have a unit that passes
abbrev pub hits : (ℕ → Bool) → List Taken → ℕ
hits p [] = 0
hits p (h ∷ hs) = (if p h.unit then 1 else 0) + hits p hs

hits-append : (p : ℕ → Bool) (xs ys : List Taken) → hits p (xs ++ ys) ≡ hits p xs + hits p ys
hits-append p [] ys = omega arith
hits-append p (x ∷ xs) ys = omega (arith, hits-append p xs ys)

-- uses that share a unit with a resource
abbrev pub rivals : MachineMeaning → List Use → ℕ → ℕ
rivals m before r = count_by (λ v. share_unit m v.resource r) before

rivals-append : (m : MachineMeaning) (before : List Use) (w : Use) (r : ℕ) → rivals m (before ++ w ∷ []) r ≡ rivals m before r + (if share_unit m w.resource r then 1 else 0)
rivals-append m before w r = sum_by-append (λ v. if share_unit m v.resource r then 1 else 0) before (w ∷ []) ∙ ap (λ n. rivals m before r + n) one
  where
    one : 0 + (if share_unit m w.resource r then 1 else 0) ≡ (if share_unit m w.resource r then 1 else 0)
    one = omega arith

-- Counts

count_one : (n x : ℕ) (p : ℕ → Bool) → count_below n (λ u. p u && nat_eq x u) ≤ (if p x then 1 else 0)
unfolding count_below
count_one zero x p = omega arith
count_one (suc n) x p = elim (cases_eq x n) [
  | inl e ↦ (let zero_before : count_below n (λ u. p u && nat_eq x u) ≡ 0 = count_none n _ (λ u lt. rw (ne_eqb x u (λ s. absurd (omega (arith, s, e)))) (and_false (p u))) in
      let last : (p n && nat_eq x n) ≡ p x = rw (e, eq-eqb n n refl) (and_true (p n)) in
      rw last (omega (arith, zero_before)))
  | inr ne ↦ (let none_here : (p n && nat_eq x n) ≡ false = rw (ne_eqb x n ne) (and_false (p n)) in
      let rest : count_below n (λ u. p u && nat_eq x u) ≤ (if p x then 1 else 0) = count_one n x p in
      rw none_here (omega (arith, rest)))
]

count_or : (n : ℕ) (p a b : ℕ → Bool) → count_below n (λ u. p u && (a u || b u)) ≤ count_below n (λ u. p u && a u) + count_below n (λ u. p u && b u)
unfolding count_below
count_or zero p a b = omega arith
count_or (suc n) p a b = go (count_or n p a b) (p n) (a n) (b n)
  where
    go : count_below n (λ u. p u && (a u || b u)) ≤ count_below n (λ u. p u && a u) + count_below n (λ u. p u && b u) → (x y z : Bool)
        → count_below n (λ u. p u && (a u || b u)) + (if (x && (y || z)) then 1 else 0) ≤ (count_below n (λ u. p u && a u) + (if (x && y) then 1 else 0)) + (count_below n (λ u. p u && b u) + (if (x && z) then 1 else 0))
    go h true true true = omega arith
    go h true true false = omega arith
    go h true false true = omega arith
    go h true false false = omega arith
    go h false y z = omega arith

pub count_less : (n : ℕ) (p q : ℕ → Bool) → ((u : ℕ) → u < n → p u ≡ true → q u ≡ true) → count_below n p ≤ count_below n q
unfolding count_below
count_less zero p q h = omega arith
count_less (suc n) p q h = go (count_less n p q (λ u lt. h u (omega arith))) (p n) (q n) (h n (omega arith))
  where
    go : count_below n p ≤ count_below n q → (x y : Bool) → (x ≡ true → y ≡ true) → count_below n p + (if x then 1 else 0) ≤ count_below n q + (if y then 1 else 0)
    go h true true e = omega arith
    go h true false e = absurd (both_ways false refl (e refl))
    go h false y e = omega arith

count_some : (n u : ℕ) (p : ℕ → Bool) → u < n → p u ≡ true → 0 < count_below n p
unfolding count_below
count_some zero u p lt e = absurd (omega arith)
count_some (suc n) u p lt e = elim (cases_lt u n) [
  | inl low ↦ omega (arith, count_some n u p low e)
  | inr high ↦ (let last : p n ≡ true = subst (λ v. p v ≡ true) (omega arith) e in rw last (omega arith))
]

le_trans : (a b c : ℕ) → a ≤ b → b ≤ c → a ≤ c
le_trans a b c p q = omega arith

drop_hold : (x y z w : Bool) → (x && ((y && z) || w)) ≡ true → (x && (y || w)) ≡ true
drop_hold x y z w h = grind (arith, h)

-- units that are held are no more than the uses that hold them
held_few : (n c : ℕ) (p : ℕ → Bool) (hs : List Taken) → count_below n (λ u. p u && list_any (λ h. nat_eq h.unit u && holds_at c h) hs) ≤ hits p hs
held_few n c p [] = omega (arith, count_none n (λ u. p u && false) (λ u _. and_false (p u)))
held_few n c p (h ∷ hs) =
    let split : count_below n (λ u. p u && list_any (λ h. nat_eq h.unit u && holds_at c h) (h ∷ hs)) ≤ count_below n (λ u. p u && nat_eq h.unit u) + count_below n (λ u. p u && list_any (λ h. nat_eq h.unit u && holds_at c h) hs)
    = le_trans _ _ _ (count_less n _ _ (λ u _. drop_hold (p u) (nat_eq h.unit u) (holds_at c h) (list_any (λ h. nat_eq h.unit u && holds_at c h) hs)))
    (count_or n p (λ u. nat_eq h.unit u) (λ u. list_any (λ h. nat_eq h.unit u && holds_at c h) hs)) in
    omega (arith, split, held_few n c p hs, count_one n h.unit p)

-- Searches

first_none : (a n : ℕ) (p : ℕ → Bool) → first_from a n p ≡ None → (u : ℕ) → a ≤ u → u < a + n → p u ≡ false
unfolding first_from
first_none a zero p e u le lt = absurd (omega arith)
first_none a (suc n) p e u le lt = elim (cases_Bool (p a)) [
  | inl here ↦ (let f : Some a ≡ None = rw here at e in cc)
  | inr gone ↦ elim (cases_lt a u) [ inl more ↦ first_none (a + 1) n p (rw gone at e) u (omega arith) (omega arith) | inr same ↦ (let s : u ≡ a = omega arith in rw s gone) ]
]

first_some : (a n : ℕ) (p : ℕ → Bool) (u : ℕ) → first_from a n p ≡ Some u → (p u ≡ true) × (a ≤ u) × (u < a + n)
unfolding first_from
first_some a zero p u e = cc
first_some a (suc n) p u e = elim (cases_Bool (p a)) [
  | inl here ↦ (let s : a ≡ u = some_same a u (rw here at e) in (rw (← s) here, omega arith, omega arith))
  | inr gone ↦ (let r : (p u ≡ true) × (a + 1 ≤ u) × (u < a + 1 + n) = first_some (a + 1) n p u (rw gone at e) in (r.0, omega (arith, r.1), omega (arith, r.2)))
]
  where
    some_same : (x y : ℕ) → Some x ≡ Some y → x ≡ y
    some_same x y h = cc

-- a unit that a use picks is one of its resource, and free; where it picks none, all its units are held
pub pick_unit_some : (m : MachineMeaning) (e : List Taken) (c r u : ℕ) → pick_unit m e c r ≡ Some u → (u < m.unit_count) × (m.units r u ≡ true) × (is_free e c u ≡ true)
unfolding pick_unit cyclic_from
pick_unit_some m e c r u h = go (first_from (place_after r e) (m.unit_count - place_after r e) p) refl h
  where
    p : ℕ → Bool
    p v = m.units r v && is_free e c v

    low : (a n v : ℕ) → a ≤ v → v < a + (n - a) → v < n
    low a n v le lt = omega arith

    some_same : (x y : ℕ) → Some x ≡ Some y → x ≡ y
    some_same x y h = cc

    go : (o : Option ℕ) → first_from (place_after r e) (m.unit_count - place_after r e) p ≡ o → or_else o (first_from 0 m.unit_count p) ≡ Some u → (u < m.unit_count) × (m.units r u ≡ true) × (is_free e c u ≡ true)
    go (Some x) f h =
        let q : (p x ≡ true) × (place_after r e ≤ x) × (x < place_after r e + (m.unit_count - place_after r e)) = first_some _ _ p x f in
        let s : x ≡ u = some_same x u h in
        rw (← s) (low _ _ _ q.1 q.2, (and_parts _ _ q.0).0, (and_parts _ _ q.0).1)
    go None f h = let q : (p u ≡ true) × (0 ≤ u) × (u < 0 + m.unit_count) = first_some 0 m.unit_count p u h in (omega (arith, q.2), (and_parts _ _ q.0).0, (and_parts _ _ q.0).1)

pub pick_unit_none : (m : MachineMeaning) (e : List Taken) (c r : ℕ) → pick_unit m e c r ≡ None → (u : ℕ) → u < m.unit_count → (m.units r u && is_free e c u) ≡ false
unfolding pick_unit cyclic_from
pick_unit_none m e c r h u lt = first_none 0 m.unit_count _ (second _ _ h) u (omega arith) (omega arith)
  where
    second : (a b : Option ℕ) → or_else a b ≡ None → b ≡ None
    second (Some x) b h = cc
    second None b h = h

-- uses of which none holds its unit hold no single one
none_held : (c u : ℕ) (hs : List Taken) → list_any (holds_at c) hs ≡ false → list_any (λ h. nat_eq h.unit u && holds_at c h) hs ≡ false
none_held c u [] h = refl
none_held c u (x ∷ hs) h =
    let p : (holds_at c x ≡ false) × (list_any (holds_at c) hs ≡ false) = or_parts _ _ h in
    rw (p.0, and_false (nat_eq x.unit u), none_held c u hs p.1) refl

-- a unit of two resources makes them share one
shares : (m : MachineMeaning) (q r u : ℕ) → u < m.unit_count → m.units q u ≡ true → m.units r u ≡ true → share_unit m q r ≡ true
shares m q r u lt in_q in_r = lt-ltb 0 (count_below m.unit_count (λ v. m.units q v && m.units r v)) (count_some m.unit_count u (λ v. m.units q v && m.units r v) lt (rw (in_q, in_r) refl))

front_some : (u : ℕ) (o : Option (List ℕ)) → is_some (add_front u o) ≡ is_some o
front_some u (Some us) = refl
front_some u None = refl

all_held : (m : MachineMeaning) (c : ℕ) (e own : List Taken) (r u : ℕ) → list_any (holds_at c) e ≡ false → m.units r u ≡ true → (m.units r u && is_free (e ++ own) c u) ≡ false
    → (m.units r u && list_any (λ h. nat_eq h.unit u && holds_at c h) own) ≡ true
unfolding is_free
all_held m c e own r u end is none_free =
    let held : not (list_any (λ h. nat_eq h.unit u && holds_at c h) (e ++ own)) ≡ false = rw is at none_free in
    let both : list_any (λ h. nat_eq h.unit u && holds_at c h) (e ++ own) ≡ (false || list_any (λ h. nat_eq h.unit u && holds_at c h) own)
    = list_any-append (λ h. nat_eq h.unit u && holds_at c h) e own ∙ ap (λ b. b || list_any (λ h. nat_eq h.unit u && holds_at c h) own) (none_held c u e end) in
    rw is (sym both ∙ not-false _ held)

units_few : (m : MachineMeaning) (c : ℕ) (own : List Taken) (r : ℕ) → ((u : ℕ) → u < m.unit_count → m.units r u ≡ true → (m.units r u && list_any (λ h. nat_eq h.unit u && holds_at c h) own) ≡ true)
    → units_of m r ≤ hits (m.units r) own
units_few m c own r held = le_trans _ _ _ (count_less m.unit_count (m.units r) (λ u. m.units r u && list_any (λ h. nat_eq h.unit u && holds_at c h) own) held) (held_few m.unit_count c (m.units r) own)

-- where the uses of other rows have ended, some unit is left for each use
picks_free : (m : MachineMeaning) (c : ℕ) (e own : List Taken) (before uses : List Use) → list_any (holds_at c) e ≡ false
    → ((r : ℕ) → hits (m.units r) own ≤ rivals m before r) → can_meet (units_of m) (share_unit m) before uses ≡ true → is_some (pick_units m (e ++ own) c uses) ≡ true
unfolding pick_units
picks_free m c e own before [] end few met = refl
picks_free m c e own before (w ∷ rest) end few met = elim (cases_Bool (nat_eq w.hold 0)) [
  | inl zero_hold ↦ rw zero_hold (front_some _ _ ∙ picks_free m c e own before rest end few (rw zero_hold at met))
  | inr more ↦ (let parts : (nat_lt (rivals m before w.resource) (units_of m w.resource) ≡ true) × (can_meet (units_of m) (share_unit m) (before ++ w ∷ []) rest ≡ true) = and_parts _ _ (rw more at met) in
      rw more (go (pick_unit m (e ++ own) c w.resource) refl
      (λ u h. rw append_assoc (picks_free m c e (own ++ taken u ∷ []) (before ++ w ∷ []) rest end (few_next u h) parts.1)) (covered parts.0)))
]
  where
    taken : ℕ → Taken
    taken u = record { resource = w.resource; hold = w.hold; unit = u; from = c }

    next : ℕ → Option (List ℕ)
    next u = pick_units m (e ++ own ++ taken u ∷ []) c rest

    few_next : (u : ℕ) → pick_unit m (e ++ own) c w.resource ≡ Some u → (r : ℕ) → hits (m.units r) (own ++ taken u ∷ []) ≤ rivals m (before ++ w ∷ []) r
    few_next u h r =
        let q : (u < m.unit_count) × (m.units w.resource u ≡ true) × (is_free (e ++ own) c u ≡ true) = pick_unit_some m (e ++ own) c w.resource u h in
        let one : (if m.units r u then 1 else 0) ≤ (if share_unit m w.resource r then 1 else 0) = elim (cases_Bool (m.units r u)) [
          | inl in_r ↦ rw (in_r, shares m w.resource r u q.0 q.1 in_r) (omega arith)
          | inr out ↦ rw out (omega arith)
        ] in
        omega (arith, few r, one, hits-append (m.units r) own (taken u ∷ []), rivals-append m before w r)

    covered : nat_lt (rivals m before w.resource) (units_of m w.resource) ≡ true → pick_unit m (e ++ own) c w.resource ≡ None → ⊥
    covered more h =
        let r : ℕ = w.resource in
        let held : (u : ℕ) → u < m.unit_count → m.units r u ≡ true → (m.units r u && list_any (λ h. nat_eq h.unit u && holds_at c h) own) ≡ true
        = λ u lt is. all_held m c e own r u end is (pick_unit_none m (e ++ own) c r h u lt) in
        let few_units : units_of m r ≤ hits (m.units r) own = units_few m c own r held in
        omega (arith, few r, few_units, ltb-true _ _ more)

    go : (o : Option ℕ) → pick_unit m (e ++ own) c w.resource ≡ o → ((u : ℕ) → pick_unit m (e ++ own) c w.resource ≡ Some u → is_some (next u) ≡ true)
        → (pick_unit m (e ++ own) c w.resource ≡ None → ⊥) → is_some (prepend o next) ≡ true
    go (Some u) h each never_none = front_some u (next u) ∙ each u h
    go None h each never_none = absurd (never_none h)

pub units_found : (m : MachineMeaning) (earlier : List Taken) (c : ℕ) (uses : List Use) → AreUses m uses → AllEnd c earlier → is_some (pick_units m earlier c uses) ≡ true
units_found m e c uses bound end = subst (λ l. is_some (pick_units m l c uses) ≡ true) (append-nil e) (picks_free m c e [] [] uses (end c (omega arith)) (λ r. omega arith) bound.met)
