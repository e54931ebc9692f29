-- How what is kept goes on: with later cycles, and with a use that takes a unit.
use Rattle.std.proofs.Common.{zero, suc, ◌≡◌, ℕ, ◌+◌, ◌-◌, ◌<◌, ◌≤◌, ◌⊎◌, inl, inr, min, List, [], ◌∷◌, ◌++◌, arith, sym, ◌∙◌, ap, subst, refl, Bool, true, false, ◌&&◌, ◌||◌, not}
use Rattle.std.specs.Prelude.{nat_lt, nat_le, nat_eq, if◌then◌else◌, Option, Some, None, is_some}
use Rattle.std.specs.List.{list_any, list_all}
use Rattle.std.proofs.lemmas.Bool.Decides.{nat_tests}
use Rattle.std.proofs.lemmas.Bool.{cases_Bool, cases_lt, and_parts, eqb-true, eq-eqb, ne_eqb, le-leb, leb-true, lt-ltb, ltb-true, le-ltb, both_ways}
use Rattle.std.proofs.lemmas.List.Folds.{list_all-append}
use Rattle.machine_model.specs.Meaning.{MachineMeaning}
use Rattle.cycle_rules.specs.Pick.{Taken, or_else, is_free, place_after}
use Rattle.cycle_rules.specs.Held.{AllBegun, NoChange, changes_at}
use Rattle.resource_units.specs.Kept.{any_below, never, IsSoonest, IsKept, ShowsTaken, ShowsHeld, IsNextChange, AnswersTime, AnswersChange, ComesBefore, last_taken, use_at}
use Rattle.resource_units.proofs.Look.{any_some, some_any}
use Rattle.resource_units.proofs.Shows.{any_one, place_one, free_one, eq_swap}

-- Later cycles

begun_later : (a b : ℕ) (taken : List Taken) → a ≤ b → AllBegun a taken → AllBegun b taken
begun_later a b [] le h = refl
begun_later a b (x ∷ xs) le h =
    let parts : (nat_le x.from a ≡ true) × (list_all (λ y. nat_le y.from a) xs ≡ true) = and_parts _ _ h in
    rw (le-leb x.from b (omega (arith, leb-true _ _ parts.0, le)), begun_later a b xs le parts.1) refl

pub shows_later : (m : MachineMeaning) (a b : ℕ) (until place : ℕ → ℕ) (taken : List Taken) → a ≤ b → ShowsTaken m a until place taken → ShowsTaken m b until place taken
shows_later m a b until place taken le s = record {
  begun = begun_later a b taken le s.begun;
  free = λ u d lt low. s.free u d lt (omega (arith, le, low));
  changes = λ d low. s.changes d (omega (arith, le, low));
  places = s.places;
}

pub kept_later : (n a b : ℕ) (marked : ℕ → Bool) (until : ℕ → ℕ) (next : ℕ) → a ≤ b → IsKept n a marked until next → IsKept n b marked until next
kept_later n a b marked until next le k = record { free = λ u lt gone. omega (arith, k.free u lt gone, le); soonest = k.soonest; low = k.low }

-- What is held in a cycle

pub held_exact : (n c : ℕ) (marked : ℕ → Bool) (until : ℕ → ℕ) (next : ℕ) → IsKept n c marked until next → c < next → (u : ℕ) → u < n → marked u ≡ nat_lt c (until u)
held_exact n c marked until next k early u lt = elim (cases_Bool (marked u)) [
  | inl is ↦ is ∙ sym (lt-ltb c (until u) (omega (arith, early, k.soonest.low u lt is)))
  | inr gone ↦ gone ∙ sym (le-ltb c (until u) (k.free u lt gone))
]

pub held_looked : (n c : ℕ) (marked held : ℕ → Bool) (until : ℕ → ℕ) (next : ℕ) → IsKept n c marked until next → ((u : ℕ) → u < n → held u ≡ (marked u && nat_lt c (until u))) → (u : ℕ) → u < n → held u ≡ nat_lt c (until u)
held_looked n c marked held until next k is u lt = is u lt ∙ elim (cases_Bool (marked u)) [
  | inl yes_now ↦ rw yes_now refl
  | inr gone ↦ rw gone (sym (le-ltb c (until u) (k.free u lt gone)))
]

pub shows_held : (m : MachineMeaning) (c : ℕ) (held : ℕ → Bool) (until place : ℕ → ℕ) (taken : List Taken) → ShowsTaken m c until place taken → ((u : ℕ) → u < m.unit_count → held u ≡ nat_lt c (until u)) → ShowsHeld m c held place taken
shows_held m c held until place taken s is = record {
  units = λ u lt. is u lt ∙ sym (ap not (s.free u c lt (omega arith)) ∙ flip (until u));
  places = s.places;
}
  where
    flip : (x : ℕ) → not (nat_le x c) ≡ nat_lt c x
    flip x = grind (arith, nat_tests)

-- after the units are looked through
pub looked_kept : (n a c : ℕ) (marked held : ℕ → Bool) (until : ℕ → ℕ) (next soon : ℕ) → a ≤ c → IsKept n a marked until next → ((u : ℕ) → u < n → held u ≡ (marked u && nat_lt c (until u))) → IsSoonest n held until soon → IsKept n c held until soon
looked_kept n a c marked held until next soon le k is s = record {
  free = λ u lt gone. elim (cases_lt c (until u)) [
    | inr past ↦ past
    | inl still ↦ elim (cases_Bool (marked u)) [
      | inl m ↦ absurd (both_ways (held u) gone (is u lt ∙ rw (m, lt-ltb c (until u) still) refl))
      | inr g ↦ omega (arith, k.free u lt g, le)
    ]
  ];
  soonest = s;
  low = k.low;
}

pub looked_late : (n c : ℕ) (marked held : ℕ → Bool) (until : ℕ → ℕ) (soon : ℕ) → c < never → ((u : ℕ) → u < n → held u ≡ (marked u && nat_lt c (until u))) → IsSoonest n held until soon → c < soon
looked_late n c marked held until soon low is s = elim (cases_Bool (nat_eq soon never)) [
  | inl at_end ↦ omega (arith, low, eqb-true _ _ at_end)
  | inr some ↦ (let found : (u : ℕ) × (u < n) × ((held u && nat_eq (until u) soon) ≡ true) = any_some n _ (rw some at s.is) in
      let parts : (held found.0 ≡ true) × (nat_eq (until found.0) soon ≡ true) = and_parts _ _ found.2 in
      let still : nat_lt c (until found.0) ≡ true = (and_parts (marked found.0) _ (sym (is found.0 found.1) ∙ parts.0)).1 in
      omega (arith, ltb-true _ _ still, eqb-true _ _ parts.1))
]

-- A use that takes a unit

and_true : (b : Bool) → (b && true) ≡ b
and_true true = refl
and_true false = refl

any_along : (n : ℕ) (p q : ℕ → Bool) → ((u : ℕ) → u < n → p u ≡ true → q u ≡ true) → any_below n p ≡ true → any_below n q ≡ true
any_along n p q h some = (let found : (u : ℕ) × (u < n) × (p u ≡ true) = any_some n p some in some_any n found.0 q found.1 (h found.0 found.1 found.2))

same_bool : (a b : Bool) → (a ≡ true → b ≡ true) → (b ≡ true → a ≡ true) → a ≡ b
same_bool true b p q = sym (p refl)
same_bool false true p q = q refl
same_bool false false p q = refl

or_cases : (a b : Bool) → (a || b) ≡ true → (a ≡ true) ⊎ (b ≡ true)
or_cases true b h = inl refl
or_cases false b h = inr h

or_left : (a b : Bool) → a ≡ true → (a || b) ≡ true
or_left a b h = rw h refl

or_right : (a b : Bool) → b ≡ true → (a || b) ≡ true
or_right true b h = refl
or_right false b h = h

-- the times after unit u is held up to another
abbrev pub set_time : (ℕ → ℕ) → ℕ → ℕ → ℕ → ℕ
set_time until u time v = if nat_eq v u then time else until v

pub takes_begun : (c r hold u : ℕ) (taken : List Taken) → AllBegun c taken → AllBegun c (taken ++ use_at c r hold u ∷ [])
takes_begun c r hold u taken h = list_all-append (λ x. nat_le x.from c) taken (use_at c r hold u ∷ []) ∙ rw (h, le-leb c c (omega arith)) refl

takes_changes : (m : MachineMeaning) (c b r hold u : ℕ) (until : ℕ → ℕ) (taken : List Taken) → u < m.unit_count → until u ≤ c → 0 < hold → c < b → list_any (changes_at m b) taken ≡ any_below m.unit_count (λ v. nat_eq (until v) b)
    → list_any (changes_at m b) (taken ++ use_at c r hold u ∷ []) ≡ any_below m.unit_count (λ v. nat_eq (set_time until u (c + hold) v) b)
unfolding changes_at
takes_changes m c b r hold u until taken lt free some late h =
    any_one (λ x. nat_lt 0 x.hold && nat_eq b (x.from + x.hold)) taken (use_at c r hold u) ∙ rw (h, lt-ltb 0 hold some) (same_bool _ _ there back)
  where
    there : (any_below m.unit_count (λ v. nat_eq (until v) b) || nat_eq b (c + hold)) ≡ true → any_below m.unit_count (λ v. nat_eq (set_time until u (c + hold) v) b) ≡ true
    there e = elim (or_cases _ _ e) [
      | inl old ↦ any_along m.unit_count _ _ (λ v lv at. (let differ : nat_eq v u ≡ false = ne_eqb v u (λ same. absurd (omega (arith, eqb-true _ _ at, ap until same, free, late))) in rw differ at)) old
      | inr now_at ↦ some_any m.unit_count u _ lt (rw (eq-eqb u u refl) (eq-eqb (c + hold) b (sym (eqb-true _ _ now_at))))
    ]

    back : any_below m.unit_count (λ v. nat_eq (set_time until u (c + hold) v) b) ≡ true → (any_below m.unit_count (λ v. nat_eq (until v) b) || nat_eq b (c + hold)) ≡ true
    back e =
        let found : (v : ℕ) × (v < m.unit_count) × (nat_eq (set_time until u (c + hold) v) b ≡ true) = any_some m.unit_count _ e in
        elim (cases_Bool (nat_eq (found.0) u)) [
          | inl same ↦ or_right _ _ (eq-eqb b (c + hold) (sym (eqb-true (c + hold) b (rw same at found.2))))
          | inr differ ↦ or_left _ _ (some_any m.unit_count found.0 _ found.1 (rw differ at found.2))
        ]

-- what is kept shows the use with those before it
pub shows_take : (m : MachineMeaning) (c : ℕ) (until place : ℕ → ℕ) (taken : List Taken) (r hold u : ℕ) → u < m.unit_count → until u ≤ c → 0 < hold → ShowsTaken m c until place taken
    → ShowsTaken m c (set_time until u (c + hold)) (λ q. if nat_eq q r then u + 1 else place q) (taken ++ use_at c r hold u ∷ [])
shows_take m c until place taken r hold u lt free some s = record {
  begun = takes_begun c r hold u taken s.begun;
  free = λ v b lv le. free_one c b r hold u v taken le ∙ ap (λ x. x && not (nat_eq u v && nat_lt b (c + hold))) (s.free v b lv le) ∙ ap (λ x. nat_le (until v) b && not (x && nat_lt b (c + hold))) (eq_swap u v) ∙ one v b le;
  changes = λ b late. takes_changes m c b r hold u until taken lt free some late (s.changes b late);
  places = λ q lq. rw (s.places q lq, place_one q taken (use_at c r hold u), eq_swap q r) refl;
}
  where
    flip : (x b : ℕ) → not (nat_lt b x) ≡ nat_le x b
    flip x b = grind (arith, nat_tests)

    one : (v b : ℕ) → c ≤ b → (nat_le (until v) b && not (nat_eq v u && nat_lt b (c + hold))) ≡ nat_le (set_time until u (c + hold) v) b
    one v b le = elim (cases_Bool (nat_eq v u)) [
      | inl same ↦ (let was_free : nat_le (until v) b ≡ true = le-leb _ b (omega (arith, ap until (eqb-true _ _ same), free, le)) in rw (was_free, same) (flip (c + hold) b))
      | inr differ ↦ rw differ (and_true (nat_le (until v) b))
    ]

pub kept_take : (n c : ℕ) (marked : ℕ → Bool) (until : ℕ → ℕ) (next hold u : ℕ) → u < n → until u ≤ c → c < next → 0 < hold → c + hold < never → IsKept n c marked until next
    → IsKept n c (λ v. nat_eq v u || marked v) (set_time until u (c + hold)) (min next (c + hold))
kept_take n c marked until next hold u lt free early some small k = record {
  free = λ v lv gone. (let parts : (nat_eq v u ≡ false) × (marked v ≡ false) = or_parts _ _ gone in rw parts.0 (k.free v lv parts.1));
  soonest = record {
    low = λ v lv m. elim (cases_Bool (nat_eq v u)) [
      | inl same ↦ rw same (omega arith)
      | inr differ ↦ rw differ (omega (arith, k.soonest.low v lv (rw differ at m)))
    ];
    is = elim (cases_lt next (c + hold)) [
      | inr later ↦ (let e : min next (c + hold) ≡ c + hold = omega (arith, later) in rw e (or_right _ _ (some_any n u _ lt (rw (eq-eqb u u refl) (eq-eqb (c + hold) (c + hold) refl)))))
      | inl sooner ↦ (let e : min next (c + hold) ≡ next = omega (arith, sooner) in rw e (or_right _ _ (still sooner)))
    ];
  };
  low = λ v lv. elim (cases_Bool (nat_eq v u)) [ inl same ↦ rw same small | inr differ ↦ rw differ (k.low v lv) ];
}
  where
    or_parts : (x y : Bool) → (x || y) ≡ false → (x ≡ false) × (y ≡ false)
    or_parts false y e = (refl, e)
    or_parts true y e = cc

    still : next < c + hold → any_below n (λ v. (nat_eq v u || marked v) && nat_eq (set_time until u (c + hold) v) next) ≡ true
    still sooner =
        let some_time : nat_eq next never ≡ false = ne_eqb next never (λ e. absurd (omega (arith, e, sooner, small))) in
        any_along n _ _ (λ v lv at. (let parts : (marked v ≡ true) × (nat_eq (until v) next ≡ true) = and_parts _ _ at in
        let differ : nat_eq v u ≡ false = ne_eqb v u (λ same. absurd (omega (arith, eqb-true _ _ parts.1, ap until same, free, early))) in
        rw (differ, parts.0, parts.1) refl)) (rw some_time at k.soonest.is)

-- Changes

not_any : (n : ℕ) (p : ℕ → Bool) → ((u : ℕ) → u < n → p u ≡ false) → any_below n p ≡ false
unfolding any_below
not_any zero p h = refl
not_any (suc n) p h = rw (not_any n p (λ u lt. h u (omega arith)), h n (omega arith)) refl

-- no unit is freed above c and below the soonest time of those held
no_time : (n c : ℕ) (held : ℕ → Bool) (until : ℕ → ℕ) (soon : ℕ) → ((u : ℕ) → u < n → held u ≡ nat_lt c (until u)) → IsSoonest n held until soon → (d : ℕ) → c < d → d < soon → any_below n (λ u. nat_eq (until u) d) ≡ false
no_time n c held until soon is s d late early = not_any n _ (λ u lt. ne_eqb (until u) d (λ e. absurd (omega (arith, e, early, s.low u lt (is u lt ∙ lt-ltb c (until u) (omega (arith, e, late)))))))

pub next_change : (m : MachineMeaning) (c : ℕ) (held : ℕ → Bool) (until place : ℕ → ℕ) (soon : ℕ) (taken : List Taken) → ShowsTaken m c until place taken → ((u : ℕ) → u < m.unit_count → held u ≡ nat_lt c (until u)) → IsSoonest m.unit_count held until soon
    → soon < never → IsNextChange m c taken soon
next_change m c held until place soon taken s is least low = record {
  later = late;
  there = s.changes soon late ∙ any_along m.unit_count _ _ (λ u lt at. (and_parts _ _ at).1) here;
  none = λ d above below. s.changes d above ∙ no_time m.unit_count c held until soon is least d above below;
}
  where
    here : any_below m.unit_count (λ u. held u && nat_eq (until u) soon) ≡ true
    here = (let some_time : nat_eq soon never ≡ false = ne_eqb soon never (λ e. absurd (omega (arith, e, low))) in rw some_time at least.is)

    late : c < soon
    late =
        let found : (u : ℕ) × (u < m.unit_count) × ((held u && nat_eq (until u) soon) ≡ true) = any_some m.unit_count _ here in
        let parts : (held found.0 ≡ true) × (nat_eq (until found.0) soon ≡ true) = and_parts _ _ found.2 in
        omega (arith, ltb-true _ _ (sym (is found.0 found.1) ∙ parts.0), eqb-true _ _ parts.1)

pub no_change : (m : MachineMeaning) (c : ℕ) (held : ℕ → Bool) (until place : ℕ → ℕ) (next : ℕ) (taken : List Taken) → ShowsTaken m c until place taken → ((u : ℕ) → u < m.unit_count → held u ≡ nat_lt c (until u)) → IsSoonest m.unit_count held until never
    → ((u : ℕ) → u < m.unit_count → until u < never) → (d : ℕ) → c < d → list_any (changes_at m d) taken ≡ false
no_change m c held until place next taken s is least low d above = s.changes d above ∙ elim (cases_lt d never) [
  | inl below ↦ no_time m.unit_count c held until never is least d above below
  | inr past ↦ not_any m.unit_count _ (λ u lt. ne_eqb (until u) d (λ e. absurd (omega (arith, e, past, low u lt))))
]

-- What stands after the units are looked through

pub look_kept : (m : MachineMeaning) (n a c : ℕ) (marked held : ℕ → Bool) (until : ℕ → ℕ) (next soon : ℕ) → m.unit_count ≡ n → a ≤ c → IsKept m.unit_count a marked until next
    → ((u : ℕ) → u < n → held u ≡ (marked u && nat_lt c (until u))) → IsSoonest n held until soon → IsKept m.unit_count c held until soon
look_kept m n a c marked held until next soon count le k is s =
    looked_kept m.unit_count a c marked held until next soon le k (λ u lt. is u (omega (arith, lt, count))) (subst (λ x. IsSoonest x held until soon) (sym count) s)

next_low : (n c : ℕ) (marked : ℕ → Bool) (until : ℕ → ℕ) (next : ℕ) → IsKept n c marked until next → next ≤ never
next_low n c marked until next k = elim (cases_Bool (nat_eq next never)) [
  | inl is ↦ omega (arith, eqb-true _ _ is)
  | inr some ↦ (let found : (u : ℕ) × (u < n) × ((marked u && nat_eq (until u) next) ≡ true) = any_some n (λ u. marked u && nat_eq (until u) next) (rw some at k.soonest.is) in
      let parts : (marked found.0 ≡ true) × (nat_eq (until found.0) next ≡ true) = and_parts (marked found.0) (nat_eq (until found.0) next) found.2 in
      omega (arith, eqb-true _ _ parts.1, k.low found.0 found.1))
]

pub time_kept : (m : MachineMeaning) (c : ℕ) (marked : ℕ → Bool) (until place : ℕ → ℕ) (next : ℕ) (taken : List Taken) → c < next → IsKept m.unit_count c marked until next → ShowsTaken m c until place taken → AnswersTime m c taken next
time_kept m c marked until place next taken early k s = record {
  none = λ e. no_change m c marked until place next taken s (held_exact m.unit_count c marked until next k early) (subst (IsSoonest m.unit_count marked until) e k.soonest) k.low;
  some = λ differ. (let low : next ≤ never = next_low m.unit_count c marked until next k in
      next_change m c marked until place next taken s (held_exact m.unit_count c marked until next k early) k.soonest (grind (arith, low, differ)));
}

pub time_looked : (m : MachineMeaning) (n c : ℕ) (marked held : ℕ → Bool) (until place : ℕ → ℕ) (next soon : ℕ) (taken : List Taken) → m.unit_count ≡ n → c < never → IsKept m.unit_count c marked until next
    → ((u : ℕ) → u < n → held u ≡ (marked u && nat_lt c (until u))) → IsSoonest n held until soon → ShowsTaken m c until place taken → AnswersTime m c taken soon
time_looked m n c marked held until place next soon taken count low k is least s =
    let kept : IsKept m.unit_count c held until soon = look_kept m n c c marked held until next soon count (omega arith) k is least in
    time_kept m c held until place soon taken (looked_late n c marked held until soon low is least) kept s

-- nothing changes before the next change
pub stays_before : (m : MachineMeaning) (c : ℕ) (taken : List Taken) (o : Option ℕ) (b : ℕ) → AnswersChange m c taken o → ComesBefore o b → NoChange m c b taken
stays_before m c taken None b answers before d above below = answers d above
stays_before m c taken (Some x) b answers before d above below = answers.none d above (omega (arith, below, before))

-- The unit that was chosen last

place_last : (r : ℕ) (xs : List Taken) → (list_any (λ k. nat_eq k.resource r) xs ≡ is_some (last_taken r xs)) × (place_after r xs ≡ (elim (last_taken r xs) [ Some u ↦ u + 1 | None ↦ 0 ]))
unfolding place_after
place_last r [] = (refl, refl)
place_last r (h ∷ later) = go (last_taken r later) (place_last r later) (nat_eq h.resource r)
  where
    go : (o : Option ℕ) → (list_any (λ k. nat_eq k.resource r) later ≡ is_some o) × (place_after r later ≡ (elim o [ Some u ↦ u + 1 | None ↦ 0 ])) → (b : Bool)
        → ((b || list_any (λ k. nat_eq k.resource r) later) ≡ is_some (or_else o (if b then Some h.unit else None)))
        × ((if list_any (λ k. nat_eq k.resource r) later then place_after r later else (if b then h.unit + 1 else 0)) ≡ (elim (or_else o (if b then Some h.unit else None)) [ Some u ↦ u + 1 | None ↦ 0 ]))
    go (Some u) e true = (refl, rw (e.0, e.1) refl)
    go (Some u) e false = (rw e.0 refl, rw (e.0, e.1) refl)
    go None e true = (refl, rw e.0 refl)
    go None e false = (rw e.0 refl, rw e.0 refl)

pub last_none : (r : ℕ) (xs : List Taken) → place_after r xs ≡ 0 → last_taken r xs ≡ None
last_none r xs e = go (last_taken r xs) (sym (place_last r xs).1 ∙ e)
  where
    go : (o : Option ℕ) → ◌≡◌ {A = ℕ} (elim o [ Some u ↦ u + 1 | None ↦ 0 ]) 0 → o ≡ None
    go (Some u) h = absurd (omega (arith, h))
    go None h = refl

pub last_some : (r place : ℕ) (xs : List Taken) → place_after r xs ≡ place → (place ≡ 0 → ⊥) → last_taken r xs ≡ Some (place - 1)
last_some r place xs e some = go (last_taken r xs) (sym (place_last r xs).1 ∙ e)
  where
    go : (o : Option ℕ) → ◌≡◌ {A = ℕ} (elim o [ Some u ↦ u + 1 | None ↦ 0 ]) place → o ≡ Some (place - 1)
    go (Some u) h = ap Some (let s : u ≡ place - 1 = omega (arith, h) in s)
    go None h = absurd (some (sym h))

-- Nothing is held at the start

none_at_zero : (n b : ℕ) (until : ℕ → ℕ) → 0 < b → ((u : ℕ) → u < n → until u ≡ 0) → any_below n (λ u. nat_eq (until u) b) ≡ false
none_at_zero n b until low zero_time = not_any n _ (λ u lt. ne_eqb (until u) b (λ e. absurd (omega (arith, e, low, zero_time u lt))))

pub blank_kept : (n m : ℕ) (marked : ℕ → Bool) (until : ℕ → ℕ) → n ≡ m → ((u : ℕ) → marked u ≡ false) → ((u : ℕ) → u < m → until u ≡ 0) → IsKept n 0 marked until never
blank_kept n m marked until same none zero_time = record {
  free = λ u lt gone. omega (arith, zero_time u (omega (arith, lt, same)));
  soonest = record { low = λ u lt is. absurd (both_ways (marked u) (none u) is); is = rw (eq-eqb never never refl) refl };
  low = λ u lt. omega (arith, zero_time u (omega (arith, lt, same)));
}

pub blank_shows : (m : MachineMeaning) (n : ℕ) (until place : ℕ → ℕ) → m.unit_count ≡ n → ((u : ℕ) → u < n → until u ≡ 0) → ((r : ℕ) → r < m.resource_count → place r ≡ 0) → ShowsTaken m 0 until place []
unfolding is_free place_after
blank_shows m n until place count zero_time zero_place = record {
  begun = refl;
  free = λ u b lt le. sym (le-leb (until u) b (omega (arith, zero_time u (omega (arith, lt, count)))));
  changes = λ b late. sym (none_at_zero m.unit_count b until late (λ u lt. zero_time u (omega (arith, lt, count))));
  places = λ r lt. zero_place r lt;
}
