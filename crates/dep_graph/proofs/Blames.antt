-- The row that is blamed for a wait for units.
use Rattle.std.proofs.Common.{zero, suc, ◌≡◌, ℕ, ◌+◌, ◌-◌, ◌<◌, ◌≤◌, inl, inr, arith, refl, sym, ◌∙◌, ap, subst, Bool, true, false, ◌&&◌, ◌||◌, List, [], ◌∷◌, ◌++◌, length, take}
use Rattle.std.specs.Prelude.{nat_eq, nat_lt, max, slice_index, slice_index_or, slice_set, count_by, Option, Some, None, is_some}
use Rattle.std.specs.List.{list_any, list_all}
use Rattle.std.proofs.lemmas.Bool.{cases_lt, cases_eq, cases_Bool, and_parts, or_cases, false≢true}
use Rattle.std.proofs.lemmas.Bool.Decides.{nat_tests}
use Rattle.std.proofs.lemmas.List.{length-set}
use Rattle.std.proofs.lemmas.List.Folds.{list_any-append}
use Rattle.machine_model.specs.Meaning.{MachineMeaning}
use Rattle.machine_model.specs.Uses.{units_of, share_unit, can_meet}
use Rattle.machine_model.specs.declared.facts.Use.{Use}
use Rattle.cycle_rules.specs.Bind.{AreUses}
use Rattle.cycle_rules.specs.Row.{Input, Table, phase}
use Rattle.cycle_rules.specs.Seen.{comes_before, has_issued}
use Rattle.cycle_rules.specs.Pick.{Taken, holds_at, pick_unit, pick_units, add_front, prepend, no_unit, taken_by}
use Rattle.cycle_rules.specs.Held.{taken_of}
use Rattle.critical_chain.specs.Graph.{place}
use Rattle.dep_graph.specs.Blamed.{is_before, later_of, last_issued, holds_unit, holder_of, busy_in, then_try, resource_blamed}
use Rattle.dep_graph.specs.Holders.{noted, taken_along, holds_one, taker_at, AreHolders, IsGreatest, IsLast, IsTop}
use Rattle.dep_graph.specs.RunGraph.{IsIssueOrder}
use Rattle.dep_graph.specs.Taking.{AreFirst}
use Rattle.dep_graph.specs.declared.holders.Taker.{Taker}
use Rattle.dep_graph.proofs.Holding.{list_all_cons}
use Rattle.dep_graph.proofs.Along.{along_is, before_place, row_of_place}

-- The greatest place

pub last_over : (n : ℕ) (test : ℕ → Bool) (places : ℕ → ℕ) (best : Option ℕ) → test n ≡ false → IsLast n test places best → IsLast (n + 1) test places best
last_over n test places None off h = λ u lt. elim (cases_lt u n) [ inl low ↦ h u low | inr last ↦ (let e : u ≡ n = omega (arith, last, lt) in ap test e ∙ off) ]
last_over n test places (Some p) off h = record {
  number = h.number;
  within = omega (arith, h.within);
  passes = h.passes;
  at = h.at;
  most = λ u lt is. elim (cases_lt u n) [ inl low ↦ h.most u low is | inr last ↦ absurd (let e : u ≡ n = omega (arith, last, lt) in false≢true (sym off ∙ sym (ap test e) ∙ is)) ];
}

-- the same of more numbers that do not pass
pub last_up_to : (n m : ℕ) (test : ℕ → Bool) (places : ℕ → ℕ) (best : Option ℕ) → n ≤ m → ((u : ℕ) → n ≤ u → u < m → test u ≡ false) → IsLast n test places best → IsLast m test places best
last_up_to n m test places None le off h = λ u lt. elim (cases_lt u n) [ inl low ↦ h u low | inr past ↦ off u past lt ]
last_up_to n m test places (Some p) le off h = record {
  number = h.number;
  within = omega (arith, h.within, le);
  passes = h.passes;
  at = h.at;
  most = λ u lt is. elim (cases_lt u n) [ inl low ↦ h.most u low is | inr past ↦ absurd (false≢true (sym (off u past lt) ∙ is)) ];
}

pub last_first : (n : ℕ) (test : ℕ → Bool) (places : ℕ → ℕ) (p : ℕ) → test n ≡ true → places n ≡ p → ((u : ℕ) → u < n → test u ≡ false) → IsGreatest (n + 1) test places p
last_first n test places p on at h = record {
  number = n;
  within = omega arith;
  passes = on;
  at = at;
  most = λ u lt ok. elim (cases_lt u n) [ inl low ↦ absurd (false≢true (sym (h u low) ∙ ok)) | inr last ↦ (let e : u ≡ n = omega (arith, last, lt) in omega (arith, ap places e, at)) ];
}

pub last_found : (n : ℕ) (test : ℕ → Bool) (places : ℕ → ℕ) (p q best : ℕ) → test n ≡ true → places n ≡ q → IsGreatest n test places p → best ≡ max p q → IsGreatest (n + 1) test places best
last_found n test places p q best on at h is =
    let most : (u : ℕ) → u < n + 1 → test u ≡ true → places u ≤ best = λ u lt ok. elim (cases_lt u n) [ inl low ↦ omega (arith, h.most u low ok, is) | inr last ↦ (let e : u ≡ n = omega (arith, last, lt) in omega (arith, ap places e, at, is)) ] in
    elim (cases_lt p q) [
      | inl less ↦ record { number = n; within = omega arith; passes = on; at = omega (arith, at, is, less); most = most }
      | inr more ↦ record { number = h.number; within = omega (arith, h.within); passes = h.passes; at = omega (arith, h.at, is, more); most = most }
    ]

-- that of the last row that took units, where it holds one of them
pub top_is : (has : ℕ → Bool) (n taken c p : ℕ) (last : List Taker) → length last ≡ n → ((u : ℕ) → u < length last → c < (taker_at last u).until → (taker_at last u).place < taken) → IsTop has taken c last p
    → IsGreatest n (λ u. has u && nat_lt c (taker_at last u).until) (λ u. (taker_at last u).place) p
top_is has n taken c p last size low h = record {
  number = h.unit;
  within = omega (arith, h.within, size);
  passes = ap (λ b. b && nat_lt c (taker_at last h.unit).until) h.member ∙ (let lt : c < (taker_at last h.unit).until = h.held in grind (arith, nat_tests, lt));
  at = h.at;
  most = λ u lt is.
      let parts : (has u ≡ true) × (nat_lt c (taker_at last u).until ≡ true) = and_parts _ _ is in
      let soon : c < (taker_at last u).until = grind (arith, nat_tests, parts.1) in
      omega (arith, low u (omega (arith, lt, size)) soon, h.top);
}

-- Notes

pub taken_more : (c : ℕ) (uses : List Use) (us : List ℕ) (x : ℕ) (d : Use) → x < length uses → x < length us → taken_by c (take (suc x) uses) us ≡ taken_by c (take x uses) us ++ taken_by c (slice_index_or uses x d ∷ []) (slice_index us x ∷ [])
unfolding taken_by
taken_more c [] us x d a b = absurd (omega (arith, a))
taken_more c (w ∷ ws) [] x d a b = absurd (omega (arith, b))
taken_more c (w ∷ ws) (u ∷ us) zero d a b = refl
taken_more c (w ∷ ws) (u ∷ us) (suc x) d a b =
    let rest : taken_by c (take (suc x) ws) us ≡ taken_by c (take x ws) us ++ taken_by c (slice_index_or ws x d ∷ []) (slice_index us x ∷ []) = taken_more c ws us x d (omega (arith, a)) (omega (arith, b)) in
    elim (cases_Bool (nat_eq w.hold 0)) [
      | inl none ↦ rw none rest
      | inr some ↦ rw some (ap (λ l. record { resource = w.resource; hold = w.hold; unit = u; from = c } ∷ l) rest)
    ]

pub noted_append : (q : ℕ) (xs ys : List Taken) (last : List Taker) → noted q (xs ++ ys) last ≡ noted q ys (noted q xs last)
noted_append q [] ys last = refl
noted_append q (x ∷ xs) ys last = noted_append q xs ys (slice_set last x.unit (record { place = q; until = x.from + x.hold }))

pub length_noted : (q : ℕ) (hs : List Taken) (last : List Taker) → length (noted q hs last) ≡ length last
length_noted q [] last = refl
length_noted q (h ∷ hs) last = length_noted q hs (slice_set last h.unit (record { place = q; until = h.from + h.hold })) ∙ length-set last h.unit (record { place = q; until = h.from + h.hold })

pub note_none : (q c u : ℕ) (w : Use) (last : List Taker) → w.hold ≡ 0 → last ≡ noted q (taken_by c (w ∷ []) (u ∷ [])) last
unfolding taken_by
note_none q c u w last none = let e : nat_eq w.hold 0 ≡ true = grind (arith, nat_tests, none) in rw e refl

pub note_one : (q c u : ℕ) (w : Use) (last : List Taker) → (w.hold ≡ 0 → ⊥) → slice_set last u (record { place = q; until = c + w.hold }) ≡ noted q (taken_by c (w ∷ []) (u ∷ [])) last
unfolding taken_by
note_one q c u w last some = let e : nat_eq w.hold 0 ≡ false = grind (arith, nat_tests, some) in rw e refl

pub unit_low : (n c u : ℕ) (w : Use) → (w.hold ≡ 0 → ⊥) → list_all (λ h. nat_lt h.unit n) (taken_by c (w ∷ []) (u ∷ [])) ≡ true → u < n
unfolding taken_by
unit_low n c u w some known =
    let e : nat_eq w.hold 0 ≡ false = grind (arith, nat_tests, some) in
    let h : Taken = record { resource = w.resource; hold = w.hold; unit = u; from = c } in
    let whole : list_all (λ h. nat_lt h.unit n) (h ∷ []) ≡ true = rw e at known in
    let parts : (nat_lt u n ≡ true) × (list_all (λ (h : Taken). nat_lt h.unit n) [] ≡ true) = and_parts _ _ (sym (list_all_cons (λ (h : Taken). nat_lt h.unit n) h []) ∙ whole) in
    grind (arith, nat_tests, parts.0)

-- what is told of all that took units is told of each
pub known_at : (n c x : ℕ) (uses : List Use) (us : List ℕ) (d : Use) → x < length uses → x < length us → list_all (λ h. nat_lt h.unit n) (taken_by c uses us) ≡ true → list_all (λ h. nat_lt h.unit n) (taken_by c (slice_index_or uses x d ∷ []) (slice_index us x ∷ [])) ≡ true
unfolding taken_by
known_at n c x [] us d a b all = absurd (omega (arith, a))
known_at n c x (w ∷ ws) [] d a b all = absurd (omega (arith, b))
known_at n c zero (w ∷ ws) (u ∷ us) d a b all = elim (cases_Bool (nat_eq w.hold 0)) [
  | inl none ↦ rw none refl
  | inr some ↦
      (let h : Taken = record { resource = w.resource; hold = w.hold; unit = u; from = c } in
      let whole : list_all (λ h. nat_lt h.unit n) (h ∷ taken_by c ws us) ≡ true = rw some at all in
      let parts : (nat_lt u n ≡ true) × (list_all (λ h. nat_lt h.unit n) (taken_by c ws us) ≡ true) = and_parts _ _ (sym (list_all_cons (λ h. nat_lt h.unit n) h (taken_by c ws us)) ∙ whole) in
      rw some (list_all_cons (λ h. nat_lt h.unit n) h [] ∙ (rw parts.0 refl)))
]
known_at n c (suc x) (w ∷ ws) (u ∷ us) d a b all = elim (cases_Bool (nat_eq w.hold 0)) [
  | inl none ↦ known_at n c x ws us d (omega (arith, a)) (omega (arith, b)) (rw none at all)
  | inr some ↦
      (let h : Taken = record { resource = w.resource; hold = w.hold; unit = u; from = c } in
      let whole : list_all (λ h. nat_lt h.unit n) (h ∷ taken_by c ws us) ≡ true = rw some at all in
      let parts : (nat_lt u n ≡ true) × (list_all (λ h. nat_lt h.unit n) (taken_by c ws us) ≡ true) = and_parts _ _ (sym (list_all_cons (λ h. nat_lt h.unit n) h (taken_by c ws us)) ∙ whole) in
      known_at n c x ws us d (omega (arith, a)) (omega (arith, b)) parts.1)
]

-- The first use that finds no unit

some_front : (u : ℕ) (o : Option (List ℕ)) → is_some (add_front u o) ≡ is_some o
some_front u None = refl
some_front u (Some us) = refl

use_at : ℕ → Use → ℕ → Taken
use_at c w u = record { resource = w.resource; hold = w.hold; unit = u; from = c }

none_go : (m : MachineMeaning) (earlier : List Taken) (c : ℕ) (w : Use) (rest : List Use) (o : Option ℕ) → ((u : ℕ) → is_some (pick_units m (earlier ++ use_at c w u ∷ []) c rest) ≡ true → busy_in m (earlier ++ use_at c w u ∷ []) c rest ≡ None)
    → is_some (prepend o (λ u. pick_units m (earlier ++ use_at c w u ∷ []) c rest)) ≡ true → then_try o w.resource (λ u. busy_in m (earlier ++ use_at c w u ∷ []) c rest) ≡ None
none_go m earlier c w rest None more h = cc
none_go m earlier c w rest (Some u) more h = more u (sym (some_front u (pick_units m (earlier ++ use_at c w u ∷ []) c rest)) ∙ h)

pub none_busy : (m : MachineMeaning) (earlier : List Taken) (c : ℕ) (uses : List Use) → is_some (pick_units m earlier c uses) ≡ true → busy_in m earlier c uses ≡ None
unfolding pick_units busy_in use_at
none_busy m earlier c [] is = refl
none_busy m earlier c (w ∷ rest) is = elim (cases_Bool (nat_eq w.hold 0)) [
  | inl none ↦ (let front : is_some (add_front no_unit (pick_units m earlier c rest)) ≡ true = rw none at is in rw none (none_busy m earlier c rest (sym (some_front no_unit (pick_units m earlier c rest)) ∙ front)))
  | inr some ↦ (let whole : is_some (prepend (pick_unit m earlier c w.resource) (λ u. pick_units m (earlier ++ use_at c w u ∷ []) c rest)) ≡ true = rw some at is in
      rw some (none_go m earlier c w rest (pick_unit m earlier c w.resource) (λ u h. none_busy m (earlier ++ use_at c w u ∷ []) c rest h) whole))
]

zero_go : (m : MachineMeaning) (earlier : List Taken) (c : ℕ) (w : Use) (rest : List Use) (o : Option ℕ) → is_some (prepend o (λ u. Some [])) ≡ false → then_try o w.resource (λ u. busy_in m (earlier ++ use_at c w u ∷ []) c rest) ≡ Some w.resource
zero_go m earlier c w rest None h = refl
zero_go m earlier c w rest (Some u) h = absurd (false≢true (sym h))

suc_go : (m : MachineMeaning) (earlier : List Taken) (c : ℕ) (w : Use) (rest : List Use) (n r : ℕ) (o : Option ℕ)
    → ((u : ℕ) → is_some (pick_units m (earlier ++ use_at c w u ∷ []) c (take n rest)) ≡ true → is_some (pick_units m (earlier ++ use_at c w u ∷ []) c (take (suc n) rest)) ≡ false → busy_in m (earlier ++ use_at c w u ∷ []) c rest ≡ Some r)
    → is_some (prepend o (λ u. pick_units m (earlier ++ use_at c w u ∷ []) c (take n rest))) ≡ true → is_some (prepend o (λ u. pick_units m (earlier ++ use_at c w u ∷ []) c (take (suc n) rest))) ≡ false
    → then_try o w.resource (λ u. busy_in m (earlier ++ use_at c w u ∷ []) c rest) ≡ Some r
suc_go m earlier c w rest n r None more a b = cc
suc_go m earlier c w rest n r (Some u) more a b =
    more u (sym (some_front u (pick_units m (earlier ++ use_at c w u ∷ []) c (take n rest))) ∙ a) (sym (some_front u (pick_units m (earlier ++ use_at c w u ∷ []) c (take (suc n) rest))) ∙ b)

pub first_busy : (m : MachineMeaning) (earlier : List Taken) (c n : ℕ) (uses : List Use) (d : Use) → n < length uses → is_some (pick_units m earlier c (take n uses)) ≡ true → is_some (pick_units m earlier c (take (suc n) uses)) ≡ false
    → busy_in m earlier c uses ≡ Some (slice_index_or uses n d).resource
unfolding pick_units busy_in use_at
first_busy m earlier c n [] d lt is no_ = absurd (omega (arith, lt))
first_busy m earlier c zero (w ∷ rest) d lt is no_ = elim (cases_Bool (nat_eq w.hold 0)) [
  | inl none ↦ (let front : is_some (add_front no_unit (Some [])) ≡ false = rw none at no_ in absurd (false≢true (sym front)))
  | inr some ↦ (let whole : is_some (prepend (pick_unit m earlier c w.resource) (λ u. Some [])) ≡ false = rw some at no_ in rw some (zero_go m earlier c w rest (pick_unit m earlier c w.resource) whole))
]
first_busy m earlier c (suc n) (w ∷ rest) d lt is no_ = elim (cases_Bool (nat_eq w.hold 0)) [
  | inl none ↦
      (let a : is_some (add_front no_unit (pick_units m earlier c (take n rest))) ≡ true = rw none at is in
      let b : is_some (add_front no_unit (pick_units m earlier c (take (suc n) rest))) ≡ false = rw none at no_ in
      rw none (first_busy m earlier c n rest d (omega (arith, lt)) (sym (some_front no_unit (pick_units m earlier c (take n rest))) ∙ a) (sym (some_front no_unit (pick_units m earlier c (take (suc n) rest))) ∙ b)))
  | inr some ↦
      (let a : is_some (prepend (pick_unit m earlier c w.resource) (λ u. pick_units m (earlier ++ use_at c w u ∷ []) c (take n rest))) ≡ true = rw some at is in
      let b : is_some (prepend (pick_unit m earlier c w.resource) (λ u. pick_units m (earlier ++ use_at c w u ∷ []) c (take (suc n) rest))) ≡ false = rw some at no_ in
      rw some (suc_go m earlier c w rest n (slice_index_or rest n d).resource (pick_unit m earlier c w.resource) (λ u x y. first_busy m (earlier ++ use_at c w u ∷ []) c n rest d (omega (arith, lt)) x y) a b))
]

take_past : {X : Type 0} (n : ℕ) (xs : List X) → length xs ≤ n → take n xs ≡ xs
take_past zero [] le = refl
take_past zero (x ∷ xs) le = absurd (omega (arith, le))
take_past (suc n) [] le = refl
take_past (suc n) (x ∷ xs) le = ap (λ l. x ∷ l) (take_past n xs (omega (arith, le)))

pub busy_at : (m : MachineMeaning) (earlier : List Taken) (c n : ℕ) (uses : List Use) (d : Use) → is_some (pick_units m earlier c (take n uses)) ≡ true → is_some (pick_units m earlier c (take (n + 1) uses)) ≡ false
    → busy_in m earlier c uses ≡ Some (slice_index_or uses n d).resource
busy_at m earlier c n uses d is no_ =
    let e : suc n ≡ n + 1 = omega arith in
    elim (cases_lt n (length uses)) [
      | inl lt ↦ first_busy m earlier c n uses d lt is (ap (λ x. is_some (pick_units m earlier c (take x uses))) e ∙ no_)
      | inr past ↦ absurd (false≢true (sym no_ ∙ ap (λ l. is_some (pick_units m earlier c l)) (take_past (n + 1) uses (omega (arith, past)) ∙ sym (take_past n uses past)) ∙ is))
    ]

-- the first uses of some that can be met can be met
met_first : (size : ℕ → ℕ) (share : ℕ → ℕ → Bool) (n : ℕ) (met uses : List Use) → can_meet size share met uses ≡ true → can_meet size share met (take n uses) ≡ true
met_first size share zero met uses is = refl
met_first size share (suc n) met [] is = refl
met_first size share (suc n) met (w ∷ ws) is = elim (cases_Bool (nat_eq w.hold 0)) [
  | inl none ↦ rw none (met_first size share n met ws (rw none at is))
  | inr some ↦ (let whole : (nat_lt (count_by (λ v. share v.resource w.resource) met) (size w.resource) && can_meet size share (met ++ w ∷ []) ws) ≡ true = rw some at is in
      let parts : (nat_lt (count_by (λ v. share v.resource w.resource) met) (size w.resource) ≡ true) × (can_meet size share (met ++ w ∷ []) ws ≡ true) = and_parts _ _ whole in rw (some, parts.0) (met_first size share n (met ++ w ∷ []) ws parts.1))
]

all_first : (p : Use → Bool) (n : ℕ) (uses : List Use) → list_all p uses ≡ true → list_all p (take n uses) ≡ true
all_first p zero uses is = refl
all_first p (suc n) [] is = refl
all_first p (suc n) (w ∷ ws) is =
    let parts : (p w ≡ true) × (list_all p ws ≡ true) = and_parts _ _ (sym (list_all_cons p w ws) ∙ is) in
    list_all_cons p w (take n ws) ∙ (rw (parts.0, all_first p n ws parts.1) refl)

short_first : (n : ℕ) (uses : List Use) → length (take n uses) ≤ length uses
short_first zero uses = omega arith
short_first (suc n) [] = omega arith
short_first (suc n) (w ∷ ws) = omega (arith, short_first n ws)

pub uses_first : (m : MachineMeaning) (n : ℕ) (uses : List Use) → AreUses m uses → AreUses m (take n uses)
uses_first m n uses h = record {
  few = omega (arith, h.few, short_first n uses);
  known = all_first _ n uses h.known;
  short = all_first _ n uses h.short;
  met = met_first (units_of m) (share_unit m) n [] uses h.met;
}

pub take_least : {X : Type 0} (n m : ℕ) (xs : List X) → n ≤ m → take n (take m xs) ≡ take n xs
take_least zero m xs le = refl
take_least (suc n) zero xs le = absurd (omega (arith, le))
take_least (suc n) (suc m) [] le = refl
take_least (suc n) (suc m) (x ∷ xs) le = ap (λ l. x ∷ l) (take_least n m xs (omega (arith, le)))

-- The last that issued

there_go : (g : Input) (t : Table) (n : ℕ) (p : ℕ → Bool) (b : ℕ) (o : Option ℕ) → ((a : ℕ) → o ≡ Some a → (a < n) × (p a ≡ true)) → later_of g t o n ≡ Some b → p n ≡ true → (b < suc n) × (p b ≡ true)
there_go g t n p b None more is on = let same : n ≡ b = cc in (omega (arith, same), subst (λ x. p x ≡ true) same on)
there_go g t n p b (Some a) more is on = elim (cases_Bool (is_before g t a n)) [
  | inl yes_ ↦ (let here : Some n ≡ Some b = rw yes_ at is in let same : n ≡ b = cc in (omega (arith, same), subst (λ x. p x ≡ true) same on))
  | inr no_ ↦ (let here : Some a ≡ Some b = rw no_ at is in let same : a ≡ b = cc in let rest = more a refl in (omega (arith, rest.0, same), subst (λ x. p x ≡ true) same rest.1))
]

pub last_there : (g : Input) (t : Table) (n : ℕ) (p : ℕ → Bool) (b : ℕ) → last_issued g t n p ≡ Some b → (b < n) × (p b ≡ true)
last_there g t zero p b is = absurd (cc)
last_there g t (suc n) p b is = elim (cases_Bool (p n)) [
  | inr off ↦ (let below : last_issued g t n p ≡ Some b = rw off at is in let rest = last_there g t n p b below in (omega (arith, rest.0), rest.1))
  | inl on ↦ (let here : later_of g t (last_issued g t n p) n ≡ Some b = rw on at is in there_go g t n p b (last_issued g t n p) (λ a e. last_there g t n p a e) here on)
]

pub none_last : (g : Input) (t : Table) (n : ℕ) (p : ℕ → Bool) → ((k : ℕ) → k < n → p k ≡ false) → last_issued g t n p ≡ None
none_last g t zero p h = refl
none_last g t (suc n) p h = rw (h n (omega arith)) (none_last g t n p (λ k lt. h k (omega (arith, lt))))

before_not : (g : Input) (t : Table) (a b : ℕ) → is_before g t a b ≡ true → is_before g t b a ≡ false
unfolding comes_before
before_not g t a b h = grind (arith, nat_tests, h)

top_go : (g : Input) (t : Table) (n : ℕ) (o : Option ℕ) → ((a : ℕ) → o ≡ Some a → is_before g t a n ≡ true) → later_of g t o n ≡ Some n
top_go g t n None h = refl
top_go g t n (Some a) h = rw (h a refl) refl

pub last_is : (g : Input) (t : Table) (n k : ℕ) (p : ℕ → Bool) → k < n → p k ≡ true → ((b : ℕ) → b < n → p b ≡ true → (b ≡ k → ⊥) → is_before g t b k ≡ true) → last_issued g t n p ≡ Some k
last_is g t zero k p lt on h = absurd (omega (arith, lt))
last_is g t (suc n) k p lt on h = elim (cases_eq k n) [
  | inl here ↦
      (let top : p n ≡ true = subst (λ x. p x ≡ true) here on in
      rw top (top_go g t n (last_issued g t n p) (λ a e. (let there = last_there g t n p a e in
      subst (λ x. is_before g t a x ≡ true) here (h a (omega (arith, there.0)) there.1 (λ same. omega (arith, there.0, same, here)))))
      ∙ ap Some (sym here)))
  | inr other ↦
      (let rest : last_issued g t n p ≡ Some k = last_is g t n k p (omega (arith, lt, other)) on (λ b low is ne. h b (omega (arith, low)) is ne) in
      elim (cases_Bool (p n)) [
        | inr off ↦ rw off rest
        | inl top ↦ (let later : is_before g t k n ≡ false = before_not g t n k (h n (omega arith) top (λ e. other (sym e))) in rw (top, rest, later) refl)
      ])
]

-- Who is blamed

any_cons : {X : Type 0} (p : X → Bool) (x : X) (xs : List X) → list_any p (x ∷ xs) ≡ (p x || list_any p xs)
any_cons p x xs = list_any-append p (x ∷ []) xs ∙ ap (λ b. b || list_any p xs) (or_false (p x))
  where
    or_false : (b : Bool) → (b || false) ≡ b
    or_false true = refl
    or_false false = refl

-- a row that holds a unit of a resource holds one of its units
one_of : (p : ℕ → Bool) (c : ℕ) (hs : List Taken) → list_any (λ h. p h.unit && holds_at c h) hs ≡ true → (u : ℕ) × (p u ≡ true) × (list_any (λ h. nat_eq h.unit u && holds_at c h) hs ≡ true)
one_of p c [] is = absurd (false≢true is)
one_of p c (h ∷ hs) is = elim (or_cases (p h.unit && holds_at c h) (list_any (λ h. p h.unit && holds_at c h) hs) (sym (any_cons (λ h. p h.unit && holds_at c h) h hs) ∙ is)) [
  | inl here ↦
      (let parts : (p h.unit ≡ true) × (holds_at c h ≡ true) = and_parts _ _ here in
      let self : nat_eq h.unit h.unit ≡ true = grind (arith, nat_tests) in
      (h.unit, parts.0, any_cons (λ k. nat_eq k.unit h.unit && holds_at c k) h hs ∙ (rw (self, parts.1) refl)))
  | inr rest ↦
      (let more = one_of p c hs rest in
      (more.0, more.1, any_cons (λ k. nat_eq k.unit more.0 && holds_at c k) h hs ∙ (rw more.2 (or_true (nat_eq h.unit more.0 && holds_at c h)))))
]
  where
    or_true : (b : Bool) → (b || true) ≡ true
    or_true true = refl
    or_true false = refl

all_of : (p : ℕ → Bool) (c u : ℕ) (hs : List Taken) → p u ≡ true → list_any (λ h. nat_eq h.unit u && holds_at c h) hs ≡ true → list_any (λ h. p h.unit && holds_at c h) hs ≡ true
all_of p c u [] on is = absurd (false≢true is)
all_of p c u (h ∷ hs) on is = elim (or_cases (nat_eq h.unit u && holds_at c h) (list_any (λ h. nat_eq h.unit u && holds_at c h) hs) (sym (any_cons (λ h. nat_eq h.unit u && holds_at c h) h hs) ∙ is)) [
  | inl here ↦
      (let parts : (nat_eq h.unit u ≡ true) × (holds_at c h ≡ true) = and_parts _ _ here in
      let same : h.unit ≡ u = grind (arith, nat_tests, parts.0) in
      let there : p h.unit ≡ true = ap p same ∙ on in
      any_cons (λ h. p h.unit && holds_at c h) h hs ∙ (rw (there, parts.1) refl))
  | inr rest ↦ any_cons (λ h. p h.unit && holds_at c h) h hs ∙ (rw (all_of p c u hs on rest) (or_true (p h.unit && holds_at c h)))
]
  where
    or_true : (b : Bool) → (b || true) ≡ true
    or_true true = refl
    or_true false = refl

abbrev pub holder_test : Input → List Taker → ℕ → ℕ → ℕ → Bool
holder_test g last r c u = g.machine.units r u && nat_lt c (taker_at last u).until

abbrev pub holder_place : List Taker → ℕ → ℕ
holder_place last u = (taker_at last u).place

abbrev pub row_at_place : List ℕ → Option ℕ → Option ℕ
row_at_place order None = None
row_at_place order (Some p) = Some (slice_index order p)

-- of the rows that hold a unit of a resource the one that issued last
pub holder_is : (g : Input) (t : Table) (order : List ℕ) (q j c r : ℕ) (last : List Taker) (o : Option ℕ) → IsIssueOrder g t order → q ≤ g.rows → AreFirst g t order q (phase (g.row j)) j c → AreHolders g t order q c last
    → ((u : ℕ) → g.machine.units r u ≡ true → u < g.machine.unit_count) → IsLast g.machine.unit_count (holder_test g last r c) (holder_place last) o → holder_of g t j c (Some r) ≡ row_at_place order o
holder_is g t order q j c r last None is le first h units found = none_last g t g.rows _ (λ k lk. elim (cases_Bool (has_issued g t k c (phase (g.row j)) j && holds_unit g t r c k)) [
  | inr off ↦ off
  | inl on ↦
      (let parts : (has_issued g t k c (phase (g.row j)) j ≡ true) × (holds_unit g t r c k ≡ true) = and_parts _ _ on in
      let low : place order k < q = (let e : nat_lt (place order k) q ≡ true = sym (first k lk) ∙ parts.0 in grind (arith, nat_tests, e)) in
      let one = one_of (g.machine.units r) c (taken_of g t k) parts.1 in
      let back : holds_one g t one.0 c (slice_index order (place order k)) ≡ true = subst (λ x. holds_one g t one.0 c x ≡ true) (sym (row_of_place g t order k is lk)) one.2 in
      let kept = h.latest (place order k) one.0 c low (units one.0 one.1) (omega arith) back in
      let soon : nat_lt c (taker_at last one.0).until ≡ true = (let k2 : c < (taker_at last one.0).until = kept.1 in grind (arith, nat_tests, k2)) in
      absurd (false≢true (sym (found one.0 (units one.0 one.1)) ∙ (rw (one.1, soon) refl))))
])
holder_is g t order q j c r last (Some p) is le first h units found =
    let test : (g.machine.units r found.number ≡ true) × (nat_lt c (taker_at last found.number).until ≡ true) = and_parts _ _ found.passes in
    let soon : c < (taker_at last found.number).until = grind (arith, nat_tests, test.1) in
    let real = h.real found.number c found.within (omega arith) soon in
    let low : p < q = omega (arith, real.0, found.at) in
    let lp : p < g.rows = omega (arith, low, le) in
    let k : ℕ = slice_index order p in
    let lk : k < g.rows = is.all.below p lp in
    let issued : has_issued g t k c (phase (g.row j)) j ≡ true = first k lk ∙ (let e : place order k ≡ p = is.all.once p lp in let f : nat_lt (place order k) q ≡ true = grind (arith, nat_tests, e, low) in f) in
    let holds : holds_one g t found.number c k ≡ true = subst (λ x. holds_one g t found.number c (slice_index order x) ≡ true) found.at real.1 in
    let whole : holds_unit g t r c k ≡ true = all_of (g.machine.units r) c found.number (taken_of g t k) test.0 holds in
    last_is g t g.rows k _ lk (rw (issued, whole) refl) (λ b lb on ne.
    let parts : (has_issued g t b c (phase (g.row j)) j ≡ true) × (holds_unit g t r c b ≡ true) = and_parts _ _ on in
    let low_b : place order b < q = (let e : nat_lt (place order b) q ≡ true = sym (first b lb) ∙ parts.0 in grind (arith, nat_tests, e)) in
    let one = one_of (g.machine.units r) c (taken_of g t b) parts.1 in
    let back : holds_one g t one.0 c (slice_index order (place order b)) ≡ true = subst (λ x. holds_one g t one.0 c x ≡ true) (sym (row_of_place g t order b is lb)) one.2 in
    let kept = h.latest (place order b) one.0 c low_b (units one.0 one.1) (omega arith) back in
    let early : nat_lt c (taker_at last one.0).until ≡ true = (let k2 : c < (taker_at last one.0).until = kept.1 in grind (arith, nat_tests, k2)) in
    let most : place order b ≤ p = omega (arith, kept.0, found.most one.0 (units one.0 one.1) (rw (one.1, early) refl)) in
    let differ : place order b ≡ p → ⊥ = λ e. ne (sym (row_of_place g t order b is lb) ∙ ap (slice_index order) e) in
    before_place g t order b k is lb lk ∙ (let e : place order k ≡ p = is.all.once p lp in let f : nat_lt (place order b) (place order k) ≡ true = (let less : place order b < place order k = omega (arith, e, most, differ) in grind (arith, nat_tests, less)) in f))

-- so the blamed row is found by what is kept
pub blamed_is : (g : Input) (t : Table) (order : List ℕ) (q j : ℕ) (busy : Option ℕ) → IsIssueOrder g t order → q ≤ g.rows → AreFirst g t order q (phase (g.row j)) j ((t j).issue - 1)
    → busy ≡ busy_in g.machine (taken_along g t order q) ((t j).issue - 1) (g.row j).uses → resource_blamed g t j ≡ holder_of g t j ((t j).issue - 1) busy
blamed_is g t order q j busy is le first e =
    ap (λ l. holder_of g t j ((t j).issue - 1) (busy_in g.machine l ((t j).issue - 1) (g.row j).uses)) (sym (along_is g t order q (phase (g.row j)) j ((t j).issue - 1) is le first)) ∙ ap (holder_of g t j ((t j).issue - 1)) (sym e)
