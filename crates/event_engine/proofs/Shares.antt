-- What the dispatch group tells: when a share of the width falls.
use Rattle.std.proofs.Common.{zero, suc, ◌≡◌, ℕ, ◌+◌, ◌-◌, ◌*◌, ◌/◌, ◌%◌, ◌<◌, ◌≤◌, ◌⊎◌, inl, inr, min, List, [], ◌∷◌, ◌++◌, arith, sym, ◌∙◌, ap, subst, refl, Bool, true, false, ◌||◌}
use Rattle.std.specs.Prelude.{nat_lt, nat_le, nat_eq, if◌then◌else◌, Option, Some, None}
use Rattle.std.specs.List.{list_any, sum_by}
use Rattle.std.proofs.lemmas.Bool.Decides.{nat_tests}
use Rattle.std.proofs.lemmas.Bool.{cases_Bool, cases_eq, cases_lt, both_ways, lt-ltb, ltb-true}
use Rattle.std.proofs.lemmas.List.Folds.{list_any-append}
use Rattle.std.proofs.lemmas.List.FromFn.{map-range_with_len_more, sum_by-map-range_with_len_more}
use Rattle.std.proofs.Math.Nat.{mul-le-mul_left, div-add-mod}
use Rattle.cycle_rules.specs.Dispatch.{share as share_of}
use Rattle.cycle_rules.specs.Row.{Input, times, uops_of}
use Rattle.cycle_rules.specs.Schedule.{Fall}
use Rattle.cycle_rules.specs.Events.{known_of}
use Rattle.dispatch_unit.specs.Group.{Dispatched, share, shares, IsNextFall}
use Rattle.engine_state.specs.State.{never, recorded}
use Rattle.engine_state.specs.Flight.{window}
use Rattle.engine_state.specs.Parts.{dispatched_row}
use Rattle.event_rules.proofs.Reached.{falls_first, falls_second, share_still}
use Rattle.engine_steps.specs.Flight.{IsFlight}
use Rattle.engine_steps.specs.declared.flight.Flight.{Flight}
use Rattle.event_engine.specs.Tells.{Told, SomeTime, IsPast, TellsFall}
use Rattle.event_engine.proofs.RowTimes.{row_dispatch, dispatch_at, set_dispatch, time_of_row, IsAt}
use Rattle.engine_state.proofs.Turn.{known_is_some}

-- A window of rows

window_next : {X : Type 0} (of_row : ℕ → X) (n : ℕ) → window of_row 0 (suc n) ≡ window of_row 0 n ++ of_row n ∷ []
window_next of_row n = let next : n + 1 ≡ suc n = omega arith in subst (λ m. window of_row 0 m ≡ window of_row 0 n ++ of_row n ∷ []) next (map-range_with_len_more of_row 0 n n (omega arith))

any_next : {X : Type 0} (p : X → Bool) (of_row : ℕ → X) (n : ℕ) → list_any p (window of_row 0 (suc n)) ≡ (list_any p (window of_row 0 n) || p (of_row n))
any_next p of_row n = ap (list_any p) (window_next of_row n) ∙ list_any-append p (window of_row 0 n) (of_row n ∷ []) ∙ ap (λ b. list_any p (window of_row 0 n) || b) (last (p (of_row n)))
  where
    last : (b : Bool) → (b || false) ≡ b
    last true = refl
    last false = refl

in_window : {X : Type 0} (p : X → Bool) (of_row : ℕ → X) (n k : ℕ) → k < n → p (of_row k) ≡ true → list_any p (window of_row 0 n) ≡ true
in_window p of_row zero k lt here = absurd (omega (arith, lt))
in_window p of_row (suc n) k lt here = any_next p of_row n ∙ elim (cases_lt k n) [
  | inl low ↦ rw (in_window p of_row n k low here) refl
  | inr last ↦ (let same : k ≡ n = omega (arith, lt, last) in or_last (list_any p (window of_row 0 n)) (p (of_row n)) (subst (λ i. p (of_row i) ≡ true) same here))
]
  where
    or_last : (a b : Bool) → b ≡ true → (a || b) ≡ true
    or_last true b e = refl
    or_last false b e = e

of_window : {X : Type 0} (p : X → Bool) (of_row : ℕ → X) (n : ℕ) → list_any p (window of_row 0 n) ≡ true → (k : ℕ) × (k < n) × (p (of_row k) ≡ true)
of_window p of_row zero e = cc
of_window p of_row (suc n) e = elim (cases_Bool (p (of_row n))) [
  | inl here ↦ (n, omega arith, here)
  | inr none ↦ (let rest : (k : ℕ) × (k < n) × (p (of_row k) ≡ true) = of_window p of_row n (only (list_any p (window of_row 0 n)) (p (of_row n)) none (sym (any_next p of_row n) ∙ e)) in (rest.0, omega (arith, rest.1), rest.2))
]
  where
    only : (a b : Bool) → b ≡ false → (a || b) ≡ true → a ≡ true
    only true b n e = refl
    only false b n e = absurd (both_ways b n e)

sum_in : {X : Type 0} (f : X → ℕ) (of_row : ℕ → X) (n k : ℕ) → k < n → f (of_row k) ≤ sum_by f (window of_row 0 n)
sum_in f of_row zero k lt = absurd (omega (arith, lt))
sum_in f of_row (suc n) k lt =
    let next : n + 1 ≡ suc n = omega arith in
    let more : sum_by f (window of_row 0 (suc n)) ≡ sum_by f (window of_row 0 n) + f (of_row n) = subst (λ m. sum_by f (window of_row 0 m) ≡ sum_by f (window of_row 0 n) + f (of_row n)) next (sum_by-map-range_with_len_more f of_row 0 n n (omega arith)) in
    elim (cases_lt k n) [
      | inl low ↦ omega (arith, more, sum_in f of_row n k low)
      | inr last ↦ (let same : k ≡ n = omega (arith, lt, last) in let value : f (of_row k) ≡ f (of_row n) = ap (λ i. f (of_row i)) same in omega (arith, more, value))
    ]

-- One share

same_share : (w c : ℕ) (r : Dispatched) → share w c r ≡ share_of w r.uops r.from c
unfolding share share_of
same_share w c r = refl

-- where there is none in a cycle, the row is through
through : (w u d c : ℕ) → 0 < w → d ≤ c → share_of w u d c ≡ 0 → u ≤ w * (c - d)
unfolding share_of
through w u d c some le none = let test : nat_le d c ≡ true = grind (arith, nat_tests, le) in part (rw test at none)
  where
    part : min w (u - w * (c - d)) ≡ 0 → u ≤ w * (c - d)
    part e = omega (arith, e, some)

through_first : (w u d c : ℕ) → 0 < w → d ≤ c → u ≤ w * (c - d) → d + u / w ≤ c
through_first w u d c some le all =
    let whole : w * (u / w) + u % w ≡ u = div-add-mod u w in
    elim (cases_lt (c - d) (u / w)) [
      | inr low ↦ omega (arith, low, le)
      | inl high ↦ (let more : w * (c - d + 1) ≤ w * (u / w) = mul-le-mul_left w (let s : c - d + 1 ≤ u / w = omega (arith, high) in s) in let product : w * (c - d + 1) ≡ w * (c - d) + w = grind arith in absurd (omega (arith, more, product, whole, all, some)))
    ]

through_second : (w u d c : ℕ) → 0 < w → d ≤ c → 0 < u % w → u ≤ w * (c - d) → d + u / w + 1 ≤ c
through_second w u d c some le part all =
    let whole : w * (u / w) + u % w ≡ u = div-add-mod u w in
    elim (cases_lt (u / w) (c - d)) [
      | inl low ↦ omega (arith, low, le)
      | inr high ↦ (let more : w * (c - d) ≤ w * (u / w) = mul-le-mul_left w high in absurd (omega (arith, more, whole, all, part)))
    ]

-- it falls at no other times than these two
only_falls : (w u d x : ℕ) → d + 1 < x → share_of w u d x < share_of w u d (x - 1) → (x ≡ d + u / w) ⊎ (x ≡ d + u / w + 1)
only_falls w u d x late falls = elim (cases_eq x (d + u / w)) [
  | inl first ↦ inl first
  | inr ne ↦ elim (cases_eq x (d + u / w + 1)) [
    | inl second ↦ inr second
    | inr neither ↦ (
        let fall : Fall (List ℕ) = record { cycle = d; what = [] } in
        let same : share_of w u d (x - 1) ≡ share_of w u d x = share_still w u (x - 1) x (Some fall) (omega arith)
        (λ f is. (let s : f.cycle ≡ d = cycle_is fall f is in omega (arith, s, late)))
        (λ f is some y lo hi e. (let s : f.cycle ≡ d = cycle_is fall f is in ne (omega (arith, s, e, lo, hi, late))))
        (λ f is some y lo hi e. (let s : f.cycle ≡ d = cycle_is fall f is in neither (omega (arith, s, e, lo, hi, late)))) in
        absurd (omega (arith, same, falls)))
  ]
]
  where
    cycle_is : (a b : Fall (List ℕ)) → Some a ≡ Some b → b.cycle ≡ a.cycle
    cycle_is a b e = let s : a ≡ b = cc in ap (λ (x : Fall (List ℕ)). x.cycle) (sym s)

-- What is told

abbrev row_of : Input → Flight → ℕ → Dispatched
row_of g f k = dispatched_row g f.table.items k

head_low : (g : Input) (f : Flight) (b n k : ℕ) (q : Fall (List ℕ)) → IsFlight g f b n → k < g.rows → known_of g (recorded g f.table.items) 2 k ≡ Some q → k < f.head
head_low g f b n k q h lt is = elim (cases_lt k f.head) [
  | inl low ↦ low
  | inr late ↦ absurd ((dispatch_at g k f.table.items q lt is).some (h.flow.waiting k late lt))
]

-- a time at which a share falls is not passed over
told_fall : (w cycle : ℕ) (g : Input) (f : Flight) (k t : ℕ) (o : Option ℕ) → IsNextFall w cycle (window (row_of g f) 0 f.head) o → k < f.head → (share w cycle (row_of g f k) ≡ 0 → t ≤ cycle)
    → (cycle < t → nat_lt (share w t (row_of g f k)) (share w (t - 1) (row_of g f k)) ≡ true) → Told (cycle + 1) o t
told_fall w cycle g f k t None none lt past falls = let low : share w cycle (row_of g f k) ≤ shares w cycle (window (row_of g f) 0 f.head) = sum_in (share w cycle) (row_of g f) f.head k lt in omega (arith, past (omega (arith, low, none)))
told_fall w cycle g f k t (Some x) next lt past falls = λ lo. elim (cases_lt t x) [
  | inr high ↦ high
  | inl before ↦ absurd (both_ways _ (next.2 t (omega (arith, lo)) before) (in_window (λ r. nat_lt (share w t r) (share w (t - 1) r)) (row_of g f) f.head k lt (falls (omega (arith, lo)))))
]

-- one of the times that a dispatch sets

or_true : (a : Bool) → (a || true) ≡ true
or_true true = refl
or_true false = refl

or_both : (a b : Bool) → (a || (b || true)) ≡ true
or_both true b = refl
or_both false b = or_true b

among : (x d q : ℕ) → (x ≡ d + q) ⊎ (x ≡ d + q + 1) → list_any (nat_eq x) ((d + 1) ∷ (d + q) ∷ (d + q + 1) ∷ []) ≡ true
among x d q (inl e) = let test : nat_eq x (d + q) ≡ true = grind (arith, nat_tests, e) in rw test (or_true (nat_eq x (d + 1)))
among x d q (inr e) = let test : nat_eq x (d + q + 1) ≡ true = grind (arith, nat_tests, e) in rw test (or_both (nat_eq x (d + 1)) (nat_eq x (d + q)))

pub fall_tells : (g : Input) (f : Flight) (c n : ℕ) (o : Option ℕ) → 0 < c → IsFlight g f (c - 1) n → IsPast g (recorded g f.table.items) c → IsNextFall g.machine.limits.width (c - 1) (window (row_of g f) 0 f.head) o → TellsFall g (recorded g f.table.items) c o
fall_tells g f c n o start h past next = record {
  full = λ k q lt is some. (
      let d : IsAt (times f.table.items k).dispatch q = dispatch_at g k f.table.items q lt is in
      let low : k < f.head = head_low g f (c - 1) n k q h lt is in
      let early : q.cycle + 1 < c = past.dispatched k q lt is in
      let u : ℕ = uops_of g k in
      told (q.cycle + u / w) o (told_fall w (c - 1) g f k (q.cycle + u / w) o next low
      (λ none. through_first w u q.cycle (c - 1) width (omega (arith, early)) (through w u q.cycle (c - 1) width (omega (arith, early)) (subst (λ x. share_of w u x (c - 1) ≡ 0) d.is (sym (same_share w (c - 1) (row_of g f k)) ∙ none))))
      (λ late. falling k q.cycle (q.cycle + u / w) d.is (falls_first w u q.cycle some))));
  rest = λ k q lt is some. (
      let d : IsAt (times f.table.items k).dispatch q = dispatch_at g k f.table.items q lt is in
      let low : k < f.head = head_low g f (c - 1) n k q h lt is in
      let early : q.cycle + 1 < c = past.dispatched k q lt is in
      let u : ℕ = uops_of g k in
      let before : q.cycle + u / w + 1 - 1 ≡ q.cycle + u / w = omega arith in
      told (q.cycle + u / w + 1) o (told_fall w (c - 1) g f k (q.cycle + u / w + 1) o next low
      (λ none. through_second w u q.cycle (c - 1) width (omega (arith, early)) some (through w u q.cycle (c - 1) width (omega (arith, early)) (subst (λ x. share_of w u x (c - 1) ≡ 0) d.is (sym (same_share w (c - 1) (row_of g f k)) ∙ none))))
      (λ late. falling k q.cycle (q.cycle + u / w + 1) d.is (subst (λ x. share_of w u q.cycle (q.cycle + u / w + 1) < share_of w u q.cycle x) (sym before) (falls_second w u q.cycle width some)))));
  time = some_time o next;
}
  where
    w : ℕ
    w = g.machine.limits.width

    width : 0 < w
    width = omega (arith, h.ranges.width_low)

    told : (t : ℕ) (p : Option ℕ) → Told (c - 1 + 1) p t → Told c p t
    told t p e = let sum : c - 1 + 1 ≡ c = omega (arith, start) in subst (λ x. Told x p t) sum e

    falling : (k d t : ℕ) → (times f.table.items k).dispatch ≡ d → share_of w (uops_of g k) d t < share_of w (uops_of g k) d (t - 1) → nat_lt (share w t (row_of g f k)) (share w (t - 1) (row_of g f k)) ≡ true
    falling k d t is less = lt-ltb _ _ (omega (arith, same_share w t (row_of g f k), same_share w (t - 1) (row_of g f k), subst (λ x. share_of w (uops_of g k) x t < share_of w (uops_of g k) x (t - 1)) (sym is) less))

    some_time : (p : Option ℕ) → IsNextFall w (c - 1) (window (row_of g f) 0 f.head) p → SomeTime g (recorded g f.table.items) c p
    some_time None e = tt
    some_time (Some x) e =
        let row : (k : ℕ) × (k < f.head) × (nat_lt (share w x (row_of g f k)) (share w (x - 1) (row_of g f k)) ≡ true) = of_window (λ r. nat_lt (share w x r) (share w (x - 1) r)) (row_of g f) f.head e.1 in
        let k : ℕ = row.0 in
        let lt : k < g.rows = omega (arith, row.1, h.flow.within) in
        let d : ℕ = (times f.table.items k).dispatch in
        let ne : d ≡ never → ⊥ = h.flow.dispatched k row.1 in
        let here : known_of g (recorded g f.table.items) 2 k ≡ Some (record { cycle = d; what = if (g.row k).reserved then (times f.table.items k).units else [] }) = row_dispatch g k f.table.items lt ∙ known_is_some d _ ne in
        let early : d + 1 < c = past.dispatched k _ lt here in
        let less : share_of w (uops_of g k) d x < share_of w (uops_of g k) d (x - 1) = omega (arith, same_share w x (row_of g f k), same_share w (x - 1) (row_of g f k), ltb-true _ _ row.2) in
        record {
          later = omega (arith, e.0, start);
          set = time_of_row g (recorded g f.table.items) k x lt (set_dispatch g (recorded g f.table.items) k x _ here (among x d (uops_of g k / w) (only_falls w (uops_of g k) d x (omega (arith, early, e.0)) less)));
        }
