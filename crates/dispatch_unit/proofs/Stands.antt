-- What a group keeps of its rows answers for them, and stays what is kept.
use Rattle.std.proofs.Common.{zero, suc, ◌≡◌, ℕ, ◌+◌, ◌-◌, ◌*◌, ◌^◌, ◌<◌, ◌≤◌, inl, inr, List, [], ◌∷◌, ◌++◌, arith, sym, ◌∙◌, ap, refl, Bool, true, false, ◌&&◌, ◌||◌, not, min}
use Rattle.std.specs.Prelude.{nat_lt, nat_le, nat_eq}
use Rattle.std.specs.List.{All, sum_by}
use Rattle.std.proofs.lemmas.Bool.Decides.{nat_tests}
use Rattle.std.proofs.lemmas.Bool.{cases_lt, cases_eq}
use Rattle.std.proofs.lemmas.List.Sums.{sum_by_push}
use Rattle.std.proofs.lemmas.List.Folds.{list_all-append}
use Rattle.dispatch_unit.specs.Group.{Dispatched, share, shares, has_place}
use Rattle.dispatch_unit.specs.Kept.{rest, AreKept}
use Rattle.dispatch_unit.proofs.Shares.{Past, past_tail, share_rest, shares_left, left_later, fit_later, none_left, open_later}

pub place_is : (w c left uops : ℕ) (o begins : Bool) (rows : List Dispatched) → AreKept w c left o rows
    → has_place w c rows uops begins ≡ (nat_le (min left w + min uops w) w && (not (begins || nat_lt w uops) || nat_eq (min left w) 0) && o)
place_is w c left uops o begins rows h =
    let taken : shares w c rows ≡ min left w = grind (arith, shares_left w c rows h.past h.fit, h.left) in
    rw (taken, ← h.is_open) refl

first_true : (a b : Bool) → (a && b) ≡ true → a ≡ true
first_true true b e = refl
first_true false b e = cc

second_true : (a b : Bool) → (a && b) ≡ true → b ≡ true
second_true true b e = e
second_true false b e = cc

-- a row joins
joined : (w left uops : ℕ) → (nat_le (min left w + min uops w) w && (not (false || nat_lt w uops) || nat_eq (min left w) 0)) ≡ true
    → (min left w + min uops w ≤ w) × (w < uops → min left w ≡ 0)
joined w left uops e =
    let fits : nat_le (min left w + min uops w) w ≡ true = first_true (nat_le (min left w + min uops w) w) (not (false || nat_lt w uops) || nat_eq (min left w) 0) e in
    let alone : (not (false || nat_lt w uops) || nat_eq (min left w) 0) ≡ true = second_true (nat_le (min left w + min uops w) w) (not (false || nat_lt w uops) || nat_eq (min left w) 0) e in
    (grind (arith, nat_tests, fits), λ wide. grind (arith, nat_tests, alone, wide))

-- nothing is kept of no row
pub kept_none : (w : ℕ) → AreKept w 0 0 true []
kept_none w = record { past = λ k d lt. omega (arith, lt); fit = omega arith; left = refl; is_open = refl }

past_push : (c : ℕ) (rows : List Dispatched) (r : Dispatched) → All (λ r. r.from ≤ c) rows → r.from ≤ c → All (λ r. r.from ≤ c) (rows ++ r ∷ [])
past_push c [] r past last zero d lt = last
past_push c [] r past last (suc k) d lt = omega (arith, lt)
past_push c (x ∷ rows) r past last zero d lt = past 0 d (omega arith)
past_push c (x ∷ rows) r past last (suc k) d lt = past_push c rows r (past_tail c x rows past) last k d (omega (arith, lt))

-- a row that has just come
rest_now : (w c uops : ℕ) (ends : Bool) → rest w c (record { uops = uops; from = c; ends = ends }) ≡ uops
rest_now w c uops ends = let none : c - c ≡ 0 = omega arith in let nothing : w * (c - c) ≡ 0 = grind (arith, none) in omega (arith, nothing)

share_now : (w c uops : ℕ) (ends : Bool) → share w c (record { uops = uops; from = c; ends = ends }) ≡ min w uops
share_now w c uops ends = share_rest w c (record { uops = uops; from = c; ends = ends }) (omega arith) ∙ ap (min w) (rest_now w c uops ends)

-- a row joins those that are kept
pub kept_place : (w c left uops : ℕ) (o ends : Bool) (rows : List Dispatched) → 1 ≤ w → AreKept w c left o rows → has_place w c rows uops false ≡ true
    → AreKept w c (left + uops) (o && (not ends || nat_eq uops 0)) (rows ++ record { uops = uops; from = c; ends = ends } ∷ [])
kept_place w c left uops o ends rows some h place =
    let r : Dispatched = record { uops = uops; from = c; ends = ends } in
    let all : shares w c (rows ++ r ∷ []) ≡ shares w c rows + share w c r = sum_by_push (share w c) rows r in
    let mine : share w c r ≡ min w uops = share_now w c uops ends in
    let taken : shares w c rows ≡ min w (sum_by (rest w c) rows) = shares_left w c rows h.past h.fit in
    let fits : (min left w + min uops w ≤ w) × (w < uops → min left w ≡ 0) = joined w left uops (first_true _ _ (sym (place_is w c left uops o false rows h) ∙ place)) in
    let few : min left w + min uops w ≤ w = fits.0 in
    let left_all : sum_by (rest w c) (rows ++ r ∷ []) ≡ sum_by (rest w c) rows + rest w c r = sum_by_push (rest w c) rows r in
    let left_mine : rest w c r ≡ uops = rest_now w c uops ends in
    let left_is : left ≡ sum_by (rest w c) rows = h.left in
    let test : nat_eq (share w c r) 0 ≡ nat_eq uops 0 = grind (arith, nat_tests, mine, some) in
    record {
      past = past_push c rows r h.past (omega arith);
      fit = grind (arith, all, mine, taken, few, left_is);
      left = omega (arith, left_all, left_mine, left_is);
      is_open = sym (list_all-append (λ r. not r.ends || nat_eq (share w c r) 0) rows (r ∷ []) ∙ rw (← h.is_open, test) (and_true o (not ends || nat_eq uops 0)));
    }
  where
    and_true : (a b : Bool) → (a && (b && true)) ≡ (a && b)
    and_true true true = refl
    and_true true false = refl
    and_true false b = refl

-- and in a later cycle so much is kept of them
pub kept_later : (w c d left : ℕ) (o : Bool) (rows : List Dispatched) → 1 ≤ w → c < d → AreKept w c left o rows
    → AreKept w d (left - w * (d - c)) (o || nat_eq (left - w * (d - c)) 0) rows
kept_later w c d left o rows some later h =
    let left_is : sum_by (rest w d) rows ≡ left - w * (d - c) = left_later w c d rows h.past h.fit later ∙ ap (λ n. n - w * (d - c)) (sym h.left) in
    let past : Past d rows = λ k e lt. omega (arith, h.past k e lt, later) in
    record {
      past = past;
      fit = omega (arith, fit_later w c d rows h.past (omega arith), h.fit);
      left = sym left_is;
      is_open = elim (cases_eq (left - w * (d - c)) 0) [
        | inl none ↦ (let test : nat_eq (left - w * (d - c)) 0 ≡ true = grind (arith, nat_tests, none) in rw test (or_true o ∙ sym (none_left w d rows past (left_is ∙ none))))
        | inr some_left ↦ (let test : nat_eq (left - w * (d - c)) 0 ≡ false = grind (arith, nat_tests, some_left) in
            rw test (or_false o ∙ h.is_open ∙ sym (open_later w c d rows some h.past h.fit later (omega (arith, left_is, some_left)))))
      ];
    }
  where
    or_true : (b : Bool) → (b || true) ≡ true
    or_true true = refl
    or_true false = refl

    or_false : (b : Bool) → (b || false) ≡ b
    or_false true = refl
    or_false false = refl

-- of all rows of which this is kept, the answer is the same
pub place_agrees : (w c left uops : ℕ) (o begins : Bool) (these those : List Dispatched) → AreKept w c left o these → AreKept w c left o those → has_place w c these uops begins ≡ true → has_place w c those uops begins ≡ true
place_agrees w c left uops o begins these those a b place = place_is w c left uops o begins those b ∙ sym (place_is w c left uops o begins these a) ∙ place

pub left_few : (w c left uops : ℕ) (o : Bool) (rows : List Dispatched) → 1 ≤ w → w ≤ 64 → left < 2 ^ 16 → uops < 2 ^ 16 → AreKept w c left o rows → has_place w c rows uops false ≡ true → left + uops < 2 ^ 16
left_few w c left uops o rows some few low small h place =
    let fits : (min left w + min uops w ≤ w) × (w < uops → min left w ≡ 0) = joined w left uops (first_true _ _ (sym (place_is w c left uops o false rows h) ∙ place)) in
    let sum : min left w + min uops w ≤ w = fits.0 in
    elim (cases_lt w uops) [
      | inl wide ↦ (let none : min left w ≡ 0 = fits.1 wide in grind (arith, none, some, small))
      | inr fit ↦ elim (cases_eq uops 0) [
        | inl none ↦ omega (arith, none, low)
        | inr some_uops ↦ grind (arith, sum, fit, some_uops, few)
      ]
    ]
