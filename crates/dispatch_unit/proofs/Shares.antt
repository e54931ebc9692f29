-- The shares of rows, by what is left of them.
use Rattle.std.proofs.Common.{suc, ◌≡◌, ℕ, ◌+◌, ◌-◌, ◌*◌, ◌<◌, ◌≤◌, inl, inr, List, [], ◌∷◌, arith, ◌∙◌, ap, refl, Bool, true, false, ◌&&◌, ◌||◌, not, min}
use Rattle.std.specs.Prelude.{nat_le, nat_eq}
use Rattle.std.specs.List.{All, sum_by}
use Rattle.std.proofs.lemmas.Bool.Decides.{nat_tests}
use Rattle.std.proofs.lemmas.Bool.{cases_eq}
use Rattle.std.proofs.lemmas.List.Sums.{sum_by-cons}
use Rattle.std.proofs.lemmas.Nat.{mul-le}
use Rattle.dispatch_unit.specs.Group.{Dispatched, share, shares, is_open}
use Rattle.dispatch_unit.specs.Kept.{rest}

pub share_rest : (w c : ℕ) (r : Dispatched) → r.from ≤ c → share w c r ≡ min w (rest w c r)
unfolding share
share_rest w c r past = let test : nat_le r.from c ≡ true = grind (arith, nat_tests, past) in rw test refl

times_sum : (w a b : ℕ) → w * (a + b) ≡ w * a + w * b
times_sum w a b = grind arith

pub rest_later : (w c d : ℕ) (r : Dispatched) → r.from ≤ c → c ≤ d → rest w d r ≡ rest w c r - w * (d - c)
rest_later w c d r past later =
    let sum : d - r.from ≡ (c - r.from) + (d - c) = omega arith in
    let through : w * (d - r.from) ≡ w * (c - r.from) + w * (d - c) = ap (λ n. w * n) sum ∙ times_sum w (c - r.from) (d - c) in
    omega (arith, through)

abbrev pub Past : ℕ → List Dispatched → Type 0
Past c rows = All (λ r. r.from ≤ c) rows

pub past_tail : (c : ℕ) (r : Dispatched) (rows : List Dispatched) → Past c (r ∷ rows) → Past c rows
past_tail c r rows h = λ k d lt. h (suc k) d (omega arith)

-- no row is left, or what is left fits the width, or it is of one row alone
pub shares_left : (w c : ℕ) (rows : List Dispatched) → Past c rows → shares w c rows ≤ w → shares w c rows ≡ min w (sum_by (rest w c) rows)
shares_left w c [] past fit = omega arith
shares_left w c (r ∷ rows) past fit =
    let one : share w c r ≡ min w (rest w c r) = share_rest w c r (past 0 r (omega arith)) in
    let all : shares w c (r ∷ rows) ≡ share w c r + shares w c rows = sum_by-cons (share w c) r rows in
    let left : sum_by (rest w c) (r ∷ rows) ≡ rest w c r + sum_by (rest w c) rows = sum_by-cons (rest w c) r rows in
    let more : shares w c rows ≡ min w (sum_by (rest w c) rows) = shares_left w c rows (past_tail c r rows past) (omega (arith, all, fit)) in
    grind (arith, one, all, left, more, fit)

-- So much is left of them in a later cycle

through_width : (w c d : ℕ) → c < d → w ≤ w * (d - c)
through_width w c d lt = let some : 1 ≤ d - c = omega arith in omega (arith, mul-le w 1 w (d - c) (omega arith) some)

pub left_later : (w c d : ℕ) (rows : List Dispatched) → Past c rows → shares w c rows ≤ w → c < d → sum_by (rest w d) rows ≡ sum_by (rest w c) rows - w * (d - c)
left_later w c d [] past fit later = omega arith
left_later w c d (r ∷ rows) past fit later =
    let here : r.from ≤ c = past 0 r (omega arith) in
    let one : share w c r ≡ min w (rest w c r) = share_rest w c r here in
    let all : shares w c (r ∷ rows) ≡ share w c r + shares w c rows = sum_by-cons (share w c) r rows in
    let before : sum_by (rest w c) (r ∷ rows) ≡ rest w c r + sum_by (rest w c) rows = sum_by-cons (rest w c) r rows in
    let after : sum_by (rest w d) (r ∷ rows) ≡ rest w d r + sum_by (rest w d) rows = sum_by-cons (rest w d) r rows in
    let mine : rest w d r ≡ rest w c r - w * (d - c) = rest_later w c d r here (omega arith) in
    let few : shares w c rows ≤ w = omega (arith, all, fit) in
    let more : sum_by (rest w d) rows ≡ sum_by (rest w c) rows - w * (d - c) = left_later w c d rows (past_tail c r rows past) few later in
    let others : shares w c rows ≡ min w (sum_by (rest w c) rows) = shares_left w c rows (past_tail c r rows past) few in
    let wide : w ≤ w * (d - c) = through_width w c d later in
    grind (arith, one, all, before, after, mine, more, others, wide, fit)

pub fit_later : (w c d : ℕ) (rows : List Dispatched) → Past c rows → c ≤ d → shares w d rows ≤ shares w c rows
fit_later w c d [] past later = omega arith
fit_later w c d (r ∷ rows) past later =
    let here : r.from ≤ c = past 0 r (omega arith) in
    let more : shares w d rows ≤ shares w c rows = fit_later w c d rows (past_tail c r rows past) later in
    let mine : rest w d r ≡ rest w c r - w * (d - c) = rest_later w c d r here later in
    let one : share w c r ≡ min w (rest w c r) = share_rest w c r here in
    let later_share : share w d r ≡ min w (rest w d r) = share_rest w d r (omega (arith, here, later)) in
    let all : shares w c (r ∷ rows) ≡ share w c r + shares w c rows = sum_by-cons (share w c) r rows in
    let all_then : shares w d (r ∷ rows) ≡ share w d r + shares w d rows = sum_by-cons (share w d) r rows in
    grind (arith, more, mine, one, later_share, all, all_then)

-- where nothing is left, no row has a share
pub none_left : (w c : ℕ) (rows : List Dispatched) → Past c rows → sum_by (rest w c) rows ≡ 0 → is_open w c rows ≡ true
none_left w c [] past none = refl
none_left w c (r ∷ rows) past none =
    let left : sum_by (rest w c) (r ∷ rows) ≡ rest w c r + sum_by (rest w c) rows = sum_by-cons (rest w c) r rows in
    let one : share w c r ≡ min w (rest w c r) = share_rest w c r (past 0 r (omega arith)) in
    let zero_share : share w c r ≡ 0 = grind (arith, one, left, none) in
    let test : nat_eq (share w c r) 0 ≡ true = grind (arith, nat_tests, zero_share) in
    let more : is_open w c rows ≡ true = none_left w c rows (past_tail c r rows past) (omega (arith, left, none)) in
    rw (test, more) (true_or r.ends)
  where
    true_or : (b : Bool) → ((not b || true) && true) ≡ true
    true_or true = refl
    true_or false = refl

-- where something is left later, it is of one row alone, which has a share in both cycles
pub open_later : (w c d : ℕ) (rows : List Dispatched) → 1 ≤ w → Past c rows → shares w c rows ≤ w → c < d → 0 < sum_by (rest w d) rows → is_open w d rows ≡ is_open w c rows
open_later w c d [] some past fit later left = refl
open_later w c d (r ∷ rows) some past fit later left =
    let here : r.from ≤ c = past 0 r (omega arith) in
    let one : share w c r ≡ min w (rest w c r) = share_rest w c r here in
    let later_share : share w d r ≡ min w (rest w d r) = share_rest w d r (omega (arith, here, later)) in
    let all : shares w c (r ∷ rows) ≡ share w c r + shares w c rows = sum_by-cons (share w c) r rows in
    let before : sum_by (rest w c) (r ∷ rows) ≡ rest w c r + sum_by (rest w c) rows = sum_by-cons (rest w c) r rows in
    let after : sum_by (rest w d) (r ∷ rows) ≡ rest w d r + sum_by (rest w d) rows = sum_by-cons (rest w d) r rows in
    let mine : rest w d r ≡ rest w c r - w * (d - c) = rest_later w c d r here (omega arith) in
    let few : shares w c rows ≤ w = omega (arith, all, fit) in
    let more : sum_by (rest w d) rows ≡ sum_by (rest w c) rows - w * (d - c) = left_later w c d rows (past_tail c r rows past) few later in
    let others : shares w c rows ≡ min w (sum_by (rest w c) rows) = shares_left w c rows (past_tail c r rows past) few in
    let wide : w ≤ w * (d - c) = through_width w c d later in
    let past_rows : Past c rows = past_tail c r rows past in
    let past_then : Past d rows = λ k e lt. omega (arith, past_rows k e lt, later) in
    elim (cases_eq (rest w c r) 0) [
      | inl none ↦ (
          let rest_left : 0 < sum_by (rest w d) rows = omega (arith, after, left, mine, none) in
          let same : is_open w d rows ≡ is_open w c rows = open_later w c d rows some past_rows few later rest_left in
          let test : nat_eq (share w c r) 0 ≡ true = grind (arith, nat_tests, one, none) in
          let test_then : nat_eq (share w d r) 0 ≡ true = grind (arith, nat_tests, later_share, mine, none) in
          rw (test, test_then, same) refl)
      | inr alone ↦ (
          let none : sum_by (rest w c) rows ≡ 0 = grind (arith, one, all, after, mine, more, others, wide, fit, left, alone) in
          let now_open : is_open w c rows ≡ true = none_left w c rows past_rows none in
          let then_open : is_open w d rows ≡ true = none_left w d rows past_then (omega (arith, more, none)) in
          let test : nat_eq (share w c r) 0 ≡ false = grind (arith, nat_tests, one, alone, some) in
          let test_then : nat_eq (share w d r) 0 ≡ false = grind (arith, nat_tests, later_share, mine, one, all, after, more, others, wide, fit, left, alone, some, none) in
          rw (test, test_then, now_open, then_open) refl)
    ]
