-- When a share falls.
use Rattle.std.proofs.Common.{zero, suc, ◌≡◌, ℕ, ◌+◌, ◌-◌, ◌*◌, ◌/◌, ◌%◌, ◌<◌, ◌≤◌, ◌⊎◌, inl, inr, List, [], ◌∷◌, arith, sym, ◌∙◌, ap, subst, refl, Bool, true, false, ◌&&◌, min, max, Some}
use Rattle.std.specs.Prelude.{nat_lt}
use Rattle.std.specs.List.{sum_by}
use Rattle.std.proofs.lemmas.Bool.Decides.{nat_tests}
use Rattle.std.proofs.lemmas.Bool.{cases_eq}
use Rattle.std.proofs.lemmas.List.Sums.{sum_by-cons}
use Rattle.std.proofs.lemmas.Nat.{div-add-mod', mul-le}
use Rattle.dispatch_unit.specs.Group.{Dispatched, share, shares, falls_at, IsNextFall}
use Rattle.dispatch_unit.specs.Kept.{rest, AreKept}
use Rattle.dispatch_unit.proofs.Shares.{Past, past_tail, share_rest, rest_later, shares_left}

fall_test : (w r p : ℕ) → 1 ≤ w → nat_lt (min w (r - (p + w))) (min w (r - p)) ≡ (nat_lt p r && nat_lt r (p + w + w))
fall_test w r p some = grind (arith, nat_tests, some)

-- by what is left of a row, with p the micro-ops that go through until the cycle before
row_falls : (w cycle c p : ℕ) (r : Dispatched) → 1 ≤ w → r.from ≤ cycle → cycle < c → p ≡ w * (c - 1 - cycle) → nat_lt (share w c r) (share w (c - 1) r) ≡ (nat_lt p (rest w cycle r) && nat_lt (rest w cycle r) (p + w + w))
row_falls w cycle c p r some past later is =
    let count : c - cycle ≡ c - 1 - cycle + 1 = omega arith in
    let product : w * (c - 1 - cycle + 1) ≡ w * (c - 1 - cycle) + w = grind arith in
    let through : w * (c - cycle) ≡ p + w = ap (λ n. w * n) count ∙ product ∙ ap (λ n. n + w) (sym is) in
    let here : share w c r ≡ min w (rest w cycle r - (p + w)) = share_rest w c r (omega (arith, past, later)) ∙ ap (min w) (rest_later w cycle c r past (omega arith)) ∙ ap (λ n. min w (rest w cycle r - n)) through in
    let before : share w (c - 1) r ≡ min w (rest w cycle r - p) = share_rest w (c - 1) r (omega (arith, past, later)) ∙ ap (min w) (rest_later w cycle (c - 1) r past (omega arith)) ∙ ap (λ n. min w (rest w cycle r - n)) (sym is) in
    rw (here, before) (fall_test w (rest w cycle r) p some)

-- where nothing is left, nothing falls
nothing_falls : (w cycle c p : ℕ) (rows : List Dispatched) → 1 ≤ w → Past cycle rows → cycle < c → p ≡ w * (c - 1 - cycle) → sum_by (rest w cycle) rows ≡ 0 → falls_at w rows c ≡ false
nothing_falls w cycle c p [] some past later is none = refl
nothing_falls w cycle c p (r ∷ rows) some past later is none =
    let all : sum_by (rest w cycle) (r ∷ rows) ≡ rest w cycle r + sum_by (rest w cycle) rows = sum_by-cons (rest w cycle) r rows in
    let zero_rest : rest w cycle r ≡ 0 = omega (arith, all, none) in
    let test : nat_lt (share w c r) (share w (c - 1) r) ≡ false = row_falls w cycle c p r some (past 0 r (omega arith)) later is ∙ (grind (arith, nat_tests, zero_rest)) in
    rw test (nothing_falls w cycle c p rows some (past_tail cycle r rows past) later is (omega (arith, all, none)))

-- a row of which something is left is alone, or all fit the width
others_none : (w cycle : ℕ) (r : Dispatched) (rows : List Dispatched) → 1 ≤ w → Past cycle (r ∷ rows) → shares w cycle (r ∷ rows) ≤ w → w < sum_by (rest w cycle) (r ∷ rows) → (rest w cycle r ≡ 0 → ⊥) → sum_by (rest w cycle) rows ≡ 0
others_none w cycle r rows some past fit wide left =
    let one : share w cycle r ≡ min w (rest w cycle r) = share_rest w cycle r (past 0 r (omega arith)) in
    let all : shares w cycle (r ∷ rows) ≡ share w cycle r + shares w cycle rows = sum_by-cons (share w cycle) r rows in
    let sum : sum_by (rest w cycle) (r ∷ rows) ≡ rest w cycle r + sum_by (rest w cycle) rows = sum_by-cons (rest w cycle) r rows in
    let few : shares w cycle rows ≤ w = omega (arith, all, fit) in
    let others : shares w cycle rows ≡ min w (sum_by (rest w cycle) rows) = shares_left w cycle rows (past_tail cycle r rows past) few in
    grind (arith, one, all, sum, others, fit, wide, left, some)

-- more than a width goes on after the cycle: nothing falls there
none_falls : (w cycle c p : ℕ) (rows : List Dispatched) → 1 ≤ w → Past cycle rows → shares w cycle rows ≤ w → cycle < c → p ≡ w * (c - 1 - cycle) → p + w + w ≤ sum_by (rest w cycle) rows → falls_at w rows c ≡ false
none_falls w cycle c p [] some past fit later is wide = refl
none_falls w cycle c p (r ∷ rows) some past fit later is wide =
    let sum : sum_by (rest w cycle) (r ∷ rows) ≡ rest w cycle r + sum_by (rest w cycle) rows = sum_by-cons (rest w cycle) r rows in
    let all : shares w cycle (r ∷ rows) ≡ share w cycle r + shares w cycle rows = sum_by-cons (share w cycle) r rows in
    let mine : nat_lt (share w c r) (share w (c - 1) r) ≡ (nat_lt p (rest w cycle r) && nat_lt (rest w cycle r) (p + w + w)) = row_falls w cycle c p r some (past 0 r (omega arith)) later is in
    elim (cases_eq (rest w cycle r) 0) [
      | inl none ↦ (let test : nat_lt (share w c r) (share w (c - 1) r) ≡ false = mine ∙ (grind (arith, nat_tests, none)) in
          rw test (none_falls w cycle c p rows some (past_tail cycle r rows past) (omega (arith, all, fit)) later is (omega (arith, wide, sum, none))))
      | inr left ↦ (let none : sum_by (rest w cycle) rows ≡ 0 = others_none w cycle r rows some past fit (omega (arith, wide, some)) left in
          let test : nat_lt (share w c r) (share w (c - 1) r) ≡ false = mine ∙ (grind (arith, nat_tests, none, sum, wide)) in
          rw test (nothing_falls w cycle c p rows some (past_tail cycle r rows past) later is none))
    ]

-- no more than two widths are left from the cycle before on, and something: a share falls
some_falls : (w cycle c p : ℕ) (rows : List Dispatched) → 1 ≤ w → Past cycle rows → shares w cycle rows ≤ w → cycle < c → p ≡ w * (c - 1 - cycle) → p < sum_by (rest w cycle) rows → sum_by (rest w cycle) rows < p + w + w
    → (p ≡ 0) ⊎ (w < sum_by (rest w cycle) rows) → falls_at w rows c ≡ true
some_falls w cycle c p [] some past fit later is low high how = absurd (omega (arith, low))
some_falls w cycle c p (r ∷ rows) some past fit later is low high how =
    let sum : sum_by (rest w cycle) (r ∷ rows) ≡ rest w cycle r + sum_by (rest w cycle) rows = sum_by-cons (rest w cycle) r rows in
    let all : shares w cycle (r ∷ rows) ≡ share w cycle r + shares w cycle rows = sum_by-cons (share w cycle) r rows in
    let mine : nat_lt (share w c r) (share w (c - 1) r) ≡ (nat_lt p (rest w cycle r) && nat_lt (rest w cycle r) (p + w + w)) = row_falls w cycle c p r some (past 0 r (omega arith)) later is in
    elim (cases_eq (rest w cycle r) 0) [
      | inl none ↦ (let test : nat_lt (share w c r) (share w (c - 1) r) ≡ false = mine ∙ (grind (arith, nat_tests, none)) in
          let same : sum_by (rest w cycle) (r ∷ rows) ≡ sum_by (rest w cycle) rows = omega (arith, sum, none) in
          rw test (some_falls w cycle c p rows some (past_tail cycle r rows past) (omega (arith, all, fit)) later is (omega (arith, low, same)) (omega (arith, high, same)) (elim how [ inl z ↦ inl z | inr wide ↦ inr (omega (arith, wide, same)) ])))
      | inr left ↦ (let above : p < rest w cycle r = elim how [
        | inl z ↦ omega (arith, z, left)
        | inr wide ↦ (let none : sum_by (rest w cycle) rows ≡ 0 = others_none w cycle r rows some past fit wide left in omega (arith, none, sum, low))
      ] in
          let test : nat_lt (share w c r) (share w (c - 1) r) ≡ true = mine ∙ (grind (arith, nat_tests, above, high, sum)) in
          rw test refl)
    ]

-- the cycles until then: as many as whole widths are left, and one at least
until : (w q m left d : ℕ) → 1 ≤ w → q * w + m ≡ left → m < w → 0 < left → d ≡ max q 1 - 1 → (w * d < left) × (left < w * d + w + w) × ((w * d ≡ 0) ⊎ (w < left))
until w zero m left d some whole part more is =
    let none : d ≡ 0 = omega (arith, is) in
    let nothing : w * d ≡ 0 = grind (arith, none) in
    let small : left ≡ m = grind (arith, whole) in
    (omega (arith, nothing, more), omega (arith, nothing, small, part), inl nothing)
until w (suc k) m left d some whole part more is =
    let count : d ≡ k = omega (arith, is) in
    let product : suc k * w ≡ w * k + w = grind arith in
    let same : w * d ≡ w * k = ap (λ n. w * n) count in
    let sum : w * k + w + m ≡ left = omega (arith, whole, product) in (
      omega (arith, sum, same, some),
      omega (arith, sum, same, part),
      elim (cases_eq k 0) [
        | inl none ↦ inl (let nothing : w * k ≡ 0 = grind (arith, none) in omega (arith, same, nothing))
        | inr two ↦ inr (let one : w * 1 ≤ w * k = mul-le w 1 w k (omega arith) (omega arith) in omega (arith, one, sum, some))
      ],
    )

before_then : (w q m left e : ℕ) → q * w + m ≡ left → e + 2 ≤ q → w * e + w + w ≤ left
before_then w q m left e whole le =
    let all : w * (e + 2) ≤ w * q = mul-le w (e + 2) w q (omega arith) le in
    let product : w * (e + 2) ≡ w * e + w + w = grind arith in
    let turned : w * q ≡ q * w = grind arith in
    omega (arith, all, product, turned, whole)

-- the next cycle in which a share falls
pub next_fall : (w cycle left : ℕ) (o : Bool) (rows : List Dispatched) → 1 ≤ w → AreKept w cycle left o rows → 0 < left → IsNextFall w cycle rows (Some (cycle + max (left / w) 1))
next_fall w cycle left o rows some h more =
    let whole : left / w * w + left % w ≡ left = div-add-mod' left w in
    let part : left % w < w = omega (arith, some) in
    let n : ℕ = cycle + max (left / w) 1 in
    let at : (w * (n - 1 - cycle) < left) × (left < w * (n - 1 - cycle) + w + w) × ((w * (n - 1 - cycle) ≡ 0) ⊎ (w < left)) = until w (left / w) (left % w) left (n - 1 - cycle) some whole part more (omega arith) in (
      omega arith,
      some_falls w cycle n (w * (n - 1 - cycle)) rows some h.past h.fit (omega arith) refl (subst (λ x. w * (n - 1 - cycle) < x) h.left at.0) (subst (λ x. x < w * (n - 1 - cycle) + w + w) h.left at.1) (subst (λ x. (w * (n - 1 - cycle) ≡ 0) ⊎ (w < x)) h.left at.2),
      λ c later early. none_falls w cycle c (w * (c - 1 - cycle)) rows some h.past h.fit later refl (subst (λ x. w * (c - 1 - cycle) + w + w ≤ x) h.left (before_then w (left / w) (left % w) left (c - 1 - cycle) whole (omega (arith, later, early)))),
    )

-- where nothing is left there is no share
pub no_share : (w cycle left : ℕ) (o : Bool) (rows : List Dispatched) → AreKept w cycle left o rows → left ≡ 0 → shares w cycle rows ≡ 0
no_share w cycle left o rows h none = shares_left w cycle rows h.past h.fit ∙ (let nothing : sum_by (rest w cycle) rows ≡ 0 = sym h.left ∙ none in grind (arith, nothing))
