-- Sums, counts and tests over all older rows are those over the rows in flight.
use Rattle.std.proofs.Common.{zero, suc, ◌≡◌, ℕ, ◌+◌, ◌-◌, ◌<◌, ◌≤◌, [], ◌∷◌, ◌++◌, arith, sym, ◌∙◌, ap, subst, refl, add-zero, add-suc, Bool, true, false, ◌&&◌}
use Rattle.std.specs.Prelude.{if◌then◌else◌}
use Rattle.std.specs.List.{sum_by, list_all}
use Rattle.std.proofs.lemmas.List.FromFn.{map-range_with_len_more, sum_by-map-range_with_len_more}
use Rattle.std.proofs.lemmas.List.Folds.{list_all-append}
use Rattle.cycle_rules.specs.Below.{sum_below, count_below, all_below}
use Rattle.engine_state.specs.Flight.{window}

sum_none : (n : ℕ) (f : ℕ → ℕ) → ((k : ℕ) → k < n → f k ≡ 0) → sum_below n f ≡ 0
unfolding sum_below
sum_none zero f h = refl
sum_none (suc n) f h = let rest : sum_below n f ≡ 0 = sum_none n f (λ k lt. h k (omega arith)) in omega (arith, rest, h n (omega arith))

-- rows before the window add nothing, those in it what the part counts
pub sum_window : {X : Type 0} (f : ℕ → ℕ) (g : X → ℕ) (of_row : ℕ → X) (a n : ℕ) → ((k : ℕ) → k < a → f k ≡ 0) → ((k : ℕ) → a ≤ k → k < a + n → f k ≡ g (of_row k)) → sum_below (a + n) f ≡ sum_by g (window of_row a n)
unfolding sum_below
sum_window f g of_row a zero before inside = rw add-zero (sum_none a f before)
sum_window f g of_row a (suc n) before inside =
    let rest : sum_below (a + n) f ≡ sum_by g (window of_row a n) = sum_window f g of_row a n before (λ k le lt. inside k le (omega (arith, lt))) in
    let last : f (a + n) ≡ g (of_row (a + n)) = inside (a + n) (omega arith) (omega arith) in
    let next : n + 1 ≡ suc n = omega arith in
    let more : sum_by g (window of_row a (suc n)) ≡ sum_by g (window of_row a n) + g (of_row (a + n)) =
    subst (λ m. sum_by g (window of_row a m) ≡ sum_by g (window of_row a n) + g (of_row (a + n))) next (sum_by-map-range_with_len_more g of_row a n (a + n) refl) in
    rw add-suc (omega (arith, rest, last, more))

-- the window of all older rows
pub sum_all : {X : Type 0} (f : ℕ → ℕ) (g : X → ℕ) (of_row : ℕ → X) (n : ℕ) → ((k : ℕ) → k < n → f k ≡ g (of_row k)) → sum_below n f ≡ sum_by g (window of_row 0 n)
sum_all f g of_row n same =
    let sum : 0 + n ≡ n = omega arith in
    subst (λ m. sum_below m f ≡ sum_by g (window of_row 0 n)) sum (sum_window f g of_row 0 n (λ k lt. absurd (omega (arith, lt))) (λ k le lt. same k (omega (arith, lt))))

pub count_sum : (n : ℕ) (p : ℕ → Bool) → count_below n p ≡ sum_below n (λ k. if p k then 1 else 0)
unfolding count_below sum_below
count_sum zero p = refl
count_sum (suc n) p = ap (λ x. x + (if p n then 1 else 0)) (count_sum n p)

pub all_window : {X : Type 0} (p : ℕ → Bool) (q : X → Bool) (of_row : ℕ → X) (n : ℕ) → ((k : ℕ) → k < n → p k ≡ q (of_row k)) → all_below n p ≡ list_all q (window of_row 0 n)
unfolding all_below
all_window p q of_row zero h = refl
all_window p q of_row (suc n) h =
    let rest : all_below n p ≡ list_all q (window of_row 0 n) = all_window p q of_row n (λ k lt. h k (omega arith)) in
    let next : n + 1 ≡ suc n = omega arith in
    let more : window of_row 0 (suc n) ≡ window of_row 0 n ++ of_row n ∷ [] = subst (λ m. window of_row 0 m ≡ window of_row 0 n ++ of_row n ∷ []) next (map-range_with_len_more of_row 0 n n (omega arith)) in
    let all : list_all q (window of_row 0 (suc n)) ≡ (list_all q (window of_row 0 n) && q (of_row n)) =
    ap (list_all q) more ∙ list_all-append q (window of_row 0 n) (of_row n ∷ []) ∙ ap (λ b. list_all q (window of_row 0 n) && b) (and_true (q (of_row n))) in
    (λ i. rest i && h n (omega arith) i) ∙ sym all
  where
    and_true : (b : Bool) → (b && true) ≡ b
    and_true true = refl
    and_true false = refl

-- a window grows at its end and shrinks at its front
pub window_more : {X : Type 0} (of_row : ℕ → X) (a n : ℕ) → window of_row a (n + 1) ≡ window of_row a n ++ of_row (a + n) ∷ []
window_more of_row a n = map-range_with_len_more of_row a n (a + n) refl

pub window_less : {X : Type 0} (of_row : ℕ → X) (a n : ℕ) → window of_row a (suc n) ≡ of_row a ∷ window of_row (a + 1) n
window_less of_row a n = refl

pub window_same : {X : Type 0} (f h : ℕ → X) (a n : ℕ) → ((k : ℕ) → a ≤ k → k < a + n → f k ≡ h k) → window f a n ≡ window h a n
window_same f h a zero same = refl
window_same f h a (suc n) same =
    let rest : window f (a + 1) n ≡ window h (a + 1) n = window_same f h (a + 1) n (λ k le lt. same k (omega arith) (omega arith)) in
    let first : f a ≡ h a = same a (omega arith) (omega arith) in
    λ i. first i ∷ rest i

-- the oldest row of those in flight, and the row that comes next
pub window_first : {X : Type 0} (of_row : ℕ → X) (front head : ℕ) → front < head → window of_row front (head - front) ≡ of_row front ∷ window of_row (front + 1) (head - (front + 1))
window_first {X} of_row front head lt =
    let count : suc (head - (front + 1)) ≡ head - front = omega arith in
    subst (λ n. window of_row front n ≡ of_row front ∷ window of_row (front + 1) (head - (front + 1))) count refl

pub window_last : {X : Type 0} (of_row : ℕ → X) (front head : ℕ) → front ≤ head → window of_row front (head + 1 - front) ≡ window of_row front (head - front) ++ of_row head ∷ []
window_last {X} of_row front head le =
    let count : head - front + 1 ≡ head + 1 - front = omega arith in
    let last : front + (head - front) ≡ head = omega arith in
    subst (λ n. window of_row front n ≡ window of_row front (head - front) ++ of_row head ∷ []) count
    (subst (λ k. window of_row front (head - front + 1) ≡ window of_row front (head - front) ++ of_row k ∷ []) last (window_more of_row front (head - front)))

-- where each row counts, a sum is no less than their number
pub window_few : {X : Type 0} (g : X → ℕ) (of_row : ℕ → X) (a n : ℕ) → ((k : ℕ) → a ≤ k → k < a + n → 1 ≤ g (of_row k)) → n ≤ sum_by g (window of_row a n)
window_few g of_row a zero some = omega arith
window_few {X} g of_row a (suc n) some =
    let rest : n ≤ sum_by g (window of_row a n) = window_few g of_row a n (λ k le lt. some k le (omega (arith, lt))) in
    let next : n + 1 ≡ suc n = omega arith in
    let more : sum_by g (window of_row a (suc n)) ≡ sum_by g (window of_row a n) + g (of_row (a + n)) =
    subst (λ m. sum_by g (window of_row a m) ≡ sum_by g (window of_row a n) + g (of_row (a + n))) next (sum_by-map-range_with_len_more g of_row a n (a + n) refl) in
    omega (arith, rest, more, some (a + n) (omega arith) (omega arith))
