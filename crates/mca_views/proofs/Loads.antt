-- The numbers of a body: what they are of all rows of a run, and that they fit.
use Rattle.std.proofs.Common.{◌≡◌, ℕ, zero, suc, ◌+◌, ◌-◌, ◌*◌, ◌%◌, ◌^◌, ◌<◌, ◌≤◌, Bool, true, false, cond, List, [], ◌∷◌, length, map, take, get_or, Fits, refl, sym, ap, ◌∙◌, arith, mul-le-mul, mul-le-mul_right, mul_comm, subst}
use Rattle.std.specs.Int.{w64, w128}
use Rattle.std.specs.List.{All, sum_by}
use Rattle.std.proofs.lemmas.List.{length-map, take_all}
use Rattle.std.proofs.Math.ListN.{get_or-map}
use Rattle.std.proofs.lemmas.Nat.{mod-mul-add}
use Rattle.std.proofs.lemmas.List.Sums.{sum_by_more}
use Rattle.std.proofs.lemmas.Bool.{false_from_ne_true}
use Rattle.unit_sets.proofs.Count.{count-same, count-add}
use Rattle.machine_model.specs.Meaning.{MachineMeaning}
use Rattle.machine_model.specs.Uses.{units_of}
use Rattle.machine_model.specs.Valid.{IsValidMachine}
use Rattle.cycle_rules.specs.Below.{count_below, sum_below}
use Rattle.cycle_rules.specs.Bind.{row_of}
use Rattle.cycle_rules.specs.Row.{input, no_row}
use Rattle.cycle_rules.specs.Totals.{total_uops, body_uops, greatest, greater, throughput, block_throughput, greatest_load, holds_unit, over}
use Rattle.cycle_rules.specs.declared.bound.Bound.{Bound}
use Rattle.mca_fixed.specs.declared.decimals.Frac.{Frac}
use Rattle.cycle_rules.proofs.Counts.{count_none, count_le}
use Rattle.mca_views.specs.Shown.{IsEntry, no_bound}

pub fits_product : (a b : ℕ) → a < 2 ^ 64 → b < 2 ^ 64 → Fits w128 (a * b)
fits_product a b low high = let le : a * b ≤ (2 ^ 64 - 1) * (2 ^ 64 - 1) = (let l : a ≤ 2 ^ 64 - 1 = omega (arith, low) in let h : b ≤ 2 ^ 64 - 1 = omega (arith, high) in mul-le-mul l h) in omega (arith, le)

-- Sums over rows

sum_split : (a b : ℕ) (f : ℕ → ℕ) → sum_below (a + b) f ≡ sum_below a f + sum_below b (λ j. f (a + j))
unfolding sum_below
sum_split a zero f = let e : a + 0 ≡ a = omega arith in ap (λ n. sum_below n f) e ∙ omega arith
sum_split a (suc b) f = let e : a + suc b ≡ suc (a + b) = omega arith in ap (λ n. sum_below n f) e ∙ omega (arith, sum_split a b f)

sum_alike : (n : ℕ) (f h : ℕ → ℕ) → ((k : ℕ) → k < n → f k ≡ h k) → sum_below n f ≡ sum_below n h
unfolding sum_below
sum_alike zero f h e = refl
sum_alike (suc n) f h e = omega (arith, sum_alike n f h (λ k lt. e k (omega arith)), e n (omega arith))

sum_repeated : (k n : ℕ) (f : ℕ → ℕ) → sum_below (k * n) (λ j. f (j % n)) ≡ k * sum_below n f
unfolding sum_below
sum_repeated zero n f = let a : 0 * n ≡ 0 = omega arith in let b : 0 * sum_below n f ≡ 0 = omega arith in ap (λ m. sum_below m (λ j. f (j % n))) a ∙ sym b
sum_repeated (suc k) n f =
    let e : suc k * n ≡ k * n + n = omega arith in
    let last : sum_below n (λ j. f ((k * n + j) % n)) ≡ sum_below n f = sum_alike n (λ j. f ((k * n + j) % n)) f (λ j lt. ap f (mod-mul-add k n j lt)) in
    let both : suc k * sum_below n f ≡ k * sum_below n f + sum_below n f = omega arith in
    ap (λ m. sum_below m (λ j. f (j % n))) e ∙ omega (arith, sum_split (k * n) n (λ j. f (j % n)), sum_repeated k n f, last, both)

sum_listed : {X : Type 0} (f : X → ℕ) (xs : List X) (d : X) (k : ℕ) → k ≤ length xs → sum_below k (λ j. f (get_or xs j d)) ≡ sum_by f (take k xs)
unfolding sum_below
sum_listed f xs d zero le = refl
sum_listed f xs d (suc k) le =
    let e : suc k ≡ k + 1 = omega arith in
    omega (arith, sum_listed f xs d k (omega arith), sum_by_more f xs k d (omega arith), ap (λ n. sum_by f (take n xs)) e)

row_at : (body : List Bound) (k : ℕ) → (get_or (map row_of body) k no_row).uops ≡ (get_or body k no_bound).uops
row_at body k = ap (λ r. r.uops) (get_or-map row_of body k no_bound)

uops_of_body : (body : List Bound) → sum_below (length (map row_of body)) (λ k. (get_or (map row_of body) k no_row).uops) ≡ body_uops body
uops_of_body body =
    ap (λ n. sum_below n (λ k. (get_or (map row_of body) k no_row).uops)) (length-map body row_of)
    ∙ sum_alike (length body) (λ k. (get_or (map row_of body) k no_row).uops) (λ k. (get_or body k no_bound).uops) (λ k _. row_at body k)
    ∙ sum_listed (λ b. b.uops) body no_bound (length body) (omega arith)
    ∙ ap (sum_by (λ b. b.uops)) (take_all (length body) body (omega arith))

-- the micro-ops of a body that is repeated
pub uops_of_rows : (m : MachineMeaning) (body : List Bound) (iterations : ℕ) → body_uops body * iterations ≡ total_uops (input m (map row_of body) iterations)
unfolding total_uops
uops_of_rows m body iterations = mul_comm (body_uops body) iterations
    ∙ sym (sum_repeated iterations (length (map row_of body)) (λ k. (get_or (map row_of body) k no_row).uops) ∙ ap (λ n. iterations * n) (uops_of_body body))

pub uops_fit : (uops n iterations : ℕ) → uops ≤ n * 65536 → iterations * n ≤ 1048576 → Fits w64 (uops * iterations)
uops_fit uops n iterations low few =
    let le : uops * iterations ≤ n * 65536 * iterations = mul-le-mul_right iterations low in
    let e : n * 65536 * iterations ≡ 65536 * (iterations * n) = omega arith in
    omega (arith, le, e, few)

-- Entries of a body, and units

pub entry_uses : (numbers size : ℕ) (m : MachineMeaning) (b : Bound) → IsValidMachine numbers size m → IsEntry m b → b.use_count ≤ 8
entry_uses numbers size m b valid is =
    let low : b.write < m.write_count = subst (λ w. w < m.write_count) (sym is.write) (valid.binding b.op is.classes is.runs).write in
    subst (λ n. n ≤ 8) (sym is.use_count) (valid.write b.write low).use_count

-- where none of the numbers from n on passes
count_wider : (n size : ℕ) (p : ℕ → Bool) → n ≤ size → ((u : ℕ) → p u ≡ true → u < n) → count_below size p ≡ count_below n p
count_wider n size p le low =
    (let whole : size ≡ n + (size - n) = omega (arith, le) in
    let split : _ = count-add n (size - n) p in
    let none : count_below (size - n) (λ v. p (n + v)) ≡ 0 = count_none (size - n) (λ v. p (n + v)) (λ v lt. false_from_ne_true (p (n + v)) (λ h. omega (arith, low (n + v) h))) in
    ap (λ k. count_below k p) whole ∙ omega (arith, split, none))

pub units_counted : (numbers size : ℕ) (holds : ℕ → Bool) (m : MachineMeaning) (r : ℕ) → IsValidMachine numbers size m → r < m.resource_count → ((u : ℕ) → holds u ≡ m.units r u)
    → count_below size holds ≡ units_of m r
units_counted numbers size holds m r valid lt same = count-same size holds (m.units r) (λ u _. same u) ∙ count_wider m.unit_count size (m.units r) valid.units_fit (valid.resource r lt).units_low

pub units_low : (numbers size : ℕ) (m : MachineMeaning) (r : ℕ) → IsValidMachine numbers size m → units_of m r ≤ 256
units_low numbers size m r valid = omega (arith, count_le m.unit_count (m.units r), valid.units_few)

-- Fractions

pub greatest_none : (first : Frac) (f : ℕ → Frac) → first ≡ greatest first 0 f
unfolding greatest
greatest_none first f = refl

pub greatest_more : (first : Frac) (n : ℕ) (f : ℕ → Frac) (most b : Frac) → most ≡ greatest first n f → b ≡ f n → greater most b ≡ greatest first (n + 1) f
unfolding greatest
greatest_more first n f most b is at = let e : suc n ≡ n + 1 = omega arith in (λ i. greater (is i) (at i)) ∙ ap (λ k. greatest first k f) e

pub one_count : (b : Bound) → b.use_count ≤ 8 → All (λ c. c.use_count ≤ 8) (b ∷ [])
one_count b low zero d lt = low
one_count b low (suc k) d lt = absurd (omega (arith, lt))

pub throughput_held : (m : MachineMeaning) (b : Bound) → holds_unit b ≡ true → greatest_load m (over 0 1) (b ∷ []) ≡ throughput m b
unfolding throughput
throughput_held m b held = sym (ap (λ t. cond t (greatest_load m (over 0 1) (b ∷ [])) (over b.uops m.limits.width)) held)

pub throughput_bare : (m : MachineMeaning) (b : Bound) → holds_unit b ≡ false → over b.uops m.limits.width ≡ throughput m b
unfolding throughput
throughput_bare m b bare = sym (ap (λ t. cond t (greatest_load m (over 0 1) (b ∷ [])) (over b.uops m.limits.width)) bare)

pub block_is : (m : MachineMeaning) (body : List Bound) → greatest_load m (over (body_uops body) m.limits.width) body ≡ block_throughput m body
unfolding block_throughput
block_is m body = refl
