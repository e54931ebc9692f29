-- The holds of rows, use by use and row by row.
use Rattle.std.proofs.Common.{◌≡◌, ℕ, zero, suc, ◌+◌, ◌*◌, ◌%◌, ◌<◌, ◌≤◌, List, [], ◌∷◌, map, take, length, get_or, slice_index_or, nat_eq, if◌then◌else◌, arith, ◌∙◌, ap, sym, add-one, add-zero, mul-zero, refl}
use Rattle.std.proofs.lemmas.List.{get_or-map, length-map}
use Rattle.machine_model.specs.declared.facts.Use.{Use}
use Rattle.cycle_rules.specs.Below.{sum_below}
use Rattle.cycle_rules.specs.Bind.{row_of}
use Rattle.cycle_rules.specs.Holds.{held, held_by, held_at, held_by_all}
use Rattle.cycle_rules.specs.Row.{Row, Table, no_row}
use Rattle.cycle_rules.proofs.Sums.{sum_none}
use Rattle.cycle_rules.specs.declared.bound.Bound.{Bound}

abbrev pub none : Use
none = record { resource = 0; hold = 0 }

held_suc : (uses : List Use) (units : List ℕ) (k u : ℕ) → k < length uses → length uses ≤ length units →
    held (take (suc k) uses) units u ≡ held (take k uses) units u + (if nat_eq (get_or units k 0) u then (get_or uses k none).hold else 0)
held_suc [] units k u within enough = absurd (omega (arith, within))
held_suc (w ∷ ws) [] k u within enough = absurd (omega (arith, enough))
held_suc (w ∷ ws) (x ∷ xs) zero u within enough = omega arith
held_suc (w ∷ ws) (x ∷ xs) (suc k) u within enough =
    let rest = held_suc ws xs k u (omega (arith, within)) (omega (arith, enough)) in omega (arith, rest)

-- one use more
pub held_more : (uses : List Use) (units : List ℕ) (k u : ℕ) → k < length uses → length uses ≤ length units →
    held (take (k + 1) uses) units u ≡ held (take k uses) units u + (if nat_eq (get_or units k 0) u then (get_or uses k none).hold else 0)
held_more uses units k u within enough = ap (λ n. held (take n uses) units u) (add-one k) ∙ held_suc uses units k u within enough

-- one number more
pub sum_next : (k : ℕ) (f : ℕ → ℕ) → sum_below (k + 1) f ≡ sum_below k f + f k
unfolding sum_below
sum_next k f = ap (λ n. sum_below n f) (add-one k)

-- a row is that of the instruction at its place
pub held_here : (body : List Bound) (t : Table) (j place u : ℕ) (b : Bound) → place < length body → j % length body ≡ place → b ≡ slice_index_or body place b →
    held (take b.use_count b.uses) (t j).units u ≡ held_by (map row_of body) t j u
held_here body t j place u b within at is =
    let same : slice_index_or (map row_of body) place no_row ≡ row_of b = get_or-map row_of body place b no_row within ∙ ap row_of (sym is) in
    let there : j % length (map row_of body) ≡ place = ap (λ n. j % n) (length-map body row_of) ∙ at in
    sym (ap (λ p. held (slice_index_or (map row_of body) p no_row).uses (t j).units u) there ∙ ap (λ r. held r.uses (t j).units u) same)

-- a row stands at a place of the body
pub place_within : (iterations n j : ℕ) → j < iterations * n → j % n < n
place_within iterations zero j lt = absurd (omega (arith, lt, mul-zero iterations))
place_within iterations (suc n) j lt = omega arith

-- a sum over numbers that stand in rows of n is a sum of sums by their places
sum_both : (n : ℕ) (f h : ℕ → ℕ) → sum_below n (λ p. f p + h p) ≡ sum_below n f + sum_below n h
unfolding sum_below
sum_both zero f h = refl
sum_both (suc n) f h = omega (arith, sum_both n f h)

sum_split : (m n : ℕ) (f : ℕ → ℕ) → sum_below (m + n) f ≡ sum_below m f + sum_below n (λ p. f (m + p))
unfolding sum_below
sum_split m zero f = let e : m + 0 ≡ m = omega arith in ap (λ k. sum_below k f) e ∙ sym (add-zero (sum_below m f))
sum_split m (suc n) f = let e : m + suc n ≡ suc (m + n) = omega arith in ap (λ k. sum_below k f) e ∙ (let rest = sum_split m n f in omega (arith, rest))

sum_places : (iterations n : ℕ) (f : ℕ → ℕ) → sum_below (iterations * n) f ≡ sum_below n (λ p. sum_below iterations (λ k. f (k * n + p)))
unfolding sum_below
sum_places zero n f = let e : 0 * n ≡ 0 = omega arith in ap (λ k. sum_below k f) e ∙ sym (sum_none n (λ p. 0) (λ k lt. refl))
sum_places (suc iterations) n f =
    let e : suc iterations * n ≡ iterations * n + n = omega arith in
    ap (λ k. sum_below k f) e ∙ sum_split (iterations * n) n f ∙ ap (λ k. k + sum_below n (λ p. f (iterations * n + p))) (sum_places iterations n f)
    ∙ sym (sum_both n (λ p. sum_below iterations (λ k. f (k * n + p))) (λ p. f (iterations * n + p)))

pub holds_add_up : (body : List Row) (t : Table) (iterations u : ℕ) → held_by_all body t iterations u ≡ sum_below (length body) (λ place. held_at body t iterations place u)
unfolding held_by_all held_at
holds_add_up body t iterations u = sum_places iterations (length body) (λ j. held_by body t j u)
