-- Pointers that only move forward: what is held leaves room as soon as the rows before the pointer have retired.
use Rattle.std.proofs.Common.{zero, suc, ◌≡◌, ℕ, ◌+◌, ◌-◌, ◌<◌, ◌≤◌, ◌^◌, ◌⊎◌, inl, inr, arith, refl, sym, ◌∙◌, ap, subst, Bool, true, false, ◌&&◌, ◌||◌, add-zero, add-suc}
use Rattle.std.specs.Prelude.{nat_eq, nat_le, nat_lt, if◌then◌else◌}
use Rattle.std.proofs.lemmas.Bool.{cases_lt, cases_Bool, and_parts}
use Rattle.std.proofs.lemmas.Bool.Decides.{nat_tests}
use Rattle.cycle_rules.specs.Below.{sum_below, count_below}
use Rattle.cycle_rules.specs.Row.{Input, Table}
use Rattle.cycle_rules.specs.Seen.{sees, comes_before}
use Rattle.cycle_rules.specs.Dispatch.{has_room, follows, is_held}
use Rattle.cycle_rules.specs.Retire.{can_retire}
use Rattle.cycle_rules.specs.Run.{IsRow}
use Rattle.dep_graph.specs.Thresholds.{weight_from, last_retire, IsPointer, IsKept}
use Rattle.dep_graph.proofs.Spans.{same_bool}
use Rattle.dep_graph.proofs.Past.{sum_same, sum_le}
use Rattle.dep_graph.proofs.Runs.{AreRows}

-- Retirements are in program order

follows_retire : (g : Input) (t : Table) (i c : ℕ) → follows (λ k. (sees g t 0 (suc i) c k).retire) (suc i) c ≡ true → (t i).retire ≤ c
unfolding follows comes_before
follows_retire g t i c h = grind (arith, nat_tests, h)

retire_follows : (g : Input) (t : Table) (j c : ℕ) → can_retire g t j c ≡ true → follows (λ k. (t k).retire) j c ≡ true
unfolding can_retire
retire_follows g t j c h = (and_parts _ _ (and_parts _ _ h).0).1

retire_next : (g : Input) (t : Table) (i : ℕ) → IsRow g t (suc i) → (t i).retire ≤ (t (suc i)).retire
retire_next g t i row = follows_retire g t i (t (suc i)).retire (retire_follows g (sees g t 0 (suc i) (t (suc i)).retire) (suc i) (t (suc i)).retire row.retire.holds)

pub retires_le : (g : Input) (t : Table) (n k : ℕ) → AreRows g t → n < g.rows → k ≤ n → (t k).retire ≤ (t n).retire
retires_le g t zero k rows lt le = let e : k ≡ 0 = omega (arith, le) in rw e (omega arith)
retires_le g t (suc n) k rows lt le = elim (cases_lt n k) [
  | inl here ↦ (let e : k ≡ suc n = omega (arith, here, le) in rw e (omega arith))
  | inr low ↦ omega (arith, retires_le g t n k rows (omega (arith, lt)) low, retire_next g t n (rows (suc n) lt))
]

-- Weights

sum_split : (a m : ℕ) (f : ℕ → ℕ) → sum_below (a + m) f ≡ sum_below a f + sum_below m (λ x. f (a + x))
unfolding sum_below
sum_split a zero f = rw add-zero (omega arith)
sum_split a (suc m) f = let rest : sum_below (a + m) f ≡ sum_below a f + sum_below m (λ x. f (a + x)) = sum_split a m f in rw add-suc (omega (arith, rest))

split_at : (f j : ℕ) (h : ℕ → ℕ) → f ≤ j → sum_below j h ≡ sum_below f h + sum_below (j - f) (λ x. h (f + x))
split_at f j h le = let e : f + (j - f) ≡ j = omega (arith, le) in subst (λ m. sum_below m h ≡ sum_below f h + sum_below (j - f) (λ x. h (f + x))) e (sum_split f (j - f) h)

sum_none : (n : ℕ) (f : ℕ → ℕ) → ((k : ℕ) → k < n → f k ≡ 0) → sum_below n f ≡ 0
unfolding sum_below
sum_none zero f h = refl
sum_none (suc n) f h = let rest : sum_below n f ≡ 0 = sum_none n f (λ k lt. h k (omega (arith, lt))) in omega (arith, rest, h n (omega arith))

abbrev held : Table → (ℕ → ℕ) → ℕ → ℕ → ℕ
held t w c k = if is_held t c k then w k else 0

held_le : (t : Table) (w : ℕ → ℕ) (c k : ℕ) → held t w c k ≤ w k
held_le t w c k = elim (cases_Bool (is_held t c k)) [ inl is ↦ rw is (omega arith) | inr gone ↦ rw gone (omega arith) ]

held_not : (t : Table) (w : ℕ → ℕ) (c k : ℕ) → (t k).retire ≤ c → held t w c k ≡ 0
held_not t w c k le = let gone : is_held t c k ≡ false = grind (arith, nat_tests, le) in rw gone refl

held_is : (t : Table) (w : ℕ → ℕ) (c k : ℕ) → c < (t k).retire → held t w c k ≡ w k
held_is t w c k lt = let is : is_held t c k ≡ true = grind (arith, nat_tests, lt) in rw is refl

-- where the first f rows have retired, no more is held than the others weigh
held_most : (g : Input) (t : Table) (w : ℕ → ℕ) (f j c : ℕ) → AreRows g t → j < g.rows → f ≤ j → last_retire t f ≤ c → sum_below j (held t w c) ≤ weight_from w f j
held_most g t w zero j c rows lt le gone = let e : j - 0 ≡ j = omega arith in omega (arith, split_at 0 j (held t w c) le, sum_none 0 (held t w c) (λ k l. absurd (omega (arith, l))), sum_le (j - 0) (λ x. held t w c (0 + x)) (λ x. w (0 + x)) (λ x _. held_le t w c (0 + x)))
held_most g t w (suc i) j c rows lt le gone =
    let none : sum_below (suc i) (held t w c) ≡ 0 = sum_none (suc i) (held t w c) (λ k l. held_not t w c k (omega (arith, retires_le g t i k rows (omega (arith, le, lt)) (omega (arith, l)), gone))) in
    omega (arith, split_at (suc i) j (held t w c) le, none, sum_le (j - suc i) (λ x. held t w c (suc i + x)) (λ x. w (suc i + x)) (λ x _. held_le t w c (suc i + x)))

-- where row i has not, the rows from it on are held
held_least : (g : Input) (t : Table) (w : ℕ → ℕ) (i j c : ℕ) → AreRows g t → j < g.rows → i < j → c < (t i).retire → weight_from w i j ≤ sum_below j (held t w c)
held_least g t w i j c rows lt le here =
    let same : sum_below (j - i) (λ x. held t w c (i + x)) ≡ weight_from w i j = sum_same (j - i) _ _ (λ x l. held_is t w c (i + x) (omega (arith, here, retires_le g t (i + x) i rows (omega (arith, l, lt)) (omega arith)))) in
    omega (arith, split_at i j (held t w c) (omega (arith, le)), same)

last_of : (t : Table) (f : ℕ) → (f ≡ 0) ⊎ ((i : ℕ) × (suc i ≡ f) × (last_retire t f ≡ (t i).retire))
last_of t zero = inl refl
last_of t (suc i) = inr (i, refl, refl)

pub pointer_room : (g : Input) (t : Table) (w : ℕ → ℕ) (bound x j f c : ℕ) → AreRows g t → j < g.rows → IsPointer w bound x j f → nat_le (sum_below j (held t w c) + x) bound ≡ nat_le (last_retire t f) c
pointer_room g t w bound x j f c rows lt p = same_bool _ _
    (λ fits. elim (last_of t f) [
      | inl none ↦ (let z : last_retire t f ≡ 0 = ap (last_retire t) none in grind (arith, nat_tests, z))
      | inr some ↦ elim (cases_lt c (t some.0).retire) [
        | inl early ↦
            (let much : weight_from w some.0 j ≤ sum_below j (held t w c) = held_least g t w some.0 j c rows lt (omega (arith, some.1, p.low)) early in
            let more : bound < weight_from w some.0 j + x = p.least some.0 some.1 in
            let fit : sum_below j (held t w c) + x ≤ bound = grind (arith, nat_tests, fits) in
            absurd (omega (arith, much, more, fit)))
        | inr late ↦ (let le : last_retire t f ≤ c = omega (arith, some.2, late) in grind (arith, nat_tests, le))
      ]
    ])
    (λ gone.
    let le : last_retire t f ≤ c = grind (arith, nat_tests, gone) in
    let most : sum_below j (held t w c) ≤ weight_from w f j = held_most g t w f j c rows lt p.low le in
    let fit : sum_below j (held t w c) + x ≤ bound = omega (arith, most, p.fits) in
    grind (arith, nat_tests, fit))

-- Counts

pub count_held : (t : Table) (p : ℕ → Bool) (c n : ℕ) → count_below n (λ k. p k && is_held t c k) ≡ sum_below n (held t (λ k. if p k then 1 else 0) c)
unfolding count_below sum_below
count_held t p c zero = refl
count_held t p c (suc n) = let rest : count_below n (λ k. p k && is_held t c k) ≡ sum_below n (held t (λ k. if p k then 1 else 0) c) = count_held t p c n in omega (arith, rest, one (p n) (is_held t c n))
  where
    one : (a b : Bool) → ◌≡◌ {A = ℕ} (if a && b then 1 else 0) (if b then (if a then 1 else 0) else 0)
    one true true = refl
    one true false = refl
    one false true = refl
    one false false = refl

pub pointer_count : (g : Input) (t : Table) (p : ℕ → Bool) (bound j f c : ℕ) → AreRows g t → j < g.rows → IsPointer (λ k. if p k then 1 else 0) (suc bound) 1 j f
    → has_room (suc bound) (count_below j (λ k. p k && is_held t c k)) ≡ nat_le (last_retire t f) c
unfolding has_room
pointer_count g t p bound j f c rows lt is =
    let room : nat_le (sum_below j (held t (λ k. if p k then 1 else 0) c) + 1) (suc bound) ≡ nat_le (last_retire t f) c = pointer_room g t (λ k. if p k then 1 else 0) (suc bound) 1 j f c rows lt is in
    let count = count_held t p c j in
    told (count_below j (λ k. p k && is_held t c k)) (sum_below j (held t (λ k. if p k then 1 else 0) c)) bound count ∙ room
  where
    told : (n m bound : ℕ) → n ≡ m → (nat_eq (suc bound) 0 || nat_lt n (suc bound)) ≡ nat_le (m + 1) (suc bound)
    told n m bound e = grind (arith, nat_tests, e)

-- Forward

weight_less : (w : ℕ → ℕ) (h i j : ℕ) → h ≤ i → i ≤ j → weight_from w i j ≤ weight_from w h j
weight_less w h i j le lt =
    let a = split_at i j w lt in
    let b = split_at h j w (omega (arith, le, lt)) in
    let c : sum_below h w ≤ sum_below i w = omega (arith, split_at h i w le) in
    omega (arith, a, b, c)

weight_more : (w : ℕ → ℕ) (i j : ℕ) → i ≤ j → weight_from w i (suc j) ≡ weight_from w i j + w j
unfolding sum_below
weight_more w i j le = omega (arith, split_at i (suc j) w (omega (arith, le)), split_at i j w le)

pub pointer_forward : (w : ℕ → ℕ) (bound x y j f h : ℕ) → x ≤ w j → IsPointer w bound x j f → IsPointer w bound y (suc j) h → f ≤ h
pointer_forward w bound x y j f h small p q = elim (cases_lt h f) [
  | inr le ↦ le
  | inl early ↦
      (let i : ℕ = f - 1 in
      let last : suc i ≡ f = omega (arith, early) in
      let more : bound < weight_from w i j + x = p.least i last in
      let grown : weight_from w i (suc j) ≡ weight_from w i j + w j = weight_more w i j (omega (arith, last, p.low)) in
      let less : weight_from w i (suc j) ≤ weight_from w h (suc j) = weight_less w h i (suc j) (omega (arith, last, early)) (omega (arith, last, p.low)) in
      absurd (omega (arith, more, grown, less, q.fits, small)))
]

-- The loop

pub record IsMoved (w : ℕ → ℕ) (bound x j f held : ℕ) : Type 0 where
  pub low : f ≤ j
  pub sum : held ≡ weight_from w f j
  pub least : (i : ℕ) → suc i ≡ f → bound < weight_from w i j + x
  pub few : held < 2 ^ 63

pub moved_start : (w : ℕ → ℕ) (bound x j f held : ℕ) → IsKept w bound j f held → held < 2 ^ 63 → IsMoved w bound x j f held
moved_start w bound x j f held k few = record { low = k.low; sum = k.sum; least = λ i is. omega (arith, k.least i is); few = few }

weight_front : (w : ℕ → ℕ) (f j : ℕ) → f < j → weight_from w f j ≡ w f + weight_from w (suc f) j
unfolding sum_below
weight_front w f j lt =
    let a = split_at f j w (omega (arith, lt)) in
    let b = split_at (suc f) j w (omega (arith, lt)) in
    let more : sum_below (suc f) w ≡ sum_below f w + w f = refl in
    omega (arith, a, b, more)

-- while there is too much, there is a row
pub moved_some : (w : ℕ → ℕ) (bound x j f held : ℕ) → IsMoved w bound x j f held → x ≤ bound → bound < held + x → f < j
unfolding sum_below
moved_some w bound x j f held h small more = elim (cases_lt f j) [
  | inl lt ↦ lt
  | inr past ↦ (let e : j - f ≡ 0 = omega (arith, past) in let none : weight_from w f j ≡ 0 = rw e refl in absurd (omega (arith, h.sum, none, small, more)))
]

pub moved_next : (w : ℕ → ℕ) (bound x j f held : ℕ) → IsMoved w bound x j f held → x ≤ bound → bound < held + x → (w f ≤ held) × (IsMoved w bound x j (f + 1) (held - w f))
moved_next w bound x j f held h small more =
    let lt : f < j = moved_some w bound x j f held h small more in
    let split : weight_from w f j ≡ w f + weight_from w (suc f) j = weight_front w f j lt in
    let e : suc f ≡ f + 1 = omega arith in
    let rest : weight_from w (f + 1) j ≡ weight_from w (suc f) j = ap (λ m. weight_from w m j) (sym e) in (
      omega (arith, h.sum, split),
      record {
        low = omega (arith, lt);
        sum = omega (arith, h.sum, split, rest);
        least = λ i is. (let same : f ≡ i = omega (arith, is) in subst (λ m. bound < weight_from w m j + x) same (omega (arith, more, h.sum)));
        few = omega (arith, h.few);
      },
    )

pub moved_end : (w : ℕ → ℕ) (bound x j f held : ℕ) → IsMoved w bound x j f held → held + x ≤ bound → IsPointer w bound x j f
moved_end w bound x j f held h fit = record { low = h.low; fits = omega (arith, h.sum, fit); least = h.least }

-- the row that asked is one of the older rows
pub added : (w : ℕ → ℕ) (bound x j f held : ℕ) → IsPointer w bound x j f → held ≡ weight_from w f j → x ≤ w j → IsKept w bound (j + 1) f (held + w j)
added w bound x j f held p sum small =
    let e : suc j ≡ j + 1 = omega arith in
    let grown : (i : ℕ) → i ≤ j → weight_from w i (j + 1) ≡ weight_from w i j + w j = λ i le. subst (λ m. weight_from w i m ≡ weight_from w i j + w j) e (weight_more w i j le) in
    record {
      low = omega (arith, p.low);
      sum = omega (arith, sum, grown f p.low);
      least = λ i is. omega (arith, p.least i is, grown i (omega (arith, is, p.low)), small);
    }

-- a row that takes nothing changes nothing
pub kept_over : (w : ℕ → ℕ) (bound j f held : ℕ) → w j ≡ 0 → IsKept w bound j f held → IsKept w bound (j + 1) f held
kept_over w bound j f held none k =
    let e : suc j ≡ j + 1 = omega arith in
    let grown : (i : ℕ) → i ≤ j → weight_from w i (j + 1) ≡ weight_from w i j + w j = λ i le. subst (λ m. weight_from w i m ≡ weight_from w i j + w j) e (weight_more w i j le) in
    record {
      low = omega (arith, k.low);
      sum = omega (arith, k.sum, none, grown f k.low);
      least = λ i is. omega (arith, k.least i is, none, grown i (omega (arith, is, k.low)));
    }
