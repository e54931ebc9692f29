-- An engine that turns only where something falls due takes few turns.
use Rattle.std.proofs.Common.{zero, suc, ◌≡◌, ℕ, ◌+◌, ◌-◌, ◌*◌, ◌/◌, ◌%◌, ◌<◌, ◌≤◌, inl, inr, List, [], ◌∷◌, ◌++◌, length, arith, sym, ◌∙◌, ap, subst, refl, length-append, Bool, true, false, ◌&&◌, ◌||◌, not, cond}
use Rattle.std.specs.Prelude.{nat_lt, nat_le, nat_eq, if◌then◌else◌, Option, Some, None}
use Rattle.std.specs.List.{list_any, count_by}
use Rattle.std.proofs.lemmas.Bool.Decides.{nat_tests}
use Rattle.std.proofs.lemmas.Bool.{cases_Bool, cases_lt, eqb-true, and_parts, both_ways}
use Rattle.std.proofs.lemmas.List.Folds.{list_any-append}
use Rattle.std.proofs.Math.Nat.{mul-le-mul_right}
use Rattle.std.proofs.lemmas.List.Sums.{count_by-le-length, sum_by-cons}
use Rattle.machine_model.specs.declared.facts.Use.{Use}
use Rattle.cycle_rules.specs.Below.{sum_below, all_below, first_from}
use Rattle.cycle_rules.specs.CycleBound.{turn_bound}
use Rattle.cycle_rules.specs.Row.{Input, phase, uops_of}
use Rattle.cycle_rules.specs.Issue.{producer}
use Rattle.cycle_rules.specs.Schedule.{Fall, Known, made, event}
use Rattle.cycle_rules.specs.Events.{events, known_of, rules_of}
use Rattle.event_rules.specs.Due.{following, only_if, is_ordered, is_front, is_waiting, changes, dispatch_times, dispatch_sets, issue_times, due_times, none_of, later_by, later, read_after, read_from, all_read_from, ready_from, listed, issue_sets, all_times, is_due, is_set, turns_left, QuietCycles, FewTurns, EachTurn, DueIsSet, NextTurn, NoTurn}
use Rattle.cycle_rules.specs.declared.bound.Source.{Source}
use Rattle.cycle_rules.proofs.Exists.{upward}
use Rattle.event_rules.proofs.Quiet.{quiet_times}

-- ---- few

count_len : (c : ℕ) (xs : List ℕ) (n : ℕ) → length xs ≤ n → count_by (nat_le c) xs ≤ n
count_len c xs n le = omega (arith, le, count_by-le-length (nat_le c) xs)

length_changes : (i : ℕ) (uses : List Use) → length (changes i uses) ≡ length uses
length_changes i [] = refl
length_changes i (w ∷ rest) = rw (length_changes i rest) refl

length_of : (o : Option (Fall (List ℕ))) (times : ℕ → List ℕ) (n : ℕ) → ((i : ℕ) → length (times i) ≤ n) → length (following o times) ≤ n
length_of None times n h = omega arith
length_of (Some f) times n h = h f.cycle

length_listed : (o : Option ℕ) → length (listed o) ≤ 1
length_listed None = omega arith
length_listed (Some x) = omega arith

row_few : (g : Input) (v : Known (List ℕ)) (k : ℕ) → length (all_times g v k) ≤ 8 + length (g.row k).uses
unfolding all_times
row_few g v k =
    let d : length (following (known_of g v 2 k) (dispatch_sets g k)) ≤ 3 = length_of _ (dispatch_sets g k) 3 (λ i. omega arith) in
    let i : length (following (known_of g v (phase (g.row k)) k) (issue_sets g k)) ≤ 3 + length (g.row k).uses = length_of _ (issue_sets g k) _ (λ i. omega (arith, length_changes i (g.row k).uses)) in
    let t : length (following (known_of g v 0 k) (λ t. (t + 1) ∷ [])) ≤ 1 = length_of _ (λ t. (t + 1) ∷ []) 1 (λ i. omega arith) in
    let r : length (listed (ready_from g v k)) ≤ 1 = length_listed (ready_from g v k) in
    four _ _ _ _ d i t r
  where
    four : (a b c e : List ℕ) → length a ≤ 3 → length b ≤ 3 + length (g.row k).uses → length c ≤ 1 → length e ≤ 1 → length (a ++ b ++ c ++ e) ≤ 8 + length (g.row k).uses
    four a b c e la lb lc le = rw (length-append (a ++ b ++ c) e, length-append (a ++ b) c, length-append a b) (omega (arith, la, lb, lc, le))

sum_le : (n : ℕ) (f h : ℕ → ℕ) → ((k : ℕ) → k < n → f k ≤ h k) → sum_below n f ≤ sum_below n h
unfolding sum_below
sum_le zero f h e = omega arith
sum_le (suc n) f h e = omega (arith, sum_le n f h (λ k lt. e k (omega arith)), e n (omega arith))

pub few_turns : FewTurns
unfolding turn_bound
few_turns g v = let rows : sum_below g.rows (λ k. count_by (nat_le 0) (all_times g v k)) ≤ sum_below g.rows (λ k. 8 + length (g.row k).uses) = sum_le g.rows _ _ (λ k lt. count_len 0 (all_times g v k) _ (row_few g v k)) in omega (arith, rows)

-- ---- each turn

-- what is known at one cycle is known at a later one
abbrev Extends : Input → Known (List ℕ) → Known (List ℕ) → Type 0
Extends g known v = (q k : ℕ) (f : Fall (List ℕ)) → known_of g known q k ≡ Some f → known_of g v q k ≡ Some f

extends : (g : Input) (c bound : ℕ) → c ≤ bound → Extends g (made (rules_of g) (events g) c) (made (rules_of g) (events g) bound)
extends g c bound le q k f is = go (nat_lt k g.rows) is
  where
    up : made (rules_of g) (events g) c (event g.rows q k) ≡ Some f → made (rules_of g) (events g) bound (event g.rows q k) ≡ Some f
    up h = upward (rules_of g) (events g) (c * events g) (bound * events g) (event g.rows q k) f (mul-le-mul_right (events g) le) h

    go : (b : Bool) → (if b then made (rules_of g) (events g) c (event g.rows q k) else None) ≡ Some f → (if b then made (rules_of g) (events g) bound (event g.rows q k) else None) ≡ Some f
    go true h = up h
    go false h = cc

or_step : (a b d e : Bool) → (a ≡ true → d ≡ true) → (b ≡ true → e ≡ true) → (a || b) ≡ true → (d || e) ≡ true
or_step true b d e p q h = rw (p refl) refl
or_step false b true e p q h = refl
or_step false b false e p q h = q h

or_right : (a b : Bool) → b ≡ true → (a || b) ≡ true
or_right true b h = refl
or_right false b h = h

append_step : (x : ℕ) (a b d e : List ℕ) → (list_any (nat_eq x) a ≡ true → list_any (nat_eq x) d ≡ true) → (list_any (nat_eq x) b ≡ true → list_any (nat_eq x) e ≡ true)
    → list_any (nat_eq x) (a ++ b) ≡ true → list_any (nat_eq x) (d ++ e) ≡ true
append_step x a b d e p q h = list_any-append (nat_eq x) d e ∙ or_step _ _ _ _ p q (sym (list_any-append (nat_eq x) a b) ∙ h)

following_step : (x : ℕ) (o p : Option (Fall (List ℕ))) (s t : ℕ → List ℕ) → ((f : Fall (List ℕ)) → o ≡ Some f → p ≡ Some f) → ((i : ℕ) → list_any (nat_eq x) (s i) ≡ true → list_any (nat_eq x) (t i) ≡ true)
    → list_any (nat_eq x) (following o s) ≡ true → list_any (nat_eq x) (following p t) ≡ true
following_step x None p s t more step h = cc
following_step x (Some f) p s t more step h = rw (more f refl) (step f.cycle h)

only_step : (x : ℕ) (b : Bool) (xs : List ℕ) → list_any (nat_eq x) (only_if b xs) ≡ true → list_any (nat_eq x) xs ≡ true
only_step x true xs h = h
only_step x false xs h = cc

issue_step : (g : Input) (known : Known (List ℕ)) (k x i : ℕ) → list_any (nat_eq x) (issue_times g known k i) ≡ true → list_any (nat_eq x) (issue_sets g k i) ≡ true
issue_step g known k x i h = or_step _ _ _ _ (λ e. e)
    (append_step x (only_if (is_ordered (g.row k).kind) (w ∷ []) ++ only_if (is_front g known k) ((w + 1) ∷ [])) (changes i (g.row k).uses) (w ∷ (w + 1) ∷ []) (changes i (g.row k).uses)
    (append_step x (only_if (is_ordered (g.row k).kind) (w ∷ [])) (only_if (is_front g known k) ((w + 1) ∷ [])) (w ∷ []) ((w + 1) ∷ [])
    (only_step x (is_ordered (g.row k).kind) (w ∷ [])) (only_step x (is_front g known k) ((w + 1) ∷ []))) (λ e. e)) h
  where
    w : ℕ
    w = i + (g.row k).latency

dispatch_step : (g : Input) (k x d : ℕ) → list_any (nat_eq x) (dispatch_times g k d) ≡ true → list_any (nat_eq x) (dispatch_sets g k d) ≡ true
dispatch_step g k x d h = or_step _ _ _ _ (λ e. e)
    (append_step x (only_if (nat_lt 0 (uops_of g k / w)) (q ∷ [])) (only_if (nat_lt 0 (uops_of g k % w)) ((q + 1) ∷ [])) (q ∷ []) ((q + 1) ∷ [])
    (only_step x (nat_lt 0 (uops_of g k / w)) (q ∷ [])) (only_step x (nat_lt 0 (uops_of g k % w)) ((q + 1) ∷ []))) h
  where
    w : ℕ
    w = g.machine.limits.width

    q : ℕ
    q = d + uops_of g k / w

moved_more : (n : ℕ) (o p : Option (Fall (List ℕ))) (x : ℕ) → ((f : Fall (List ℕ)) → o ≡ Some f → p ≡ Some f) → later_by n o ≡ Some x → later_by n p ≡ Some x
moved_more n None p x more h = cc
moved_more n (Some f) p x more h = rw (more f refl) h

read_more : (g : Input) (known v : Known (List ℕ)) (j : ℕ) (s : Source) (x : ℕ) → Extends g known v → read_from g known j s ≡ Some x → read_from g v j s ≡ Some x
read_more g known v j s x more h = go (nat_eq s.reg 0) (producer g j s.reg) h
  where
    go : (b : Bool) (o : Option ℕ) → (if b then Some 0 else read_after g known s.read o) ≡ Some x → (if b then Some 0 else read_after g v s.read o) ≡ Some x
    go true o h = h
    go false None h = h
    go false (Some k) h = moved_more _ (known_of g known (phase (g.row k)) k) (known_of g v (phase (g.row k)) k) x (more (phase (g.row k)) k) h

later_more : (a b d e : Option ℕ) (x : ℕ) → ((y : ℕ) → a ≡ Some y → d ≡ Some y) → ((y : ℕ) → b ≡ Some y → e ≡ Some y) → later a b ≡ Some x → later d e ≡ Some x
later_more (Some m) (Some n) d e x p q h = rw (p m refl, q n refl) h
later_more (Some m) None d e x p q h = cc
later_more None b d e x p q h = cc

all_more : (g : Input) (known v : Known (List ℕ)) (j : ℕ) (reads : List Source) (x : ℕ) → Extends g known v → all_read_from g known j reads ≡ Some x → all_read_from g v j reads ≡ Some x
all_more g known v j [] x more h = h
all_more g known v j (s ∷ rest) x more h = later_more (read_from g known j s) (all_read_from g known j rest) _ _ x (λ y e. read_more g known v j s y more e) (λ y e. all_more g known v j rest y more e) h

listed_step : (x : ℕ) (o p : Option ℕ) → ((y : ℕ) → o ≡ Some y → p ≡ Some y) → list_any (nat_eq x) (listed o) ≡ true → list_any (nat_eq x) (listed p) ≡ true
listed_step x None p more h = cc
listed_step x (Some y) p more h = rw (more y refl) h

-- a time that falls due is one of all
due_in_all : (g : Input) (known v : Known (List ℕ)) (x k : ℕ) → Extends g known v → list_any (nat_eq x) (due_times g known k) ≡ true → list_any (nat_eq x) (all_times g v k) ≡ true
unfolding due_times all_times
due_in_all g known v x k more h = append_step x _ _ _ _ (append_step x _ _ _ _ (append_step x _ _ _ _
    (following_step x _ _ (dispatch_times g k) (dispatch_sets g k) (more 2 k) (dispatch_step g k x))
    (following_step x _ _ (issue_times g known k) (issue_sets g k) (more (phase (g.row k)) k) (issue_step g known k x)))
    (following_step x _ _ (λ t. (t + 1) ∷ []) (λ t. (t + 1) ∷ []) (more 0 k) (λ i e. e)))
    (λ e. listed_step x (ready_from g known k) (ready_from g v k) (λ y r. all_more g known v k (g.row k).reads y more r) (only_step x (is_waiting g known k) _ e)) h

-- counts fall

count_cons : (p : ℕ → Bool) (y : ℕ) (ys : List ℕ) → count_by p (y ∷ ys) ≡ cond (p y) 1 0 + count_by p ys
count_cons p y ys = sum_by-cons (λ x. cond (p x) 1 0) y ys

count_falls : (c x : ℕ) (xs : List ℕ) → c ≤ x → count_by (nat_le (x + 1)) xs ≤ count_by (nat_le c) xs
count_falls c x [] le = omega arith
count_falls c x (y ∷ ys) le = rw (count_cons (nat_le (x + 1)) y ys, count_cons (nat_le c) y ys) (go _ _ (count_falls c x ys le))
  where
    go : (m n : ℕ) → m ≤ n → cond (nat_le (x + 1) y) 1 0 + m ≤ cond (nat_le c y) 1 0 + n
    go m n rest = grind (arith, nat_tests, rest)

count_hit : (c x : ℕ) (xs : List ℕ) → c ≤ x → list_any (nat_eq x) xs ≡ true → count_by (nat_le (x + 1)) xs + 1 ≤ count_by (nat_le c) xs
count_hit c x [] le h = cc
count_hit c x (y ∷ ys) le h = rw (count_cons (nat_le (x + 1)) y ys, count_cons (nat_le c) y ys) (elim (cases_Bool (nat_eq x y)) [
  | inl here ↦ now (eqb-true _ _ here) _ _ (count_falls c x ys le)
  | inr other ↦ go _ _ (count_hit c x ys le (rw other at h))
])
  where
    now : x ≡ y → (m n : ℕ) → m ≤ n → cond (nat_le (x + 1) y) 1 0 + m + 1 ≤ cond (nat_le c y) 1 0 + n
    now e m n rest = grind (arith, nat_tests, rest, e)

    go : (m n : ℕ) → m + 1 ≤ n → cond (nat_le (x + 1) y) 1 0 + m + 1 ≤ cond (nat_le c y) 1 0 + n
    go m n rest = grind (arith, nat_tests, rest)

sum_less : (n : ℕ) (f h : ℕ → ℕ) (j : ℕ) → j < n → ((k : ℕ) → k < n → f k ≤ h k) → f j + 1 ≤ h j → sum_below n f + 1 ≤ sum_below n h
unfolding sum_below
sum_less zero f h j lt e less = absurd (omega arith)
sum_less (suc n) f h j lt e less = elim (cases_lt j n) [
  | inl low ↦ omega (arith, sum_less n f h j low (λ k l. e k (omega arith)) less, e n (omega arith))
  | inr last ↦ (let s : j ≡ n = omega arith in let now : f n + 1 ≤ h n = subst (λ k. f k + 1 ≤ h k) s less in omega (arith, now, sum_le n f h (λ k l. e k (omega arith))))
]

-- a row that fails a test
pub some_row : (n : ℕ) (p : ℕ → Bool) → not (all_below n p) ≡ true → (k : ℕ) × (k < n) × (p k ≡ false)
unfolding all_below
some_row zero p h = cc
some_row (suc n) p h = elim (cases_Bool (p n)) [
  | inl passes ↦ (let r : (k : ℕ) × (k < n) × (p k ≡ false) = some_row n p (earlier (all_below n p) (rw passes at h)) in (r.0, omega (arith, r.1), r.2))
  | inr fails ↦ (n, omega arith, fails)
]
  where
    earlier : (b : Bool) → not (b && true) ≡ true → not b ≡ true
    earlier true e = e
    earlier false e = refl

pub each : (n : ℕ) (p : ℕ → Bool) → all_below n p ≡ true → (k : ℕ) → k < n → p k ≡ true
unfolding all_below
each zero p h k lt = absurd (omega arith)
each (suc n) p h k lt = let q : (all_below n p ≡ true) × (p n ≡ true) = and_parts _ _ h in elim (cases_lt k n) [ inl low ↦ each n p q.0 k low | inr last ↦ (let s : k ≡ n = omega arith in rw s q.1) ]

pub not_not : (b : Bool) → not b ≡ false → b ≡ true
not_not true e = refl
not_not false e = cc

pub fails_some : (n : ℕ) (p : ℕ → Bool) (k : ℕ) → k < n → p k ≡ false → not (all_below n p) ≡ true
fails_some n p k lt e = go (all_below n p) refl
  where
    go : (b : Bool) → all_below n p ≡ b → not b ≡ true
    go true h = absurd (both_ways (p k) e (each n p h k lt))
    go false h = refl

at_row : (g : Input) (v : Known (List ℕ)) (c x k : ℕ) → c ≤ x → k < g.rows → list_any (nat_eq x) (all_times g v k) ≡ true → turns_left g v (x + 1) + 1 ≤ turns_left g v c
at_row g v c x k le lk here =
    let sums : sum_below g.rows (λ k. count_by (nat_le (x + 1)) (all_times g v k)) + 1 ≤ sum_below g.rows (λ k. count_by (nat_le c) (all_times g v k)) =
    sum_less g.rows (λ k. count_by (nat_le (x + 1)) (all_times g v k)) (λ k. count_by (nat_le c) (all_times g v k)) k lk (λ k lt. count_falls c x (all_times g v k) le) (count_hit c x (all_times g v k) le here) in
    let past : nat_eq (x + 1) 0 ≡ false = grind (arith, nat_tests) in
    rw past (omega (arith, sums))

at_start : (g : Input) (v : Known (List ℕ)) (c x : ℕ) → c ≤ x → x ≡ 0 → turns_left g v (x + 1) + 1 ≤ turns_left g v c
at_start g v c x le zero_x =
    let sums : sum_below g.rows (λ k. count_by (nat_le (x + 1)) (all_times g v k)) ≤ sum_below g.rows (λ k. count_by (nat_le c) (all_times g v k)) = sum_le g.rows _ _ (λ k lt. count_falls c x (all_times g v k) le) in
    let past : nat_eq (x + 1) 0 ≡ false = grind (arith, nat_tests) in
    let now : nat_eq c 0 ≡ true = grind (arith, nat_tests) in
    rw (past, now) (omega (arith, sums))

pub each_turn : EachTurn
unfolding is_set
each_turn g v c x le here = elim (cases_Bool (nat_eq x 0)) [
  | inl start ↦ at_start g v c x le (eqb-true _ _ start)
  | inr more ↦ (let r : (k : ℕ) × (k < g.rows) × (not (list_any (nat_eq x) (all_times g v k)) ≡ false) = some_row g.rows (λ k. not (list_any (nat_eq x) (all_times g v k))) (rw more at here) in
      at_row g v c x r.0 le r.1 (not_not _ r.2))
]

pub due_is_set : DueIsSet
unfolding is_due is_set
due_is_set g bound c x le due = elim (cases_Bool (nat_eq x 0)) [
  | inl start ↦ rw start refl
  | inr more ↦ (let r : (k : ℕ) × (k < g.rows) × (none_of g (made (rules_of g) (events g) c) x k ≡ false) = some_row g.rows (none_of g (made (rules_of g) (events g) c) x) (rw more at due) in
      let there : list_any (nat_eq x) (all_times g (made (rules_of g) (events g) bound) r.0) ≡ true = due_in_all g (made (rules_of g) (events g) c) (made (rules_of g) (events g) bound) x r.0 (extends g c bound le) (not_not _ r.2) in
      rw more (fails_some g.rows (λ k. not (list_any (nat_eq x) (all_times g (made (rules_of g) (events g) bound) k))) r.0 r.1 (rw there refl)))
]

all_in_all : (g : Input) (known v : Known (List ℕ)) (x k : ℕ) → Extends g known v → list_any (nat_eq x) (all_times g known k) ≡ true → list_any (nat_eq x) (all_times g v k) ≡ true
unfolding all_times
all_in_all g known v x k more h = append_step x _ _ _ _ (append_step x _ _ _ _ (append_step x _ _ _ _
    (following_step x _ _ (dispatch_sets g k) (dispatch_sets g k) (more 2 k) (λ i e. e))
    (following_step x _ _ (issue_sets g k) (issue_sets g k) (more (phase (g.row k)) k) (λ i e. e)))
    (following_step x _ _ (λ t. (t + 1) ∷ []) (λ t. (t + 1) ∷ []) (more 0 k) (λ i e. e)))
    (λ e. listed_step x (ready_from g known k) (ready_from g v k) (λ y r. all_more g known v k (g.row k).reads y more r) e) h

-- a time that a row has set is one of those that the rows set in the end
pub set_of_row : (g : Input) (bound c x k : ℕ) → c ≤ bound → k < g.rows → list_any (nat_eq x) (all_times g (made (rules_of g) (events g) c) k) ≡ true → is_set g (made (rules_of g) (events g) bound) x ≡ true
unfolding is_set
set_of_row g bound c x k le lk here =
    let there : list_any (nat_eq x) (all_times g (made (rules_of g) (events g) bound) k) ≡ true = all_in_all g (made (rules_of g) (events g) c) (made (rules_of g) (events g) bound) x k (extends g c bound le) here in
    go (nat_eq x 0) _ (fails_some g.rows (λ k. not (list_any (nat_eq x) (all_times g (made (rules_of g) (events g) bound) k))) k lk (rw there refl))
  where
    go : (b d : Bool) → d ≡ true → (b || d) ≡ true
    go true d e = refl
    go false d e = e

-- ---- the next turn

first_found : (a n : ℕ) (p : ℕ → Bool) (x : ℕ) → first_from a n p ≡ Some x → (a ≤ x) × (x < a + n) × (p x ≡ true) × ((y : ℕ) → a ≤ y → y < x → p y ≡ false)
unfolding first_from
first_found a zero p x e = cc
first_found a (suc n) p x e = elim (cases_Bool (p a)) [
  | inl here ↦ (let s : a ≡ x = some_same a x (rw here at e) in (omega (arith, s), omega (arith, s), subst (λ y. p y ≡ true) s here, λ y lo hi. absurd (omega (arith, lo, hi, s))))
  | inr gone ↦ (let r : (a + 1 ≤ x) × (x < a + 1 + n) × (p x ≡ true) × ((y : ℕ) → a + 1 ≤ y → y < x → p y ≡ false) = first_found (a + 1) n p x (rw gone at e) in
      (omega (arith, r.0), omega (arith, r.1), r.2, λ y lo hi. elim (cases_lt a y) [ inl more ↦ r.3 y (omega arith) hi | inr same ↦ (let s : a ≡ y = omega (arith, lo, same) in subst (λ z. p z ≡ false) s gone) ]))
]
  where
    some_same : (x y : ℕ) → Some x ≡ Some y → x ≡ y
    some_same x y h = cc

first_none : (a n : ℕ) (p : ℕ → Bool) → first_from a n p ≡ None → (y : ℕ) → a ≤ y → y < a + n → p y ≡ false
unfolding first_from
first_none a zero p e y lo hi = absurd (omega arith)
first_none a (suc n) p e y lo hi = elim (cases_Bool (p a)) [
  | inl here ↦ absurd (not_some (rw here at e))
  | inr gone ↦ elim (cases_lt a y) [ inl more ↦ first_none (a + 1) n p (rw gone at e) y (omega arith) (omega arith) | inr same ↦ (let s : a ≡ y = omega (arith, lo, same) in subst (λ z. p z ≡ false) s gone) ]
]
  where
    not_some : Some a ≡ None → ⊥
    not_some h = cc

none_due : (g : Input) (known : Known (List ℕ)) (x : ℕ) → is_due g known x ≡ false → (nat_eq x 0 ≡ false) × ((k : ℕ) → k < g.rows → none_of g known x k ≡ true)
unfolding is_due
none_due g known x h = (first (nat_eq x 0) _ h, λ k lk. each g.rows (none_of g known x) (second (nat_eq x 0) (all_below g.rows (none_of g known x)) h) k lk)
  where
    first : (a b : Bool) → (a || b) ≡ false → a ≡ false
    first true b e = cc
    first false b e = refl

    second : (a b : Bool) → (a || not b) ≡ false → b ≡ true
    second true b e = cc
    second false true e = refl
    second false false e = cc

-- where nothing falls due from c on, as far as below n, all is as at c
pub quiet_cycles_are : QuietCycles
quiet_cycles_are g c n le none = elim (cases_lt c n) [
  | inr end ↦ (let s : n ≡ c = omega (arith, le, end) in ap (made (rules_of g) (events g)) s)
  | inl more ↦ quiet_times g c n (record {
    started = above (none_due g (made (rules_of g) (events g) c) c (none c (omega arith) more)).0;
    order = le;
    none = λ x k lo hi lk. (none_due g (made (rules_of g) (events g) c) x (none x lo hi)).1 k lk;
  })
]
  where
    above : nat_eq c 0 ≡ false → 0 < c
    above e = grind (arith, nat_tests, e)

pub next_turn : NextTurn
next_turn g bound c x h =
    let r : (c ≤ x) × (x < c + (bound - c)) × (is_due g (made (rules_of g) (events g) c) x ≡ true) × ((y : ℕ) → c ≤ y → y < x → is_due g (made (rules_of g) (events g) c) y ≡ false) = first_found c (bound - c) (is_due g (made (rules_of g) (events g) c)) x h in
    record { later = r.0; before = omega (arith, r.0, r.1); due = r.2; same = quiet_cycles_are g c x r.0 r.3 }

pub no_turn : NoTurn
no_turn g bound c le h = quiet_cycles_are g c bound le (λ x lo hi. first_none c (bound - c) (is_due g (made (rules_of g) (events g) c)) h x lo (omega arith))
