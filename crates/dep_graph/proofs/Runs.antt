-- The stalls of a run, row by row.
use Rattle.std.proofs.Common.{zero, suc, ◌≡◌, ℕ, ◌+◌, ◌<◌, ◌≤◌, inl, inr, arith, refl, sym, ◌∙◌, ap, subst, Bool, true, false, ◌||◌, not, add-zero, add-suc}
use Rattle.std.specs.Prelude.{nat_eq, nat_lt, if◌then◌else◌, Some}
use Rattle.std.proofs.lemmas.Bool.{cases_lt, cases_eq, and_parts, false≢true}
use Rattle.std.proofs.lemmas.Bool.Decides.{nat_tests}
use Rattle.unit_sets.specs.Below.{first_from}
use Rattle.cycle_rules.specs.Below.{sum_below, count_below}
use Rattle.cycle_rules.specs.Row.{Input, Table}
use Rattle.cycle_rules.specs.Seen.{sees, comes_before}
use Rattle.cycle_rules.specs.Dispatch.{follows, fits_buffers, can_dispatch}
use Rattle.cycle_rules.specs.Issue.{can_start}
use Rattle.cycle_rules.specs.Run.{IsRow}
use Rattle.dep_graph.specs.Stalls.{condition, holds, first_failing, head, stall_of, last_dispatch}
use Rattle.dep_graph.specs.Thresholds.{start, span, row_stalls}
use Rattle.dep_graph.proofs.Spans.{before_failing, counted_all, count_same, Keeps, least_le}
use Rattle.dep_graph.proofs.Past.{IsNext, sum_same}
use Rattle.dep_graph.proofs.Holding.{holds_on}

abbrev pub AreRows : Input → Table → Type 0
AreRows g t = (j : ℕ) → j < g.rows → IsRow g t j

-- In program order

follows_last : (g : Input) (t : Table) (j c : ℕ) → follows (λ k. (sees g t 2 j c k).dispatch) j c ≡ true → last_dispatch t j ≤ c
unfolding follows comes_before
follows_last g t zero c h = omega arith
follows_last g t (suc i) c h = grind (arith, nat_tests, h)

last_follows : (g : Input) (t : Table) (j c : ℕ) → j < g.rows → last_dispatch t j ≤ c → follows (λ k. (sees g t 2 j c k).dispatch) j c ≡ true
unfolding follows comes_before
last_follows g t zero c row h = refl
last_follows g t (suc i) c row h = let in_run : nat_lt i g.rows ≡ true = grind (arith, nat_tests, row) in grind (arith, nat_tests, in_run, h)

dispatch_follows : (g : Input) (t : Table) (j c : ℕ) → can_dispatch g t j c ≡ true → follows (λ k. (t k).dispatch) j c ≡ true
unfolding can_dispatch
dispatch_follows g t j c h = (and_parts _ _ (and_parts _ _ (and_parts _ _ (and_parts _ _ (and_parts _ _ (and_parts _ _ h).0).0).0).0).0).0

pub start_le : (g : Input) (t : Table) (j : ℕ) → IsRow g t j → start t j ≤ (t j).dispatch
start_le g t j row = follows_last g t j (t j).dispatch (dispatch_follows g (sees g t 2 j (t j).dispatch) j (t j).dispatch row.dispatch.holds)

pub before_start : (g : Input) (t : Table) (j : ℕ) → AreRows g t → j ≤ g.rows → (k : ℕ) → k < j → (t k).dispatch ≤ start t j
before_start g t zero rows le k lt = absurd (omega (arith, lt))
before_start g t (suc i) rows le k lt = elim (cases_lt k i) [
  | inl low ↦ omega (arith, before_start g t i rows (omega (arith, le)) k low, start_le g t i (rows i (omega (arith, le))))
  | inr here ↦ (let e : k ≡ i = omega (arith, here, lt) in rw e (omega arith))
]

pub is_next : (g : Input) (t : Table) (j c : ℕ) → AreRows g t → j < g.rows → start t j ≤ c → IsNext g t j c
is_next g t j c rows lt le = record { row = lt; past = λ k l. omega (arith, before_start g t j rows (omega (arith, lt)) k l, le) }

-- Where all conditions hold, the row may dispatch

last_two : (b x y : Bool) → (b || x) ≡ true → (not b || y) ≡ true → (if b then y else x) ≡ true
last_two true x y h k = k
last_two false x y h k = h

can_from : (g : Input) (t : Table) (j c : ℕ) → follows (λ k. (t k).dispatch) j c ≡ true → ((q : ℕ) → q < 7 → condition g t j c q ≡ true) → can_dispatch g t j c ≡ true
unfolding can_dispatch
can_from g t j c f h = rw (f, h 0 (omega arith), h 1 (omega arith), h 2 (omega arith), h 3 (omega arith), h 4 (omega arith), last_two (g.row j).reserved (fits_buffers g t j c) (can_start g t j c) (h 5 (omega arith)) (h 6 (omega arith))) refl

-- in each cycle before the dispatch one fails
pub some_fails : (g : Input) (t : Table) (j c : ℕ) → AreRows g t → j < g.rows → start t j ≤ c → c < (t j).dispatch → first_failing (λ q. holds g t j q c) < 7
some_fails g t j c rows lt le early =
    elim (cases_lt (first_failing (λ q. holds g t j q c)) 7) [
      | inl some ↦ some
      | inr all ↦
          (let seven : first_failing (λ q. holds g t j q c) ≡ 7 = omega (arith, all, least_le 7 0 (λ x. not (holds g t j x c))) in
          let can : can_dispatch g (sees g t 2 j c) j c ≡ true = can_from g (sees g t 2 j c) j c (last_follows g t j c lt le) (λ q l. before_failing (λ q. holds g t j q c) 7 q seven l) in
          absurd (false≢true (sym ((rows j lt).dispatch.below c early) ∙ can)))
    ]

pub end_of : (g : Input) (t : Table) (j : ℕ) → IsRow g t j → start t j + span t j ≡ (t j).dispatch
end_of g t j row = omega (arith, start_le g t j row)

pub keeps_of : (g : Input) (t : Table) (j : ℕ) → AreRows g t → j < g.rows → Keeps (start t j) (span t j) (holds g t j)
keeps_of g t j rows lt k x y few le later within h = holds_on g t j x y k (is_next g t j x rows lt le) later few h

pub fails_of : (g : Input) (t : Table) (j : ℕ) → AreRows g t → j < g.rows → (x : ℕ) → start t j ≤ x → x < start t j + span t j → first_failing (λ q. holds g t j q x) < 7
fails_of g t j rows lt x le within = some_fails g t j x rows lt le (omega (arith, within, end_of g t j (rows j lt)))

-- Rows one after another

count_split : (a m : ℕ) (f : ℕ → Bool) → count_below (a + m) f ≡ count_below a f + count_below m (λ x. f (a + x))
unfolding count_below
count_split a zero f = rw add-zero (omega arith)
count_split a (suc m) f = let rest : count_below (a + m) f ≡ count_below a f + count_below m (λ x. f (a + x)) = count_split a m f in rw add-suc (omega (arith, rest))

pub first_is : (m a n : ℕ) (p : ℕ → Bool) → a ≤ n → n < a + m → ((x : ℕ) → a ≤ x → x < n → p x ≡ false) → p n ≡ true → first_from a m p ≡ Some n
unfolding first_from
first_is zero a n p le lt before at = absurd (omega (arith, le, lt))
first_is (suc m) a n p le lt before at = elim (cases_eq a n) [
  | inl here ↦ (let h : p a ≡ true = subst (λ x. p x ≡ true) (sym here) at in rw h (ap Some here))
  | inr later ↦ (let h : p a ≡ false = before a (omega arith) (omega (arith, le, later)) in rw h (first_is m (a + 1) n p (omega (arith, le, later)) (omega (arith, lt)) (λ x l. before x (omega (arith, l))) at))
]

head_is : (g : Input) (t : Table) (j c : ℕ) → AreRows g t → j < g.rows → start t j ≤ c → c < (t j).dispatch → head g t c ≡ Some j
head_is g t j c rows lt le early = first_is g.rows 0 j (λ k. nat_lt c (t k).dispatch) (omega arith) (omega (arith, lt))
    (λ x _ l. let past : (t x).dispatch ≤ start t j = before_start g t j rows (omega (arith, lt)) x l in grind (arith, nat_tests, past, le)) (grind (arith, nat_tests, early))

pub stalls_rows : (g : Input) (t : Table) (k n : ℕ) → AreRows g t → n ≤ g.rows → count_below (last_dispatch t n) (λ c. nat_eq (stall_of g t c (head g t c)) k) ≡ sum_below n (row_stalls g t k)
unfolding sum_below count_below
stalls_rows g t k zero rows le = refl
stalls_rows g t k (suc n) rows le =
    let f : ℕ → Bool = λ c. nat_eq (stall_of g t c (head g t c)) k in
    let lt : n < g.rows = omega (arith, le) in
    let rest : count_below (last_dispatch t n) f ≡ sum_below n (row_stalls g t k) = stalls_rows g t k n rows (omega (arith, le)) in
    let here : count_below (span t n) (λ x. f (start t n + x)) ≡ row_stalls g t k n = count_same (span t n) _ _ (λ x l. ap (λ o. nat_eq (stall_of g t (start t n + x) o) k) (head_is g t n (start t n + x) rows lt (omega arith) (omega (arith, l, end_of g t n (rows n lt))))) in
    let split : count_below (start t n + span t n) f ≡ count_below (start t n) f + count_below (span t n) (λ x. f (start t n + x)) = count_split (start t n) (span t n) f in
    let whole : count_below (t n).dispatch f ≡ count_below (start t n) f + count_below (span t n) (λ x. f (start t n + x)) = subst (λ m. count_below m f ≡ count_below (start t n) f + count_below (span t n) (λ x. f (start t n + x))) (end_of g t n (rows n lt)) split in
    omega (arith, whole, rest, here)

-- Sums

sum_add : (n : ℕ) (f h : ℕ → ℕ) → sum_below n (λ k. f k + h k) ≡ sum_below n f + sum_below n h
unfolding sum_below
sum_add zero f h = refl
sum_add (suc n) f h = omega (arith, sum_add n f h)

sum_zero : (n : ℕ) → sum_below n (λ k. 0) ≡ 0
unfolding sum_below
sum_zero zero = refl
sum_zero (suc n) = omega (arith, sum_zero n)

sum_swap : (m n : ℕ) (f : ℕ → ℕ → ℕ) → sum_below m (λ k. sum_below n (f k)) ≡ sum_below n (λ j. sum_below m (λ k. f k j))
unfolding sum_below
sum_swap m zero f = sum_zero m
sum_swap m (suc n) f = omega (arith, sum_add m (λ k. sum_below n (f k)) (λ k. f k n), sum_swap m n f)

spans : (g : Input) (t : Table) (n : ℕ) → AreRows g t → n ≤ g.rows → sum_below n (span t) ≡ last_dispatch t n
unfolding sum_below
spans g t zero rows le = refl
spans g t (suc n) rows le = omega (arith, spans g t n rows (omega (arith, le)), end_of g t n (rows n (omega (arith, le))))

pub all_stalls : (g : Input) (t : Table) (n : ℕ) → AreRows g t → n ≤ g.rows → sum_below 7 (λ k. sum_below n (row_stalls g t k)) ≡ last_dispatch t n
all_stalls g t n rows le =
    sum_swap 7 n (row_stalls g t)
    ∙ sum_same n _ _ (λ j lt. counted_all (start t j) (span t j) (holds g t j) (keeps_of g t j rows (omega (arith, lt, le))) (fails_of g t j rows (omega (arith, lt, le))))
    ∙ spans g t n rows le
