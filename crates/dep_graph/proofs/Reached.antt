-- The threshold of a condition that holds from a cycle on.
use Rattle.std.proofs.Common.{zero, suc, ◌≡◌, ℕ, ◌+◌, ◌-◌, ◌<◌, ◌≤◌, inl, inr, arith, refl, sym, ◌∙◌, ap, Bool, true, false, ◌||◌}
use Rattle.std.specs.Prelude.{nat_eq, nat_le, max, if◌then◌else◌}
use Rattle.std.proofs.lemmas.Bool.{cases_eq, and_parts, false≢true}
use Rattle.std.proofs.lemmas.Bool.Decides.{nat_tests}
use Rattle.cycle_rules.specs.Row.{Input, Table}
use Rattle.cycle_rules.specs.Seen.{sees}
use Rattle.cycle_rules.specs.Dispatch.{fits_buffers, can_dispatch}
use Rattle.cycle_rules.specs.Issue.{can_start}
use Rattle.cycle_rules.specs.Below.{count_below}
use Rattle.cycle_rules.specs.Waits.{least_from}
use Rattle.dep_graph.specs.Stalls.{condition, holds, first_failing}
use Rattle.dep_graph.specs.Thresholds.{start, span, threshold, mark, row_stalls}
use Rattle.dep_graph.proofs.Holding.{condition_seen}
use Rattle.dep_graph.proofs.Spans.{failing_fails, mark_ge, mark_le, counted_is, counted_last}
use Rattle.dep_graph.proofs.Runs.{AreRows, is_next, start_le, end_of, keeps_of, fails_of}
use Rattle.dep_graph.proofs.Timed.{least_max}

five_of : (b x y : Bool) → (if b then y else x) ≡ true → (b || x) ≡ true
five_of true x y h = refl
five_of false x y h = h

-- where a row may dispatch, the first six hold
dispatch_holds : (g : Input) (t : Table) (j c k : ℕ) → can_dispatch g t j c ≡ true → k < 6 → condition g t j c k ≡ true
unfolding can_dispatch
dispatch_holds g t j c zero h lt = (and_parts _ _ (and_parts _ _ (and_parts _ _ (and_parts _ _ (and_parts _ _ (and_parts _ _ h).0).0).0).0).0).1
dispatch_holds g t j c (suc zero) h lt = (and_parts _ _ (and_parts _ _ (and_parts _ _ (and_parts _ _ (and_parts _ _ h).0).0).0).0).1
dispatch_holds g t j c (suc (suc zero)) h lt = (and_parts _ _ (and_parts _ _ (and_parts _ _ (and_parts _ _ h).0).0).0).1
dispatch_holds g t j c (suc (suc (suc zero))) h lt = (and_parts _ _ (and_parts _ _ (and_parts _ _ h).0).0).1
dispatch_holds g t j c (suc (suc (suc (suc zero)))) h lt = (and_parts _ _ (and_parts _ _ h).0).1
dispatch_holds g t j c (suc (suc (suc (suc (suc zero))))) h lt = five_of (g.row j).reserved (fits_buffers g t j c) (can_start g t j c) (and_parts _ _ h).1
dispatch_holds g t j c (suc (suc (suc (suc (suc (suc k)))))) h lt = absurd (omega (arith, lt))

-- no mark lies beyond the dispatch
pub mark_low : (g : Input) (t : Table) (j k m : ℕ) → AreRows g t → j < g.rows → k < 6 → ((c : ℕ) → start t j ≤ c → condition g t j c k ≡ nat_le m c) → m ≤ (t j).dispatch
mark_low g t j k m rows lt few h =
    let d : ℕ = (t j).dispatch in
    let from : start t j ≤ d = start_le g t j (rows j lt) in
    let at : condition g (sees g t 2 j d) j d k ≡ true = dispatch_holds g (sees g t 2 j d) j d k (rows j lt).dispatch.holds few in
    let told : nat_le m d ≡ true = sym (h d from) ∙ sym (condition_seen g t j d k (is_next g t j d rows lt from) few) ∙ at in
    grind (arith, nat_tests, told)

-- in its dispatch each condition but the last holds over the table
pub holds_at_dispatch : (g : Input) (t : Table) (j k : ℕ) → AreRows g t → j < g.rows → k < 6 → condition g t j (t j).dispatch k ≡ true
holds_at_dispatch g t j k rows lt few =
    let d : ℕ = (t j).dispatch in
    sym (condition_seen g t j d k (is_next g t j d rows lt (start_le g t j (rows j lt))) few) ∙ dispatch_holds g (sees g t 2 j d) j d k (rows j lt).dispatch.holds few

pub threshold_at : (g : Input) (t : Table) (j k m : ℕ) → AreRows g t → j < g.rows → k < 6 → ((c : ℕ) → start t j ≤ c → condition g t j c k ≡ nat_le m c) → threshold (start t j) (span t j) (holds g t j) k ≡ max (start t j) m
threshold_at g t j k m rows lt few h =
    least_max (span t j) (start t j) m (holds g t j k) (omega (arith, mark_low g t j k m rows lt few h, end_of g t j (rows j lt))) (λ c le. condition_seen g t j c k (is_next g t j c rows lt le) few ∙ h c le)

-- What is left is that of buffers, or of a reserved row that cannot issue

never_sixth : (g : Input) (t : Table) (j c : ℕ) → (g.row j).reserved ≡ false → nat_eq (first_failing (λ q. holds g t j q c)) 6 ≡ false
never_sixth g t j c free = elim (cases_eq (first_failing (λ q. holds g t j q c)) 6) [
  | inr other ↦ grind (arith, nat_tests, other)
  | inl is ↦
      (let gone : holds g t j 6 c ≡ false = failing_fails (λ q. holds g t j q c) 6 is (omega arith) in
      let there : holds g t j 6 c ≡ true = rw free refl in
      absurd (false≢true (sym gone ∙ there)))
]

count_none : (n : ℕ) (p : ℕ → Bool) → ((x : ℕ) → x < n → p x ≡ false) → count_below n p ≡ 0
unfolding count_below
count_none zero p h = refl
count_none (suc n) p h = rw (h n (omega arith)) (omega (arith, count_none n p (λ x lt. h x (omega (arith, lt)))))

-- a row that is not reserved never waits to issue
pub free_rest : (g : Input) (t : Table) (j : ℕ) → AreRows g t → j < g.rows → (g.row j).reserved ≡ false → (row_stalls g t 6 j ≡ 0) × (row_stalls g t 5 j ≡ (t j).dispatch - mark (start t j) (span t j) (holds g t j) 5)
free_rest g t j rows lt free =
    let six : row_stalls g t 6 j ≡ 0 = count_none (span t j) (λ x. nat_eq (first_failing (λ q. holds g t j q (start t j + x))) 6) (λ x _. never_sixth g t j (start t j + x) free) in
    let last : row_stalls g t 6 j ≡ (start t j + span t j) - mark (start t j) (span t j) (holds g t j) 6 = counted_last (start t j) (span t j) (holds g t j) (keeps_of g t j rows lt) (fails_of g t j rows lt) in
    let most : mark (start t j) (span t j) (holds g t j) 6 ≤ start t j + span t j = mark_le (start t j) (span t j) (holds g t j) 6 in
    let five : row_stalls g t 5 j ≡ mark (start t j) (span t j) (holds g t j) 6 - mark (start t j) (span t j) (holds g t j) 5 = counted_is (start t j) (span t j) (holds g t j) 5 (keeps_of g t j rows lt) (omega arith) in
    let end : start t j + span t j ≡ (t j).dispatch = end_of g t j (rows j lt) in
    let all : mark (start t j) (span t j) (holds g t j) 6 ≡ (t j).dispatch = omega (arith, six, last, most, end) in
    (six, five ∙ ap (λ m. m - mark (start t j) (span t j) (holds g t j) 5) all)

least_at_once : (n a : ℕ) (p : ℕ → Bool) → p a ≡ true → least_from a n p ≡ a
least_at_once zero a p h = refl
least_at_once (suc n) a p h = rw h refl

-- and a reserved row never waits for a buffer
pub reserved_rest : (g : Input) (t : Table) (j : ℕ) → AreRows g t → j < g.rows → (g.row j).reserved ≡ true → (row_stalls g t 5 j ≡ 0) × (row_stalls g t 6 j ≡ (t j).dispatch - mark (start t j) (span t j) (holds g t j) 5)
reserved_rest g t j rows lt is =
    let five : row_stalls g t 5 j ≡ mark (start t j) (span t j) (holds g t j) 6 - mark (start t j) (span t j) (holds g t j) 5 = counted_is (start t j) (span t j) (holds g t j) 5 (keeps_of g t j rows lt) (omega arith) in
    let none : threshold (start t j) (span t j) (holds g t j) 5 ≡ start t j = least_at_once (span t j) (start t j) (holds g t j 5) (rw is refl) in
    let low : start t j ≤ mark (start t j) (span t j) (holds g t j) 5 = mark_ge (start t j) (span t j) (holds g t j) 5 in
    let up : mark (start t j) (span t j) (holds g t j) 6 ≡ max (mark (start t j) (span t j) (holds g t j) 5) (threshold (start t j) (span t j) (holds g t j) 5) = refl in
    let same : mark (start t j) (span t j) (holds g t j) 6 ≡ mark (start t j) (span t j) (holds g t j) 5 = omega (arith, up, none, low) in
    let last : row_stalls g t 6 j ≡ (start t j + span t j) - mark (start t j) (span t j) (holds g t j) 6 = counted_last (start t j) (span t j) (holds g t j) (keeps_of g t j rows lt) (fails_of g t j rows lt) in
    (omega (arith, five, same), last ∙ (λ i. end_of g t j (rows j lt) i - same i))
