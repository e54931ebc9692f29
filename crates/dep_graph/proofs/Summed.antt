-- Sums of waits, one row more at a time, that they are low, and that the order of the rows does not matter.
use Rattle.std.proofs.Common.{zero, suc, ◌≡◌, ℕ, ◌+◌, ◌*◌, ◌^◌, ◌<◌, ◌≤◌, inl, inr, List, length, refl, arith, sym, ap, ◌∙◌, true, false}
use Rattle.std.specs.Prelude.{nat_eq, slice_index, if◌then◌else◌}
use Rattle.std.proofs.lemmas.Bool.{cases_eq}
use Rattle.std.proofs.lemmas.Bool.Decides.{nat_tests}
use Rattle.critical_chain.specs.Graph.{IsOrder, place}
use Rattle.critical_chain.proofs.Orders.{place_at}
use Rattle.cycle_rules.specs.Below.{sum_below}
use Rattle.cycle_rules.specs.Row.{Input, Table, times}
use Rattle.cycle_rules.specs.Waits.{register_wait, memory_wait, resource_wait}
use Rattle.cycle_rules.specs.declared.times.Times.{Times}
use Rattle.cycle_rules.proofs.Below.{sum_more}
use Rattle.cycle_rules.proofs.Sums.{sum_none}
use Rattle.dep_graph.specs.Peaks.{AreRowWaits}
use Rattle.dep_graph.specs.RunGraph.{IsIssueOrder}
use Rattle.dep_graph.specs.WaitSums.{AreSums, AreSumsAlong}
use Rattle.dep_graph.specs.Walk.{IsSoundRun}
use Rattle.dep_graph.specs.declared.sums.WaitSums.{WaitSums}
use Rattle.dep_graph.specs.declared.waits.RowWaits.{RowWaits}
use Rattle.dep_graph.proofs.Timed.{waits_sum}
use Rattle.dep_graph.proofs.Walks.{issue_early}

pub no_sums : (g : Input) (t : Table) (order : List ℕ) → AreSumsAlong g t order 0 (record { registers = 0; memory = 0; resources = 0 })
unfolding sum_below
no_sums g t order = record { registers = refl; memory = refl; resources = refl }

sum_low : (n most : ℕ) (f : ℕ → ℕ) → ((k : ℕ) → k < n → f k ≤ most) → sum_below n f ≤ n * most
unfolding sum_below
sum_low zero most f h = omega arith
sum_low (suc n) most f h = let rest : sum_below n f ≤ n * most = sum_low n most f (λ k lt. h k (omega (arith, lt))) in omega (arith, rest, h n (omega arith))

pub dispatch_low : (g : Input) (table : List Times) (j : ℕ) → IsSoundRun g table → j < g.rows → (times table j).dispatch < 2 ^ 41
dispatch_low g table j sound lt = let early = issue_early g (times table) j sound.run.each lt in omega (arith, early.0, early.1, early.2, sound.early j lt)

pub issue_low : (g : Input) (table : List Times) (j : ℕ) → IsSoundRun g table → j < g.rows → (times table j).issue < 2 ^ 41
issue_low g table j sound lt = let early = issue_early g (times table) j sound.run.each lt in omega (arith, early.1, early.2, sound.early j lt)

-- the waits of a row end with its issue
pub row_low : (g : Input) (table : List Times) (j : ℕ) → IsSoundRun g table → j < g.rows
    → (register_wait g (times table) j ≤ 2 ^ 41) × (memory_wait g (times table) j ≤ 2 ^ 41) × (resource_wait g (times table) j ≤ 2 ^ 41)
row_low g table j sound lt =
    let t : Table = times table in
    let behind = waits_sum g t j sound.run.each lt in
    let low = issue_low g table j sound lt in
    (omega (arith, behind.1, behind.2, low), omega (arith, behind.2, low), omega (arith, low))

pub sums_low : (g : Input) (table : List Times) (order : List ℕ) (i : ℕ) (sums : WaitSums) → IsSoundRun g table → IsIssueOrder g (times table) order → i < length order → AreSumsAlong g (times table) order i sums
    → (sums.registers < 2 ^ 63) × (sums.memory < 2 ^ 63) × (sums.resources < 2 ^ 63)
sums_low g table order i sums sound is lt are =
    let t : Table = times table in
    let few : i ≤ 1048576 = omega (arith, lt, is.all.rows, sound.few) in
    let low : (k : ℕ) → k < i → slice_index order k < g.rows = λ k below. is.all.below k (omega (arith, below, lt, is.all.rows)) in
    let registers : sum_below i (λ k. register_wait g t (slice_index order k)) ≤ i * 2 ^ 41 = sum_low i (2 ^ 41) (λ k. register_wait g t (slice_index order k)) (λ k below. (row_low g table (slice_index order k) sound (low k below)).0) in
    let memory : sum_below i (λ k. memory_wait g t (slice_index order k)) ≤ i * 2 ^ 41 = sum_low i (2 ^ 41) (λ k. memory_wait g t (slice_index order k)) (λ k below. (row_low g table (slice_index order k) sound (low k below)).1) in
    let resources : sum_below i (λ k. resource_wait g t (slice_index order k)) ≤ i * 2 ^ 41 = sum_low i (2 ^ 41) (λ k. resource_wait g t (slice_index order k)) (λ k below. (row_low g table (slice_index order k) sound (low k below)).2) in
    (omega (arith, are.registers, registers, few), omega (arith, are.memory, memory, few), omega (arith, are.resources, resources, few))

pub sums_more : (g : Input) (t : Table) (order : List ℕ) (i : ℕ) (sums next : WaitSums) (row : RowWaits) → AreSumsAlong g t order i sums → AreRowWaits g t (slice_index order i) row
    → next.registers ≡ sums.registers + row.before.register.cycles → next.memory ≡ sums.memory + row.before.memory.cycles → next.resources ≡ sums.resources + row.units → AreSumsAlong g t order (i + 1) next
sums_more g t order i sums next row are of registers memory resources = record {
  registers = registers ∙ sum_more i (λ k. register_wait g t (slice_index order k)) sums.registers row.before.register.cycles are.registers of.before.register.is;
  memory = memory ∙ sum_more i (λ k. memory_wait g t (slice_index order k)) sums.memory row.before.memory.cycles are.memory of.before.memory.is;
  resources = resources ∙ sum_more i (λ k. resource_wait g t (slice_index order k)) sums.resources row.units are.resources of.units;
}

-- In any order the sum over all rows is the same

sum_both : (n : ℕ) (f h : ℕ → ℕ) → sum_below n (λ k. f k + h k) ≡ sum_below n f + sum_below n h
unfolding sum_below
sum_both zero f h = refl
sum_both (suc n) f h = omega (arith, sum_both n f h)

-- sums of sums, the other way round
sum_turned : (m n : ℕ) (f : ℕ → ℕ → ℕ) → sum_below m (λ i. sum_below n (f i)) ≡ sum_below n (λ k. sum_below m (λ i. f i k))
unfolding sum_below
sum_turned zero n f = sym (sum_none n (λ k. 0) (λ k lt. refl))
sum_turned (suc m) n f = ap (λ x. x + sum_below n (f m)) (sum_turned m n f) ∙ sym (sum_both n (λ k. sum_below m (λ i. f i k)) (f m))

sum_alike : (n : ℕ) (f h : ℕ → ℕ) → ((k : ℕ) → k < n → f k ≡ h k) → sum_below n f ≡ sum_below n h
unfolding sum_below
sum_alike zero f h e = refl
sum_alike (suc n) f h e = (λ i. sum_alike n f h (λ k lt. e k (omega (arith, lt))) i + e n (omega arith) i)

-- of a sum in which one number alone counts
sum_one : (n v : ℕ) (f : ℕ → ℕ) → v < n → sum_below n (λ k. if nat_eq k v then f k else 0) ≡ f v
unfolding sum_below
sum_one zero v f lt = absurd (omega (arith, lt))
sum_one (suc n) v f lt = elim (cases_eq n v) [
  | inl here ↦ (let e : nat_eq n v ≡ true = grind (arith, nat_tests, here) in
      let rest : sum_below n (λ k. if nat_eq k v then f k else 0) ≡ 0 = sum_none n (λ k. if nat_eq k v then f k else 0) (λ k low. (let ne : nat_eq k v ≡ false = grind (arith, nat_tests, here, low) in rw ne refl)) in
      rw e (omega (arith, rest, ap f here)))
  | inr other ↦ (let e : nat_eq n v ≡ false = grind (arith, nat_tests, other) in
      rw e (omega (arith, sum_one n v f (omega (arith, lt, other)))))
]

pub sum_ordered : (n : ℕ) (order : List ℕ) (f : ℕ → ℕ) → IsOrder n order → sum_below n (λ i. f (slice_index order i)) ≡ sum_below n f
sum_ordered n order f is =
    let hit : ℕ → ℕ → ℕ = λ i k. if nat_eq k (slice_index order i) then f k else 0 in
    let by_place : (k : ℕ) → k < n → sum_below n (λ i. hit i k) ≡ f k = λ k lk.
    (let at : slice_index order (place order k) ≡ k = place_at order k (omega (arith, is.rows, is.listed k lk)) in
    sum_alike n (λ i. hit i k) (λ i. if nat_eq i (place order k) then f k else 0) (λ i li. elim (cases_eq i (place order k)) [
      | inl here ↦ (let a : nat_eq i (place order k) ≡ true = grind (arith, nat_tests, here) in
          let same : k ≡ slice_index order i = sym at ∙ ap (slice_index order) (sym here) in
          let b : nat_eq k (slice_index order i) ≡ true = grind (arith, nat_tests, same) in rw (a, b) refl)
      | inr other ↦ (let a : nat_eq i (place order k) ≡ false = grind (arith, nat_tests, other) in
          let differ : k ≡ slice_index order i → ⊥ = λ e. other (sym (is.once i li) ∙ ap (place order) (sym e)) in
          let b : nat_eq k (slice_index order i) ≡ false = grind (arith, nat_tests, differ) in rw (a, b) refl)
    ]) ∙ sum_one n (place order k) (λ i. f k) (is.listed k lk)) in
    sum_alike n (λ i. f (slice_index order i)) (λ i. sum_below n (hit i)) (λ i li. sym (sum_one n (slice_index order i) f (is.below i li)))
    ∙ sum_turned n n hit ∙ sum_alike n (λ k. sum_below n (λ i. hit i k)) f by_place

pub sums_ordered : (g : Input) (t : Table) (n : ℕ) (order : List ℕ) (sums : WaitSums) → IsOrder n order → AreSumsAlong g t order n sums → AreSums g t n sums
sums_ordered g t n order sums is are = record {
  registers = are.registers ∙ sum_ordered n order (register_wait g t) is;
  memory = are.memory ∙ sum_ordered n order (memory_wait g t) is;
  resources = are.resources ∙ sum_ordered n order (resource_wait g t) is;
}
