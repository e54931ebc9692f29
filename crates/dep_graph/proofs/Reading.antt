-- The values that a row reads: who makes them, and which of them is there last.
use Rattle.std.proofs.Common.{suc, ◌≡◌, ℕ, ◌+◌, ◌-◌, ◌<◌, ◌≤◌, inl, inr, arith, refl, sym, ◌∙◌, ap, subst, Bool, true, false, not, List, [], ◌∷◌, ◌++◌, length}
use Rattle.std.specs.Prelude.{nat_eq, nat_le, nat_lt, max, if◌then◌else◌, Option, Some, None, MatchOption, slice_index_or}
use Rattle.std.proofs.lemmas.Bool.{cases_lt, cases_Bool}
use Rattle.std.proofs.lemmas.Bool.Decides.{nat_tests}
use Rattle.cycle_rules.specs.CycleBound.{max_below}
use Rattle.cycle_rules.specs.Row.{Input, Table, lead, advance_of}
use Rattle.cycle_rules.specs.Issue.{producer, has_operand}
use Rattle.cycle_rules.specs.Waits.{earliest, at_issue, operands_at, memory_at, register_wait, memory_wait}
use Rattle.cycle_rules.specs.Links.{named, IsLink, AreLinks}
use Rattle.cycle_rules.specs.Still.{no_source}
use Rattle.cycle_rules.specs.declared.bound.Source.{Source}
use Rattle.cycle_rules.specs.declared.links.Link.{Link}
use Rattle.cycle_rules.specs.declared.links.Links.{Links}
use Rattle.cycle_rules.proofs.Producers.{named_none}
use Rattle.dep_graph.specs.PassTimes.{value_time, read_time, reads_time, pass_time}
use Rattle.dep_graph.specs.Peaks.{IsLate, late_in, IsPeak, IsWait}
use Rattle.dep_graph.specs.Blamed.{absent_in, register_blamed, holds_up, memory_blamed}
use Rattle.dep_graph.specs.declared.peak.Peak.{Peak}
use Rattle.dep_graph.specs.declared.waits.Wait.{Wait}
use Rattle.dep_graph.proofs.Timed.{operand_seen, passes_seen, ready_is, ordered_is, waits_sum, last_older}
use Rattle.dep_graph.proofs.Runs.{AreRows, first_is}

pub producer_older : (g : Input) (j r k : ℕ) → producer g j r ≡ Some k → k < j
unfolding producer
producer_older g j r k is = last_older j (λ k. nat_eq (g.row k).rd r) k is

-- A read, by its link

pub link_time : (g : Input) (t : Table) (j : ℕ) (s : Source) (link : Link) (peak : Peak) → IsLink g j s link
    → MatchOption (named j link) (peak.time ≡ 0) (λ k. (peak.time ≡ (t k).issue + link.lead) × (peak.row ≡ k))
    → (peak.time ≡ read_time g t j s) × (0 < peak.time → producer g j s.reg ≡ Some peak.row)
link_time g t j s link peak is h = go (nat_eq s.reg 0) refl
  where
    naming : Bool → Option ℕ
    naming zero = if zero then None else producer g j s.reg

    timed : Option ℕ → Type 0
    timed o = MatchOption o (peak.time ≡ 0) (λ k. (peak.time ≡ (t k).issue + link.lead) × (peak.row ≡ k))

    by : (o : Option ℕ) → producer g j s.reg ≡ o → ((k : ℕ) → o ≡ Some k → link.lead ≡ lead (g.row k).latency (advance_of g.machine s.read (g.row k).write)) → timed o
        → (peak.time ≡ value_time g t s.read o) × (0 < peak.time → producer g j s.reg ≡ Some peak.row)
    by None made leads at = (at, λ some. absurd (omega (arith, at, some)))
    by (Some k) made leads at = (at.0 ∙ ap (λ n. (t k).issue + n) (leads k refl), λ _. made ∙ ap Some (sym at.1))

    go : (zero : Bool) → nat_eq s.reg 0 ≡ zero → (peak.time ≡ (if zero then 0 else value_time g t s.read (producer g j s.reg))) × (0 < peak.time → producer g j s.reg ≡ Some peak.row)
    go true at = (let none : peak.time ≡ 0 = subst timed (is.row ∙ ap naming at) h in (none, λ some. absurd (omega (arith, none, some))))
    go false at = by (producer g j s.reg) refl (λ k e. is.lead k (is.row ∙ ap naming at ∙ e)) (subst timed (is.row ∙ ap naming at) h)

-- a link that names no row
pub no_time : (t : Table) (j : ℕ) (link : Link) (peak : Peak) → link.back ≡ 0 → MatchOption (named j link) (peak.time ≡ 0) (λ k. (peak.time ≡ (t k).issue + link.lead) × (peak.row ≡ k)) → peak.time ≡ 0
no_time t j link peak none h = subst (λ o. MatchOption o (peak.time ≡ 0) (λ k. (peak.time ≡ (t k).issue + link.lead) × (peak.row ≡ k))) (named_none j link none) h

-- Several reads

late_none : (g : Input) (t : Table) (j : ℕ) (peak : Peak) → peak.time ≡ 0 → IsLate g t j [] peak
late_none g t j peak none = record { time_is = none; row_is = λ some. absurd (omega (arith, none, some)) }

times_more : (g : Input) (t : Table) (j : ℕ) (xs : List Source) (s : Source) → reads_time g t j (xs ++ s ∷ []) ≡ max (reads_time g t j xs) (read_time g t j s)
times_more g t j [] s = omega arith
times_more g t j (x ∷ xs) s = omega (arith, times_more g t j xs s)

-- where all are there before, the next is the first that is not
late_last : (g : Input) (t : Table) (j time : ℕ) (xs : List Source) (s : Source) → reads_time g t j xs < time → read_time g t j s ≡ time → late_in g t j time (xs ++ s ∷ []) ≡ producer g j s.reg
late_last g t j time [] s lt at = let e : nat_lt (read_time g t j s) time ≡ false = grind (arith, nat_tests, at) in rw e refl
late_last g t j time (x ∷ xs) s lt at =
    let e : nat_lt (read_time g t j x) time ≡ true = (let low : read_time g t j x < time = omega (arith, lt) in grind (arith, nat_tests, low)) in
    rw e (late_last g t j time xs s (omega (arith, lt)) at)

late_first : (g : Input) (t : Table) (j time : ℕ) (xs ys : List Source) (k : ℕ) → late_in g t j time xs ≡ Some k → late_in g t j time (xs ++ ys) ≡ Some k
late_first g t j time [] ys k is = absurd (cc)
late_first g t j time (x ∷ xs) ys k is = elim (cases_Bool (nat_lt (read_time g t j x) time)) [
  | inl low ↦ (let rest : late_in g t j time xs ≡ Some k = rw low at is in rw low (late_first g t j time xs ys k rest))
  | inr there ↦ (let here : producer g j x.reg ≡ Some k = rw there at is in rw there here)
]

late_more : (g : Input) (t : Table) (j : ℕ) (xs : List Source) (s : Source) (p q : Peak) → IsLate g t j xs p → q.time ≡ read_time g t j s → (0 < q.time → producer g j s.reg ≡ Some q.row)
    → IsLate g t j (xs ++ s ∷ []) (if nat_lt p.time q.time then q else p)
late_more g t j xs s p q h time row = elim (cases_lt p.time q.time) [
  | inl lt ↦ (let e : nat_lt p.time q.time ≡ true = grind (arith, nat_tests, lt) in
      rw e (record {
        time_is = omega (arith, times_more g t j xs s, h.time_is, time, lt);
        row_is = λ some. late_last g t j q.time xs s (omega (arith, h.time_is, lt)) (sym time) ∙ row some;
      }))
  | inr le ↦ (let e : nat_lt p.time q.time ≡ false = grind (arith, nat_tests, le) in
      rw e (record {
        time_is = omega (arith, times_more g t j xs s, h.time_is, time, le);
        row_is = λ some. late_first g t j p.time xs (s ∷ []) p.row (h.row_is some);
      }))
]

late_one : (g : Input) (t : Table) (j : ℕ) (s : Source) (q : Peak) → q.time ≡ read_time g t j s → (0 < q.time → producer g j s.reg ≡ Some q.row) → IsLate g t j (s ∷ []) q
late_one g t j s q time row = record {
  time_is = omega (arith, time);
  row_is = λ some. late_last g t j q.time [] s some (sym time) ∙ row some;
}

-- the later of the times of two links
pub late_of : (g : Input) (t : Table) (j : ℕ) (links : Links) (p q : Peak) → AreLinks g j links
    → MatchOption (named j links.first) (p.time ≡ 0) (λ k. (p.time ≡ (t k).issue + links.first.lead) × (p.row ≡ k))
    → MatchOption (named j links.second) (q.time ≡ 0) (λ k. (q.time ≡ (t k).issue + links.second.lead) × (q.row ≡ k))
    → IsLate g t j (g.row j).reads (if nat_lt p.time q.time then q else p)
late_of g t j links p q are at_p at_q = go (g.row j).reads refl
  where
    only : IsLate g t j (g.row j).reads p → q.time ≡ 0 → IsLate g t j (g.row j).reads (if nat_lt p.time q.time then q else p)
    only is none = let e : nat_lt p.time q.time ≡ false = grind (arith, nat_tests, none) in rw e is

    go : (reads : List Source) → (g.row j).reads ≡ reads → IsLate g t j (g.row j).reads (if nat_lt p.time q.time then q else p)
    go [] e =
        let size : length (g.row j).reads ≡ 0 = ap length e in
        only (subst (λ rs. IsLate g t j rs p) (sym e) (late_none g t j p (no_time t j links.first p (are.no_first (omega (arith, size))) at_p))) (no_time t j links.second q (are.no_second (omega (arith, size))) at_q)
    go (x ∷ []) e =
        let size : length (g.row j).reads ≡ 1 = ap length e in
        let first : IsLink g j x links.first = subst (λ (rs : List Source). IsLink g j (slice_index_or rs 0 no_source) links.first) e (are.first (omega (arith, size))) in
        let told = link_time g t j x links.first p first at_p in
        only (subst (λ rs. IsLate g t j rs p) (sym e) (late_one g t j x p told.0 told.1)) (no_time t j links.second q (are.no_second (omega (arith, size))) at_q)
    go (x ∷ y ∷ []) e =
        let size : length (g.row j).reads ≡ 2 = ap length e in
        let first : IsLink g j x links.first = subst (λ (rs : List Source). IsLink g j (slice_index_or rs 0 no_source) links.first) e (are.first (omega (arith, size))) in
        let second : IsLink g j y links.second = subst (λ (rs : List Source). IsLink g j (slice_index_or rs 1 no_source) links.second) e (are.second (omega (arith, size))) in
        let one = link_time g t j x links.first p first at_p in
        let two = link_time g t j y links.second q second at_q in
        subst (λ rs. IsLate g t j rs (if nat_lt p.time q.time then q else p)) (sym e) (late_more g t j (x ∷ []) y p q (late_one g t j x p one.0 one.1) two.0 two.1)
    go (x ∷ y ∷ z ∷ rest) e = absurd (let size : length (g.row j).reads ≡ suc (suc (suc (length rest))) = ap length e in omega (arith, size, are.few))

-- Who is blamed

pub absent_late : (g : Input) (t : Table) (j c : ℕ) (reads : List Source) → AreRows g t → j < g.rows → earliest g t j ≤ c → absent_in g (at_issue g t j c) j c reads ≡ late_in g t j (c + 1) reads
absent_late g t j c [] rows lt le = refl
absent_late g t j c (s ∷ rest) rows lt le =
    let seen : has_operand g (at_issue g t j c) j c s ≡ nat_lt (read_time g t j s) (c + 1) = operand_seen g t j c s rows lt le ∙ (let e : nat_le (read_time g t j s) c ≡ nat_lt (read_time g t j s) (c + 1) = grind (arith, nat_tests) in e) in
    (λ i. if seen i then absent_late g t j c rest rows lt le i else producer g j s.reg)

pub register_is : (g : Input) (t : Table) (j : ℕ) (peak : Peak) (wait : Wait) → AreRows g t → j < g.rows → IsLate g t j (g.row j).reads peak → wait.cycles ≡ peak.time - earliest g t j → wait.row ≡ peak.row
    → IsWait (register_wait g t j) (register_blamed g t j) wait
register_is g t j peak wait rows lt h cycles row =
    let ready : operands_at g t j ≡ max (earliest g t j) (reads_time g t j (g.row j).reads) = ready_is g t j rows lt in
    record {
      is = omega (arith, cycles, ready, h.time_is);
      row_is = λ some.
          let at : operands_at g t j - 1 + 1 ≡ peak.time = omega (arith, some, cycles, ready, h.time_is) in
          absent_late g t j (operands_at g t j - 1) (g.row j).reads rows lt (omega (arith, some, cycles, ready, h.time_is))
          ∙ ap (λ m. late_in g t j m (g.row j).reads) at ∙ h.row_is (omega (arith, some, cycles)) ∙ ap Some (sym row);
    }

pub memory_is : (g : Input) (t : Table) (j : ℕ) (peak : Peak) (wait : Wait) (from : ℕ) → AreRows g t → j < g.rows → from ≡ operands_at g t j → IsPeak (pass_time g t j) j peak → wait.cycles ≡ peak.time - from → wait.row ≡ peak.row
    → IsWait (memory_wait g t j) (memory_blamed g t j) wait
memory_is g t j peak wait from rows lt start h cycles row =
    let ordered : memory_at g t j ≡ max (operands_at g t j) (max_below j (pass_time g t j)) = ordered_is g t j rows lt in
    let low = waits_sum g t j rows lt in
    record {
      is = omega (arith, cycles, start, ordered, h.time_is);
      row_is = λ some.
          let at : memory_at g t j ≡ peak.time = omega (arith, some, cycles, start, ordered, h.time_is) in
          let c : ℕ = memory_at g t j - 1 in
          let after : earliest g t j ≤ c = omega (arith, some, cycles, start, at, low.0) in
          let first = h.row_is (omega (arith, some, cycles)) in
          let held : (k : ℕ) → k < j → holds_up g (at_issue g t j c) j c k ≡ not (nat_le (pass_time g t j k) c) = λ k older. ap not (passes_seen g t j k c rows lt older after) in
          first_is j 0 peak.row (holds_up g (at_issue g t j c) j c) (omega arith) (omega (arith, first.within))
          (λ k _ early. held k (omega (arith, early, first.within)) ∙ (let less : pass_time g t j k ≤ c = omega (arith, first.first k early, at) in let e : nat_le (pass_time g t j k) c ≡ true = grind (arith, nat_tests, less) in rw e refl))
          (held peak.row first.within ∙ (let more : c < pass_time g t j peak.row = omega (arith, first.at, at, some, cycles) in let e : nat_le (pass_time g t j peak.row) c ≡ false = grind (arith, nat_tests, more) in rw e refl))
          ∙ ap Some (sym row);
    }
