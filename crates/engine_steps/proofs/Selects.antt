-- Rows that are passed over in a phase of issues do not issue.
use Rattle.std.proofs.Common.{zero, suc, ◌≡◌, ℕ, ◌+◌, ◌-◌, ◌<◌, ◌≤◌, inl, inr, List, arith, subst, refl, Bool, true, false, ◌&&◌}
use Rattle.std.specs.Prelude.{nat_lt, Option, Some, None}
use Rattle.std.proofs.lemmas.Bool.{cases_Bool, both_ways}
use Rattle.unit_sets.specs.Members.{in_word}
use Rattle.cycle_rules.specs.Row.{Input, Table, times}
use Rattle.cycle_rules.specs.Issue.{has_operands, can_start, can_issue}
use Rattle.cycle_rules.specs.declared.times.Times.{Times}
use Rattle.event_rules.specs.Due.{ready_from}
use Rattle.row_sets.specs.Ready.{has_row}
use Rattle.engine_state.specs.State.{recorded, now, at, taken_now, IsState, never}
use Rattle.engine_state.proofs.Turn.{issue_keeps}
use Rattle.engine_steps.specs.Flight.{IsFlight}
use Rattle.engine_steps.specs.Refused.{AreRefused, HasOneUse}
use Rattle.engine_steps.specs.Wake.{class_of, AreAwake, AllLater, none_out}
use Rattle.engine_steps.specs.declared.flight.Flight.{Flight}
use Rattle.engine_steps.specs.declared.wakeup.Wakeup.{Wakeup}
use Rattle.engine_steps.proofs.Classes.{class_low, has_one}
use Rattle.engine_steps.proofs.Refusals.{refused_waits}
use Rattle.engine_steps.proofs.Steps.{flight_at}
use Rattle.engine_steps.proofs.Wakes.{unready}

no_operand : (g : Input) (t : Table) (j c : ℕ) → has_operands g t j c ≡ false → can_issue g t j c ≡ false
unfolding can_issue can_start
no_operand g t j c none = rw none (and_false (nat_lt (t j).dispatch c))
  where
    and_false : (b : Bool) → (b && false) ≡ false
    and_false true = refl
    and_false false = refl

-- row k waits, and no class that is not refused has it among the ready rows
passed : (g : Input) (xs : List Times) (w : Wakeup) (front head c refused k : ℕ) → AreAwake g xs w front head c none_out → AllLater w.agenda c → AreRefused g.machine (taken_now g c xs) c refused
    → ((class : ℕ) → class < 64 → in_word refused class ≡ false → has_row w.ready class k ≡ false) → front ≤ k → k < head → (g.row k).reserved ≡ false → (times xs k).issue ≡ never → can_issue g (now g c xs) k c ≡ false
passed g xs w front head c refused k a later r none lo hi free waits = by_time (ready_from g (recorded g xs) k) refl
  where
    of_class : has_row w.ready (class_of (g.row k).uses) k ≡ true → can_issue g (now g c xs) k c ≡ false
    of_class has = elim (cases_Bool (in_word refused (class_of (g.row k).uses))) [
      | inr out ↦ absurd (both_ways _ (none (class_of (g.row k).uses) (class_low (g.row k).uses) out) has)
      | inl in_it ↦ (
          let ne : class_of (g.row k).uses ≡ 63 → ⊥ = λ e. both_ways _ r.others (subst (λ q. in_word refused q ≡ true) e in_it) in
          let one : HasOneUse (g.row k) (class_of (g.row k).uses) = has_one (g.row k) (g.row k).uses refl ne in
          refused_waits g c k (class_of (g.row k).uses) xs one (r.none (class_of (g.row k).uses) in_it))
    ]

    by_time : (o : Option ℕ) → ready_from g (recorded g xs) k ≡ o → can_issue g (now g c xs) k c ≡ false
    by_time None is = no_operand g (now g c xs) k c (unready g xs k c None is (λ t e. nothing t e))
      where
        nothing : (t : ℕ) → None ≡ Some t → c < t
        nothing t e = cc
    by_time (Some t) is = elim (a.ready k t lo hi refl (record { free = free; waits = waits; operands = is })) [
      | inl p ↦ of_class p.1
      | inr p ↦ no_operand g (now g c xs) k c (unready g xs k c (Some t) is (λ s e. subst (λ q. c < q) (some_is t s e) (later k t p)))
    ]
      where
        some_is : (x y : ℕ) → Some x ≡ Some y → x ≡ y
        some_is x y e = cc

-- so it is with all rows from one on, below another
passes : (g : Input) (f : Flight) (c refused a n : ℕ) → IsFlight g f c (at g c 1 a) → f.front ≤ a → a + n ≤ f.head → AreRefused g.machine (taken_now g c f.table.items) c refused
    → ((class k : ℕ) → class < 64 → in_word refused class ≡ false → a ≤ k → k < a + n → has_row f.wakeup.ready class k ≡ false) → IsState g (at g c 1 (a + n)) f.table.items
passes g f c refused a zero h lo hi r none = subst (λ i. IsState g (at g c 1 i) f.table.items) (let e : a ≡ a + 0 = omega arith in e) h.state
passes g f c refused a (suc n) h lo hi r none =
    let before : IsState g (at g c 1 (a + n)) f.table.items = passes g f c refused a n h lo (omega (arith, hi)) r (λ class k low out le lt. none class k low out le (omega (arith, lt))) in
    subst (λ i. IsState g (at g c 1 i) f.table.items) (let e : a + n + 1 ≡ a + suc n = omega arith in e)
    (issue_keeps g c (a + n) f.table.items before (omega (arith, hi, h.flow.within))
    (λ free waits. passed g f.table.items f.wakeup f.front f.head c refused (a + n) h.awake h.later r (λ class low out. none class (a + n) low out (omega arith) (omega arith)) (omega (arith, lo)) (omega (arith, hi)) free waits))

pub selects : (g : Input) (f : Flight) (c refused a b : ℕ) → IsFlight g f c (at g c 1 a) → f.front ≤ a → a ≤ b → b ≤ f.head → AreRefused g.machine (taken_now g c f.table.items) c refused
    → ((class k : ℕ) → class < 64 → in_word refused class ≡ false → a ≤ k → k < b → has_row f.wakeup.ready class k ≡ false) → IsFlight g f c (at g c 1 b)
selects g f c refused a b h lo le hi r none =
    let sum : a + (b - a) ≡ b = omega (arith, le) in
    flight_at g f c (at g c 1 a) (at g c 1 b) h (subst (λ i. IsState g (at g c 1 i) f.table.items) sum
    (passes g f c refused a (b - a) h lo (omega (arith, sum, hi)) r (λ class k low out from lt. none class k low out from (omega (arith, lt, sum)))))
