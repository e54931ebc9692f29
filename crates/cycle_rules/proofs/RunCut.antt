-- A run, cut off at a bound: what the rules give below the bound.
use Rattle.std.proofs.Common.{suc, ◌≡◌, ℕ, ◌+◌, ◌*◌, ◌<◌, ◌≤◌, inl, inr, List, [], arith, sym, ◌∙◌, ap, subst, refl, Bool, true, false}
use Rattle.std.specs.Prelude.{nat_lt, if◌then◌else◌, Option, Some, None, is_some}
use Rattle.std.proofs.Math.Nat.{mul-le-mul_right}
use Rattle.std.proofs.lemmas.Bool.{cases_lt, lt-ltb}
use Rattle.std.proofs.lemmas.Bool.Decides.{nat_tests}
use Rattle.cycle_rules.specs.Below.{count_below}
use Rattle.cycle_rules.specs.Schedule.{Fall, Known, Rules, key, if_before, seen, event, IsFirst, IsSchedule, made}
use Rattle.cycle_rules.specs.Row.{Input, Table, times}
use Rattle.cycle_rules.specs.Events.{events, rules_of, run_below, retired_below}
use Rattle.cycle_rules.specs.Run.{IsRunOf}
use Rattle.cycle_rules.specs.declared.times.Times.{Times}
use Rattle.cycle_rules.proofs.Counts.{count_same, count_full}
use Rattle.cycle_rules.proofs.Exists.{schedule_exists}
use Rattle.cycle_rules.proofs.OneRun.{above, within_above, run_schedule, table_unique}
use Rattle.cycle_rules.proofs.Rows.{event_below, event_of_row}
use Rattle.cycle_rules.proofs.RunBelow.{below_is_run}
use Rattle.cycle_rules.proofs.Sees.{event_rows}
use Rattle.cycle_rules.proofs.TableEvents.{event_in, events_of}
use Rattle.cycle_rules.proofs.Unique.{before_none, schedule_unique}

-- the events that fall below a bound
abbrev if_below : {P : Type 0} → ℕ → Option (Fall P) → Option (Fall P)
if_below bound None = None
if_below bound (Some f) = if nat_lt f.cycle bound then Some f else None

abbrev cut : {P : Type 0} → ℕ → Known P → Known P
cut bound v e = if_below bound (v e)

-- below the bound as much is seen of them
before_cut : {P : Type 0} (m bound c e d : ℕ) (o : Option (Fall P)) → c < bound → e < m → if_before m (key m c e) d (if_below bound o) ≡ if_before m (key m c e) d o
before_cut m bound c e d None lt low = refl
before_cut {P} m bound c e d (Some f) lt low = elim (cases_lt f.cycle bound) [
  | inl here ↦ (let is : nat_lt f.cycle bound ≡ true = grind (arith, nat_tests, here) in rw is refl)
  | inr gone ↦ (let none : nat_lt f.cycle bound ≡ false = grind (arith, nat_tests, gone) in
      let late : (suc c) * m ≤ f.cycle * m = mul-le-mul_right m (omega arith) in
      rw none (sym (before_none m (key m c e) d f (omega (arith, late)))))
]

seen_cut : {P : Type 0} (m bound c e : ℕ) (v : Known P) → c < bound → e < m → seen m (key m c e) (cut bound v) ≡ seen m (key m c e) v
seen_cut {P} m bound c e v lt low = λ i d. at_one d i
  where
    at_one : (d : ℕ) → seen m (key m c e) (cut bound v) d ≡ seen m (key m c e) v d
    at_one d = ap (λ o. if nat_lt d m then o else None) (before_cut m bound c e d (v d) lt low)

first_cut : {P : Type 0} (r : Rules P) (m bound high e : ℕ) (v : Known P) → bound ≤ high → e < m → (o : Option (Fall P)) → IsFirst r m high v e o → IsFirst r m bound (cut bound v) e (if_below bound o)
first_cut r m bound high e v le low None h = λ c lt. subst (λ s. r.allowed s c e ≡ false) (sym (seen_cut m bound c e v lt low)) (h c (omega arith))
first_cut {P} r m bound high e v le low (Some f) h = elim (cases_lt f.cycle bound) [
  | inl here ↦ (let is : nat_lt f.cycle bound ≡ true = grind (arith, nat_tests, here) in rw is (record {
    within = here;
    least = record {
      holds = subst (λ s. r.allowed s f.cycle e ≡ true) (sym (seen_cut m bound f.cycle e v here low)) h.least.holds;
      below = λ b lt. subst (λ s. r.allowed s b e ≡ false) (sym (seen_cut m bound b e v (omega arith) low)) (h.least.below b lt);
    };
    what = subst (λ s. f.what ≡ r.takes s f.cycle e) (sym (seen_cut m bound f.cycle e v here low)) h.what;
  }))
  | inr gone ↦ (let none : nat_lt f.cycle bound ≡ false = grind (arith, nat_tests, gone) in
      rw none (λ c lt. subst (λ s. r.allowed s c e ≡ false) (sym (seen_cut m bound c e v lt low)) (h.least.below c (omega arith))))
]

-- a schedule below a bound is one below each lower bound
schedule_cut : {P : Type 0} (r : Rules P) (m bound high : ℕ) (v : Known P) → bound ≤ high → IsSchedule r m high v → IsSchedule r m bound (cut bound v)
schedule_cut r m bound high v le h e low = first_cut r m bound high e v le low (v e) (h e low)

some_below : (bound : ℕ) (f : Fall (List ℕ)) → is_some (if_below bound (Some f)) ≡ nat_lt f.cycle bound
some_below bound f = choice (nat_lt f.cycle bound)
  where
    choice : (b : Bool) → is_some {T = Fall (List ℕ)} (if b then Some f else None) ≡ b
    choice true = refl
    choice false = refl

-- by the rules those rows of a run retire below a bound that do so in the run
pub retired_is : (g : Input) (bound : ℕ) (table : List Times) → IsRunOf g table → retired_below g bound ≡ count_below g.rows (λ j. nat_lt (times table j).retire bound)
retired_is g bound table run = count_same g.rows _ _ (λ j lt. ap is_some (same j lt) ∙ some_below bound (record { cycle = (t j).retire; what = [] }))
  where
    t : Table
    t = times table

    high : ℕ
    high = above g t + bound

    full : IsSchedule (rules_of g) (events g) high (events_of g t)
    full = run_schedule g t high (within_above g t high (omega arith)) (event_rows g t run.each)

    same : (j : ℕ) → j < g.rows → made (rules_of g) (events g) bound (event g.rows 0 j) ≡ if_below bound (event_in (g.row j) (t j) 0)
    same j lt = schedule_unique (rules_of g) (events g) bound (made (rules_of g) (events g) bound) (cut bound (events_of g t))
        (schedule_exists (rules_of g) (events g) bound) (schedule_cut (rules_of g) (events g) bound high (events_of g t) (omega arith) full)
        (event g.rows 0 j) (event_below g 0 j (omega arith) lt)
        ∙ ap (if_below bound) (event_of_row g t 0 j (omega arith) lt)

-- where all rows of a run retire below the bound, the rules give the run
pub run_is_below : (g : Input) (bound : ℕ) (table : List Times) → IsRunOf g table → ((j : ℕ) → j < g.rows → (times table j).retire < bound)
    → (g.rows ≤ retired_below g bound) × (run_below g bound ≡ table)
run_is_below g bound table run low =
    let all : g.rows ≤ retired_below g bound = subst (λ n. g.rows ≤ n) (sym (retired_is g bound table run)) (count_full g.rows _ (λ j lt. lt-ltb _ _ (low j lt))) in
    (all, table_unique g (run_below g bound) table (below_is_run g bound all) run)
