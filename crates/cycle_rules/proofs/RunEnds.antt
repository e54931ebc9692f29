-- Every run ends within the bound: in each cycle before the end, some of what its rows have left is used up.
use Rattle.std.proofs.Common.{zero, suc, ◌≡◌, ℕ, ◌+◌, ◌-◌, ◌<◌, ◌≤◌, ◌⊎◌, inl, inr, List, [], ◌∷◌, length, map, arith, ap, subst, refl, Bool, true, false, not, add-one}
use Rattle.std.specs.Prelude.{nat_lt, nat_eq, if◌then◌else◌, Option, Some, None, is_some}
use Rattle.std.proofs.lemmas.Bool.Decides.{nat_tests}
use Rattle.std.proofs.lemmas.Bool.{cases_Bool, cases_lt, eqb-true, and_from, not_from_false}
use Rattle.machine_model.specs.Meaning.{MachineMeaning}
use Rattle.machine_model.specs.Valid.{IsValidMachine}
use Rattle.cycle_rules.specs.Below.{sum_below, all_below}
use Rattle.cycle_rules.specs.CycleBound.{most_lag, reach, cycles_of, cycle_bound}
use Rattle.cycle_rules.specs.Bind.{IsBoundBody, AreBoundRows, row_of}
use Rattle.cycle_rules.specs.Events.{events, cycle_or, in_cycle, may_fall, rules_of, run_below, retired_below}
use Rattle.cycle_rules.specs.Issue.{can_start, can_issue}
use Rattle.cycle_rules.specs.Row.{Input, Table, input, times, phase, uops_of}
use Rattle.cycle_rules.specs.Run.{IsRun, IsRunOf, total_of}
use Rattle.cycle_rules.specs.Schedule.{Fall, Known, event, IsSchedule, made}
use Rattle.cycle_rules.specs.declared.times.Times.{Times}
use Rattle.cycle_rules.specs.declared.bound.Bound.{Bound}
use Rattle.cycle_rules.proofs.AllOver.{IsOver, IsReleased, over_can_start, over_can_dispatch, over_can_issue, over_can_retire}
use Rattle.cycle_rules.proofs.BoundRows.{body_is_bound, input_is_bound}
use Rattle.cycle_rules.proofs.Counts.{count_full}
use Rattle.cycle_rules.proofs.Exists.{schedule_exists}
use Rattle.cycle_rules.proofs.Falls.{at_event}
use Rattle.cycle_rules.proofs.Quiet.{cycle_of, issue_of, phase_small, seen_early, seen_late, falls_by, retires_late, issues_late}
use Rattle.cycle_rules.proofs.RunBelow.{below_is_run, below_is_low}
use Rattle.cycle_rules.proofs.Rows.{phase_reserved, phase_free}
use Rattle.cycle_rules.proofs.Sums.{sum_less, sum_same, sum_above}
use Rattle.cycle_rules.proofs.Tests.{all_holds}

-- What is left of a row's part of the bound at the start of a cycle

-- of an event that comes with some cycles after it
abbrev part : ℕ → ℕ → ℕ → ℕ
part c event after = if nat_lt event c then event + after - c else 1 + after

-- of the cycles for which a row holds its units
abbrev held : ℕ → ℕ → ℕ → ℕ
held c issue reach = if nat_lt issue c then issue + reach - c else reach

abbrev carry : Input → ℕ → ℕ
carry g j = cycles_of (uops_of g j) g.machine.limits.width

left_of : Input → ℕ → Known (List ℕ) → ℕ → ℕ → ℕ
left_of g bound v c j = part c (cycle_of g bound v 2 j) (carry g j)
    + part c (issue_of g bound v j) ((g.row j).latency + most_lag g.machine + 1)
    + held c (issue_of g bound v j) (reach (g.row j).uses)
    + part c (cycle_of g bound v 0 j) 0

left : Input → ℕ → Known (List ℕ) → ℕ → ℕ
left g bound v c = sum_below g.rows (left_of g bound v c)

part_le : (c e a : ℕ) → part (c + 1) e a ≤ part c e a
part_le c e a = grind (arith, nat_tests)

held_le : (c i r : ℕ) → held (c + 1) i r ≤ held c i r
held_le c i r = grind (arith, nat_tests)

left_le : (g : Input) (bound : ℕ) (v : Known (List ℕ)) (c k : ℕ) → left_of g bound v (c + 1) k ≤ left_of g bound v c k
unfolding left_of
left_le g bound v c k = omega (arith, part_le c (cycle_of g bound v 2 k) (carry g k), part_le c (issue_of g bound v k) ((g.row k).latency + most_lag g.machine + 1), held_le c (issue_of g bound v k) (reach (g.row k).uses), part_le c (cycle_of g bound v 0 k) 0)

-- an event that does not come in a cycle, and whose cycles are used up
part_same : (c e a : ℕ) → part (c + 1) e a ≡ part c e a → (e ≡ c → ⊥) × (e < c → e + a ≤ c)
part_same c e a same = (λ now. absurd (grind (arith, nat_tests, same, now)), λ early. grind (arith, nat_tests, same, early))

held_same : (c i r : ℕ) → held (c + 1) i r ≡ held c i r → i < c → i + r ≤ c
held_same c i r same early = grind (arith, nat_tests)

-- a row to which nothing happens in a cycle, and of which nothing is under way
record QuietRow (g : Input) (bound : ℕ) (v : Known (List ℕ)) (c k : ℕ) : Type 0 where
  no_dispatch : cycle_of g bound v 2 k ≡ c → ⊥
  carried : cycle_of g bound v 2 k < c → cycle_of g bound v 2 k + carry g k ≤ c
  no_issue : issue_of g bound v k ≡ c → ⊥
  ready : issue_of g bound v k < c → issue_of g bound v k + ((g.row k).latency + most_lag g.machine + 1) ≤ c
  released : issue_of g bound v k < c → issue_of g bound v k + reach (g.row k).uses ≤ c
  no_retire : cycle_of g bound v 0 k ≡ c → ⊥

quiet_row : (g : Input) (bound : ℕ) (v : Known (List ℕ)) (c k : ℕ) → left_of g bound v (c + 1) k ≡ left_of g bound v c k → QuietRow g bound v c k
unfolding left_of
quiet_row g bound v c k same =
    let after : ℕ = (g.row k).latency + most_lag g.machine + 1 in
    let hold : ℕ = reach (g.row k).uses in
    let d : part (c + 1) (cycle_of g bound v 2 k) (carry g k) ≤ part c (cycle_of g bound v 2 k) (carry g k) = part_le c (cycle_of g bound v 2 k) (carry g k) in
    let i : part (c + 1) (issue_of g bound v k) after ≤ part c (issue_of g bound v k) after = part_le c (issue_of g bound v k) after in
    let h : held (c + 1) (issue_of g bound v k) hold ≤ held c (issue_of g bound v k) hold = held_le c (issue_of g bound v k) hold in
    let r : part (c + 1) (cycle_of g bound v 0 k) 0 ≤ part c (cycle_of g bound v 0 k) 0 = part_le c (cycle_of g bound v 0 k) 0 in
    let ds : (cycle_of g bound v 2 k ≡ c → ⊥) × (cycle_of g bound v 2 k < c → cycle_of g bound v 2 k + carry g k ≤ c) = part_same c (cycle_of g bound v 2 k) (carry g k) (omega (arith, same, d, i, h, r)) in
    let is : (issue_of g bound v k ≡ c → ⊥) × (issue_of g bound v k < c → issue_of g bound v k + after ≤ c) = part_same c (issue_of g bound v k) after (omega (arith, same, d, i, h, r)) in
    let rs : (cycle_of g bound v 0 k ≡ c → ⊥) × (cycle_of g bound v 0 k < c → cycle_of g bound v 0 k + 0 ≤ c) = part_same c (cycle_of g bound v 0 k) 0 (omega (arith, same, d, i, h, r)) in
    record {
      no_dispatch = ds.0;
      carried = ds.1;
      no_issue = is.0;
      ready = is.1;
      released = held_same c (issue_of g bound v k) hold (omega (arith, same, d, i, h, r));
      no_retire = rs.0;
    }

-- A quiet cycle

-- a row that retired before is over, as it is seen in a quiet cycle
old_row : (g : Input) (bound : ℕ) (v : Known (List ℕ)) (p i c m : ℕ) → IsSchedule (rules_of g) (events g) bound v → c < bound → m < g.rows → QuietRow g bound v c m → cycle_of g bound v 0 m < c
    → IsOver g (in_cycle g c (at_event g v p i c)) c m
old_row g bound v p i c m h low lt quiet old =
    let retire : issue_of g bound v m + (g.row m).latency < cycle_of g bound v 0 m = retires_late g bound v m h lt (omega arith) in
    let dispatch : cycle_of g bound v 2 m ≤ issue_of g bound v m = issues_late g bound v m h lt (omega (arith, retire)) in
    let see_d : _ = seen_early g bound v p i c 2 m (omega arith) lt low (omega (arith, retire, dispatch)) in
    let see_i : _ = seen_early g bound v p i c (phase (g.row m)) m (phase_small g m) lt low (omega (arith, retire)) in
    let see_r : _ = seen_early g bound v p i c 0 m (omega arith) lt low old in
    record {
      dispatched = omega (arith, see_d, retire, dispatch);
      carried = omega (arith, see_d, quiet.carried (omega (arith, retire, dispatch)));
      issued = omega (arith, see_i, retire);
      completed = omega (arith, see_i, retire);
      ready = omega (arith, see_i, quiet.ready (omega (arith, retire)));
      retired = omega (arith, see_r, old);
    }

released_row : (g : Input) (bound : ℕ) (v : Known (List ℕ)) (p i c m : ℕ) → p < 3 → i < g.rows → c < bound → m < g.rows → QuietRow g bound v c m → IsReleased g (in_cycle g c (at_event g v p i c)) c m
released_row g bound v p i c m three lt_i low lt quiet issued = elim (cases_lt (issue_of g bound v m) c) [
  | inl early ↦ omega (arith, seen_early g bound v p i c (phase (g.row m)) m (phase_small g m) lt low early, quiet.released early)
  | inr not_early ↦ (let late : c < issue_of g bound v m = grind (arith, not_early, quiet.no_issue) in
      absurd (omega (arith, seen_late g bound v p i c (phase (g.row m)) m three lt_i (phase_small g m) lt late, issued)))
]

-- the oldest row that has not retired before a cycle
oldest : (f : ℕ → ℕ) (c n : ℕ) → ((m : ℕ) → m < n → f m < c) ⊎ ((k : ℕ) × (k < n) × (c ≤ f k) × ((m : ℕ) → m < k → f m < c))
oldest f c zero = inl (λ m lt. absurd (omega arith))
oldest f c (suc n) = go (oldest f c n)
  where
    go : ((m : ℕ) → m < n → f m < c) ⊎ ((k : ℕ) × (k < n) × (c ≤ f k) × ((m : ℕ) → m < k → f m < c))
        → ((m : ℕ) → m < suc n → f m < c) ⊎ ((k : ℕ) × (k < suc n) × (c ≤ f k) × ((m : ℕ) → m < k → f m < c))
    go (inr (k, lt, h, old)) = inr (k, omega arith, h, old)
    go (inl all) = elim (cases_lt (f n) c) [
      | inr late_one ↦ inr (n, omega arith, late_one, all)
      | inl done ↦ inl (λ m lt. elim (cases_lt m n) [ inl low ↦ all m low | inr last ↦ (let e : m ≡ n = omega arith in rw e done) ])
    ]

-- in a quiet cycle there is no row that has not retired
quiet_end : {numbers size : ℕ} (g : Input) (bound : ℕ) (v : Known (List ℕ)) (c : ℕ) → IsValidMachine numbers size g.machine → AreBoundRows g → IsSchedule (rules_of g) (events g) bound v
    → c < bound → ((m : ℕ) → m < g.rows → QuietRow g bound v c m) → (k : ℕ) → k < g.rows → c ≤ cycle_of g bound v 0 k → ((m : ℕ) → m < k → cycle_of g bound v 0 m < c) → ⊥
quiet_end g bound v c valid bound_row h low quiet k lt open_row old = elim (cases_lt (issue_of g bound v k) c) [
  | inl issued ↦ early 0 (omega arith) (quiet k lt).no_retire open_row
      (over_can_retire g (sight 0) c k (omega (arith, seen_early g bound v 0 k c (phase (g.row k)) k (phase_small g k) lt low issued, (quiet k lt).ready issued)) (λ m lm. (over 0 m lm).retired))
  | inr waits ↦ elim (cases_lt (cycle_of g bound v 2 k) c) [
    | inr behind_it ↦ early 2 (omega arith) (quiet k lt).no_dispatch behind_it (over_can_dispatch g (sight 2) c k valid (can 2 (omega arith)) (over 2))
    | inl dispatched ↦ elim (cases_Bool (g.row k).reserved) [
      | inl is ↦ (let both : issue_of g bound v k ≡ cycle_of g bound v 2 k = ap (λ p. cycle_of g bound v p k) (phase_reserved (g.row k) is) in omega (arith, both, waits, dispatched))
      | inr free ↦ (let one : phase (g.row k) ≡ 1 = phase_free (g.row k) free in
          let leaves : can_issue g (sight 1) k c ≡ true = over_can_issue g (sight 1) c k (omega (arith, seen_early g bound v 1 k c 2 k (omega arith) lt low dispatched, dispatched)) (can 1 (omega arith)) in
          early 1 (omega arith) (subst (λ p. cycle_of g bound v p k ≡ c → ⊥) one (quiet k lt).no_issue) (subst (λ p. c ≤ cycle_of g bound v p k) one waits)
          (and_from (not (g.row k).reserved) _ (not_from_false _ free) leaves))
    ]
  ]
]
  where
    sight : ℕ → Table
    sight p = in_cycle g c (at_event g v p k c)

    over : (p m : ℕ) → m < k → IsOver g (sight p) c m
    over p m lm = old_row g bound v p k c m h low (omega arith) (quiet m (omega arith)) (old m lm)

    can : (p : ℕ) → p < 3 → can_start g (sight p) k c ≡ true
    can p three = over_can_start g (sight p) c k (bound_row k lt) (λ m lm. (bound_row m (omega arith)).write) (λ m lm. released_row g bound v p k c m three lt low lm (quiet m lm)) (over p)

    early : (p : ℕ) → p < 3 → (cycle_of g bound v p k ≡ c → ⊥) → c ≤ cycle_of g bound v p k → may_fall g (at_event g v p k c) c p k ≡ true → ⊥
    early p three not_now late may = (let by : cycle_of g bound v p k ≤ c = falls_by g bound v p k c h three lt low may in not_now (omega (arith, by, late)))

-- each cycle before the end uses up something
progress : {numbers size : ℕ} (g : Input) (bound : ℕ) (v : Known (List ℕ)) (c : ℕ) → IsValidMachine numbers size g.machine → AreBoundRows g → IsSchedule (rules_of g) (events g) bound v
    → c < bound → (k : ℕ) → k < g.rows → c ≤ cycle_of g bound v 0 k → ((m : ℕ) → m < k → cycle_of g bound v 0 m < c) → left g bound v (c + 1) < left g bound v c
unfolding left
progress g bound v c valid bound_row h low k lt open_row old =
    sum_less g.rows (left_of g bound v (c + 1)) (left_of g bound v c) (λ m _. left_le g bound v c m) (go (all_below g.rows (λ m. nat_eq (left_of g bound v (c + 1) m) (left_of g bound v c m))) refl)
  where
    go : (b : Bool) → all_below g.rows (λ m. nat_eq (left_of g bound v (c + 1) m) (left_of g bound v c m)) ≡ b → all_below g.rows (λ m. nat_eq (left_of g bound v (c + 1) m) (left_of g bound v c m)) ≡ false
    go false e = e
    go true e = absurd (quiet_end g bound v c valid bound_row h low (λ m lm. quiet_row g bound v c m (eqb-true _ _ (all_holds g.rows _ e m lm))) k lt open_row old)

-- The bound

left_start : (g : Input) (bound : ℕ) (v : Known (List ℕ)) → left g bound v 0 + 1 ≡ cycle_bound g
unfolding left left_of cycle_bound
left_start g bound v = omega (arith, sum_same g.rows (left_of g bound v 0) (λ j. 4 + (g.row j).latency + most_lag g.machine + reach (g.row j).uses + carry g j) (λ k. grind (arith, nat_tests)))

open_left : (g : Input) (bound : ℕ) (v : Known (List ℕ)) (c k : ℕ) → k < g.rows → c ≤ cycle_of g bound v 0 k → 0 < left g bound v c
unfolding left left_of
open_left g bound v c k lt h = sum_above g.rows (left_of g bound v c) k lt (one (cycle_of g bound v 0 k) h)
  where
    one : (r : ℕ) → c ≤ r → 0 < part c (cycle_of g bound v 2 k) (carry g k) + part c (issue_of g bound v k) ((g.row k).latency + most_lag g.machine + 1) + held c (issue_of g bound v k) (reach (g.row k).uses) + part c r 0
    one r h = let p : part c r 0 ≡ 1 = grind (arith, nat_tests) in omega (arith, p)

-- what a run has used up by a cycle
spent : {numbers size : ℕ} (g : Input) (bound : ℕ) (v : Known (List ℕ)) → IsValidMachine numbers size g.machine → AreBoundRows g → IsSchedule (rules_of g) (events g) bound v
    → (c : ℕ) → c ≤ bound → ((m : ℕ) → m < g.rows → cycle_of g bound v 0 m < c) ⊎ (left g bound v c + c ≤ left g bound v 0)
spent g bound v valid bound_row h zero le = inr (omega arith)
spent g bound v valid bound_row h (suc c) le = elim (spent g bound v valid bound_row h c (omega arith)) [
  | inl all ↦ inl (λ m lt. omega (arith, all m lt))
  | inr used ↦ elim (oldest (cycle_of g bound v 0) c g.rows) [
    | inl all ↦ inl (λ m lt. omega (arith, all m lt))
    | inr (k, lt, open_row, old) ↦ inr (let falls : left g bound v (c + 1) < left g bound v c = progress g bound v c valid bound_row h (omega arith) k lt open_row old in rw (← add-one) (omega (arith, falls, used)))
  ]
]

-- every row retires a cycle and more below the bound
pub all_retire_low : {numbers size : ℕ} (g : Input) → IsValidMachine numbers size g.machine → AreBoundRows g → (m : ℕ) → m < g.rows
    → cycle_of g (cycle_bound g) (made (rules_of g) (events g) (cycle_bound g)) 0 m + 1 < cycle_bound g
all_retire_low g valid bound_row m lt =
    let bound : ℕ = cycle_bound g in
    let v : Known (List ℕ) = made (rules_of g) (events g) bound in
    let start : left g bound v 0 + 1 ≡ bound = left_start g bound v in
    elim (spent g bound v valid bound_row (schedule_exists (rules_of g) (events g) bound) (left g bound v 0) (omega (arith, start))) [
      | inl all ↦ omega (arith, all m lt, start)
      | inr used ↦ elim (cases_lt (cycle_of g bound v 0 m) (left g bound v 0)) [
        | inl early ↦ omega (arith, early, start)
        | inr late_one ↦ absurd (omega (arith, used, open_left g bound v (left g bound v 0) m lt late_one))
      ]
    ]

pub all_retire : (numbers size : ℕ) (g : Input) → IsValidMachine numbers size g.machine → AreBoundRows g → g.rows ≤ retired_below g (cycle_bound g)
all_retire numbers size g valid bound_row = count_full g.rows _ (λ m lt. some (made (rules_of g) (events g) (cycle_bound g) (event g.rows 0 m)) (all_retire_low g valid bound_row m lt))
  where
    some : (o : Option (Fall (List ℕ))) → cycle_or (cycle_bound g) o + 1 < cycle_bound g → is_some o ≡ true
    some None h = absurd (omega arith)
    some (Some f) h = refl

-- A body, repeated

last_low : (table : List Times) (bound : ℕ) → 0 < bound → ((j : ℕ) → j < length table → (times table j).retire < bound) → total_of table ≤ bound
last_low [] bound some h = omega arith
last_low (x ∷ xs) bound some h = omega (arith, h (length (x ∷ xs) - 1) (omega arith))

pub run_ends : (numbers size : ℕ) (m : MachineMeaning) (body : List Bound) (iterations : ℕ) → IsValidMachine numbers size m → IsBoundBody m body
    → (table : List Times) × IsRun m (map row_of body) iterations table × (total_of table ≤ cycle_bound (input m (map row_of body) iterations))
run_ends numbers size m body iterations valid is =
    let g : Input = input m (map row_of body) iterations in
    let bound : ℕ = cycle_bound g in
    let rows : AreBoundRows g = input_is_bound m body iterations (body_is_bound numbers size m body valid is) in
    let all : g.rows ≤ retired_below g bound = all_retire numbers size g valid rows in
    let run : IsRunOf g (run_below g bound) = below_is_run g bound all in
    let low : total_of (run_below g bound) ≤ bound = last_low (run_below g bound) bound (omega (arith, left_start g 0 (λ e. None))) (λ j lt. below_is_low g bound all j (omega (arith, lt, run.rows))) in
    (run_below g bound, run, low)
