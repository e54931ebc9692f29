-- The engine from key to key.
use Rattle.std.proofs.Common.{◌≡◌, ℕ, ◌+◌, ◌<◌, ◌≤◌, inl, inr, List, length, set, arith, sym, ◌∙◌, ap, subst, refl, Bool, true, false, ◌&&◌, ◌||◌, not}
use Rattle.std.specs.Prelude.{nat_lt, nat_eq, is_some, if◌then◌else◌}
use Rattle.std.proofs.lemmas.Bool.Decides.{nat_tests}
use Rattle.std.proofs.lemmas.Bool.{cases_lt, cases_eq, ltb-true}
use Rattle.cycle_rules.proofs.Falls.{first_true, second_true}
use Rattle.machine_model.specs.Meaning.{MachineMeaning}
use Rattle.cycle_rules.specs.Bind.{row_of, AreUses}
use Rattle.cycle_rules.specs.Row.{Row, Input, Table, times}
use Rattle.cycle_rules.specs.Pick.{pick, pick_units}
use Rattle.cycle_rules.specs.Dispatch.{has_room, follows, fits_group, fits_reorder, fits_registers, fits_loads, fits_stores, fits_buffers, can_dispatch}
use Rattle.cycle_rules.proofs.Sees.{choose_true, choose_false}
use Rattle.cycle_rules.specs.Issue.{has_operands, may_access, can_start, can_issue}
use Rattle.cycle_rules.specs.Retire.{can_retire}
use Rattle.cycle_rules.specs.declared.bound.Bound.{Bound}
use Rattle.cycle_rules.specs.declared.times.Times.{Times}
use Rattle.issue_queues.specs.Queues.{IsNaming}
use Rattle.resource_units.specs.Kept.{HasUses}
use Rattle.engine_state.specs.State.{never, now, taken_now, at, IsWritten, IsState}
use Rattle.engine_state.specs.Flight.{IsFlow, retired_in}
use Rattle.engine_state.proofs.State.{state_phase, state_cycle, times_set_same, times_set_other}
use Rattle.engine_state.proofs.Reading.{now_issue, issued_by}
use Rattle.engine_state.proofs.Flow.{retire_tie, none_retires, retire_first, retire_rest, issue_first, issue_rest, dispatch_first, dispatch_rest, dispatch_in_order, retire_issued}
use Rattle.engine_steps.specs.Others.{fits_memory, enters}
use Rattle.engine_steps.specs.Flight.{IsFlight}
use Rattle.engine_steps.specs.declared.flight.Flight.{Flight}

-- at another key with the same table
pub flight_at : (g : Input) (f : Flight) (c k l : ℕ) → IsFlight g f c k → IsState g l f.table.items → IsFlight g f c l
flight_at g f c k l h state = record {
  ranges = h.ranges;
  state = state;
  flow = h.flow;
  completed = h.completed;
  group = h.group;
  width = h.width;
  cycle_is = h.cycle_is;
  rob = h.rob;
  files = h.files;
  queues = h.queues;
  memory = h.memory;
  awake = h.awake;
  later = h.later;
}

pub flight_key : (g : Input) (f : Flight) (c k l : ℕ) → k ≡ l → IsFlight g f c k → IsFlight g f c l
flight_key g f c k l e h = subst (IsFlight g f c) e h

-- The rows of the body

-- the uses of a row can be met
pub can_use : (m : MachineMeaning) (b : Bound) (row : Row) → IsNaming m b → row_of b ≡ row → AreUses m row.uses → HasUses m b
can_use m b row h is uses = record { count = h.few; uses = subst (λ (x : Row). AreUses m x.uses) (sym is) uses }

-- The beginnings and the ends of the phases

pub retire_told : (g : Input) (c front head count width : ℕ) (v : Times) (xs : List Times) → IsState g (at g c 0 front) xs → IsFlow g xs front head → front < head → v ≡ times xs front → count ≡ retired_in xs c front → width ≡ g.machine.limits.retire
    → (not (nat_eq v.issue never) && nat_lt v.complete c && (nat_eq width 0 || nat_lt count width)) ≡ (nat_lt front head && can_retire g (now g c xs) front c)
unfolding has_room
retire_told g c front head count width v xs s flow lt is counted same =
    let test : nat_lt front head ≡ true = grind (arith, nat_tests, lt) in
    rw (test, is, same) (retire_tie g c front head count xs s flow (omega (arith, lt, flow.within)) counted)

and_false : (a b : Bool) → (a && b) ≡ false → a ≡ true → b ≡ false
and_false a b e is = cc

pub retires_first : (g : Input) (f : Flight) (c : ℕ) → IsFlight g f c (at g c 0 0) → IsFlight g f c (at g c 0 f.front)
retires_first g f c h = flight_at g f c (at g c 0 0) (at g c 0 f.front) h (retire_first g c f.front f.head f.table.items h.flow h.state)

pub retires_no_more : (g : Input) (f : Flight) (c : ℕ) → IsFlight g f c (at g c 0 f.front) → (nat_lt f.front f.head && can_retire g (now g c f.table.items) f.front c) ≡ false → IsFlight g f c (at g c 1 0)
retires_no_more g f c h stop = flight_at g f c (at g c 0 f.front) (at g c 1 0) h (state_phase g c 0 f.table.items (retire_rest g c f.front f.head f.table.items h.flow refused h.state))
  where
    refused : f.front < g.rows → can_retire g (now g c f.table.items) f.front c ≡ false
    refused lt = elim (cases_lt f.front f.head) [
      | inl low ↦ and_false (nat_lt f.front f.head) (can_retire g (now g c f.table.items) f.front c) stop (grind (arith, nat_tests, low))
      | inr high ↦ none_retires g c (at g c 0 f.front) f.front f.head f.table.items h.state h.flow high lt
    ]

pub issues_first : (g : Input) (f : Flight) (c : ℕ) → IsFlight g f c (at g c 1 0) → IsFlight g f c (at g c 1 f.front)
issues_first g f c h = flight_at g f c (at g c 1 0) (at g c 1 f.front) h (issue_first g c f.front f.head f.table.items h.flow h.state)

pub issues_no_more : (g : Input) (f : Flight) (c j : ℕ) → j ≡ f.head → IsFlight g f c (at g c 1 j) → IsFlight g f c (at g c 2 0)
issues_no_more g f c j e h = flight_at g f c (at g c 1 j) (at g c 2 0) h (state_phase g c 1 f.table.items (issue_rest g c f.front f.head f.table.items h.flow (subst (λ k. IsState g (at g c 1 k) f.table.items) e h.state)))

pub dispatches_first : (g : Input) (f : Flight) (c : ℕ) → IsFlight g f c (at g c 2 0) → IsFlight g f c (at g c 2 f.head)
dispatches_first g f c h = flight_at g f c (at g c 2 0) (at g c 2 f.head) h (dispatch_first g c f.front f.head f.table.items h.flow h.state)

-- behind the last dispatch
pub dispatches_no_more : (g : Input) (f : Flight) (c : ℕ) → IsFlight g f c (at g c 2 f.head) → (nat_lt f.head g.rows && can_dispatch g (now g c f.table.items) f.head c) ≡ false → IsState g (at g c 2 g.rows) f.table.items
dispatches_no_more g f c h stop = dispatch_rest g c f.front f.head f.table.items h.flow
    (λ lt. and_false (nat_lt f.head g.rows) (can_dispatch g (now g c f.table.items) f.head c) stop (grind (arith, nat_tests, lt))) h.state

pub next_cycle : (g : Input) (c : ℕ) (xs : List Times) → IsState g (at g c 2 g.rows) xs → IsState g (at g (c + 1) 0 0) xs
next_cycle g c xs s = state_cycle g c xs s

-- What the parts tell is whether a row may

-- a row that has retired has completed
pub done_by : (g : Input) (c p j front head k : ℕ) (xs : List Times) → IsState g (at g c p j) xs → IsFlow g xs front head → ((i : ℕ) → i < front → (times xs i).complete ≤ c) → k < front → (now g c xs k).complete ≤ c
done_by g c p j front head k xs s flow done lt =
    let low : k < g.rows = omega (arith, lt, flow.order, flow.within) in
    let ne : (times xs k).issue ≡ never → ⊥ = flow.issued k lt in
    let test : nat_eq (times xs k).issue never ≡ false = grind (arith, nat_tests, ne) in
    let issue : (now g c xs k).issue ≡ (times xs k).issue = now_issue g c xs k low (s.kept k low) ∙ rw test refl in
    let complete : (times xs k).complete ≡ (times xs k).issue + (g.row k).latency = (s.kept k low).complete ne in
    omega (arith, issue, complete, done k lt)

-- the units that a row picks, by the machine and the row that are at hand
pub picked : (g : Input) (c j : ℕ) (xs : List Times) (m : MachineMeaning) (row : Row) → m ≡ g.machine → row ≡ g.row j → pick_units m (taken_now g c xs) c row.uses ≡ pick g (now g c xs) j c
unfolding pick
picked g c j xs m row a b = rw (a, b) refl

pub start_told : (g : Input) (t : Table) (j c : ℕ) (operands memory found : Bool) → operands ≡ has_operands g t j c → memory ≡ may_access g t j c → found ≡ is_some (pick g t j c) → (operands && memory && found) ≡ can_start g t j c
unfolding can_start
start_told g t j c operands memory found a b d = rw (a, b, d) refl

pub start_found : (g : Input) (t : Table) (j c : ℕ) → can_start g t j c ≡ true → is_some (pick g t j c) ≡ true
unfolding can_start
start_found g t j c e = second_true _ _ e

pub start_operands : (g : Input) (t : Table) (j c : ℕ) → can_start g t j c ≡ true → has_operands g t j c ≡ true
unfolding can_start
start_operands g t j c e = first_true _ _ (first_true _ _ e)

pub start_access : (g : Input) (t : Table) (j c : ℕ) → can_start g t j c ≡ true → may_access g t j c ≡ true
unfolding can_start
start_access g t j c e = second_true _ _ (first_true _ _ e)

pub issue_start : (g : Input) (t : Table) (j c : ℕ) → can_issue g t j c ≡ true → can_start g t j c ≡ true
unfolding can_issue
issue_start g t j c e = second_true _ _ e

-- a row does not issue in the cycle of its dispatch
pub issue_early : (g : Input) (t : Table) (j c dispatch : ℕ) → (t j).dispatch ≡ dispatch → c ≤ dispatch → can_issue g t j c ≡ false
unfolding can_issue
issue_early g t j c dispatch is le = let test : nat_lt (t j).dispatch c ≡ false = grind (arith, nat_tests, is, le) in rw test refl

pub issue_late : (g : Input) (t : Table) (j c dispatch : ℕ) → (t j).dispatch ≡ dispatch → dispatch < c → can_start g t j c ≡ can_issue g t j c
unfolding can_issue
issue_late g t j c dispatch is lt = let test : nat_lt (t j).dispatch c ≡ true = grind (arith, nat_tests, is, lt) in rw test refl

pub dispatch_enters : (g : Input) (t : Table) (j c : ℕ) → can_dispatch g t j c ≡ true → enters g t j c ≡ true
unfolding can_dispatch
dispatch_enters g t j c e = second_true _ _ e

pub dispatch_memory : (g : Input) (t : Table) (j c : ℕ) → can_dispatch g t j c ≡ true → fits_memory g t j c ≡ true
unfolding can_dispatch
dispatch_memory g t j c e =
    let five : (follows (λ k. (t k).dispatch) j c && fits_group g t j c && fits_reorder g t j c && fits_registers g t j c && fits_loads g t j c && fits_stores g t j c) ≡ true = first_true _ _ e in
    let four : (follows (λ k. (t k).dispatch) j c && fits_group g t j c && fits_reorder g t j c && fits_registers g t j c && fits_loads g t j c) ≡ true = first_true _ _ five in
    let loads : fits_loads g t j c ≡ true = second_true _ _ four in
    let stores : fits_stores g t j c ≡ true = second_true _ _ five in
    rw (loads, stores) refl

pub dispatch_starts : (g : Input) (t : Table) (j c : ℕ) → can_dispatch g t j c ≡ true → (g.row j).reserved ≡ true → can_start g t j c ≡ true
dispatch_starts g t j c e is = sym (choose_true (g.row j).reserved (can_start g t j c) (fits_buffers g t j c) is) ∙ dispatch_enters g t j c e

pub dispatch_buffers : (g : Input) (t : Table) (j c : ℕ) → can_dispatch g t j c ≡ true → (g.row j).reserved ≡ false → fits_buffers g t j c ≡ true
dispatch_buffers g t j c e is = sym (choose_false (g.row j).reserved (can_start g t j c) (fits_buffers g t j c) is) ∙ dispatch_enters g t j c e

pub enters_reserved : (g : Input) (t : Table) (j c : ℕ) → (g.row j).reserved ≡ true → can_start g t j c ≡ enters g t j c
enters_reserved g t j c is = sym (choose_true (g.row j).reserved (can_start g t j c) (fits_buffers g t j c) is)

pub enters_free : (g : Input) (t : Table) (j c : ℕ) → (g.row j).reserved ≡ false → fits_buffers g t j c ≡ enters g t j c
enters_free g t j c is = sym (choose_false (g.row j).reserved (can_start g t j c) (fits_buffers g t j c) is)

-- a time that is not known is read as one of the next cycle
pub issue_ahead : (g : Input) (c k : ℕ) (xs : List Times) → k < g.rows → IsWritten (g.row k) (times xs k) → (times xs k).issue ≡ never → (now g c xs k).issue ≡ c + 1
issue_ahead g c k xs lt kept none = now_issue g c xs k lt kept ∙ (let test : nat_eq (times xs k).issue never ≡ true = grind (arith, nat_tests, none) in rw test refl)

pub issue_known : (g : Input) (c k : ℕ) (xs : List Times) → k < g.rows → IsWritten (g.row k) (times xs k) → ((times xs k).issue ≡ never → ⊥) → (now g c xs k).issue ≡ (times xs k).issue
issue_known g c k xs lt kept ne = now_issue g c xs k lt kept ∙ (let test : nat_eq (times xs k).issue never ≡ false = grind (arith, nat_tests, ne) in rw test refl)

pub dispatch_tie : (g : Input) (c front head : ℕ) (xs : List Times) (group rob files memory rest : Bool) → IsState g (at g c 2 head) xs → IsFlow g xs front head → head < g.rows
    → group ≡ fits_group g (now g c xs) head c → rob ≡ fits_reorder g (now g c xs) head c → files ≡ fits_registers g (now g c xs) head c → memory ≡ fits_memory g (now g c xs) head c → rest ≡ enters g (now g c xs) head c
    → (group && rob && files && memory && rest) ≡ can_dispatch g (now g c xs) head c
unfolding can_dispatch
dispatch_tie g c front head xs group rob files memory rest s flow lt a b d m e =
    rw (dispatch_in_order g c front head xs s flow lt, ← a, ← b, ← d, m, ← e)
    (regroup group rob files (fits_loads g (now g c xs) head c) (fits_stores g (now g c xs) head c) rest)
  where
    regroup : (a b d l s x : Bool) → (a && b && d && (l && s) && x) ≡ (true && a && b && d && l && s && x)
    regroup true true true true s x = refl
    regroup true true true false s x = refl
    regroup true true false l s x = refl
    regroup true false d l s x = refl
    regroup false b d l s x = refl

-- A row that retires has issued and completed

pub record Retires (g : Input) (c j : ℕ) (xs : List Times) : Type 0 where
  pub issued : (times xs j).issue ≡ never → ⊥
  pub issue_now : (now g c xs j).issue ≤ c
  pub complete_now : (now g c xs j).complete < c
  pub completed : (times xs j).complete < c

retire_after : (g : Input) (t : Table) (j c : ℕ) → can_retire g t j c ≡ true → (t j).complete < c
unfolding can_retire
retire_after g t j c may = ltb-true (t j).complete c (first_true _ _ (first_true _ _ may))

pub retires : (g : Input) (c front head : ℕ) (xs : List Times) → IsState g (at g c 0 front) xs → IsFlow g xs front head → front < head → can_retire g (now g c xs) front c ≡ true → Retires g c front xs
retires g c front head xs s flow lt may =
    let low : front < g.rows = omega (arith, lt, flow.within) in
    let ne : (times xs front).issue ≡ never → ⊥ = retire_issued g c (at g c 0 front) front xs s low may in
    let test : nat_eq (times xs front).issue never ≡ false = grind (arith, nat_tests, ne) in
    let issue : (now g c xs front).issue ≡ (times xs front).issue = now_issue g c xs front low (s.kept front low) ∙ rw test refl in
    let complete : (times xs front).complete ≡ (times xs front).issue + (g.row front).latency = (s.kept front low).complete ne in
    let after : (now g c xs front).complete < c = retire_after g (now g c xs) front c may in
    record {
      issued = ne;
      issue_now = omega (arith, after);
      complete_now = after;
      completed = omega (arith, after, issue, complete);
    }

pub completed_next : (c front : ℕ) (xs ys : List Times) → ((k : ℕ) → k < front → (times xs k).complete ≤ c) → ((k : ℕ) → k < front → times ys k ≡ times xs k) → (times ys front).complete ≤ c → (k : ℕ) → k < front + 1 → (times ys k).complete ≤ c
completed_next c front xs ys old same last k lt = elim (cases_eq k front) [
  | inl here ↦ subst (λ i. (times ys i).complete ≤ c) (sym here) last
  | inr ne ↦ (let low : k < front = omega (arith, lt, ne) in subst (λ (t : Times). t.complete ≤ c) (sym (same k low)) (old k low))
]

-- the issue that is written is read in its cycle
pub issue_set : (g : Input) (c j : ℕ) (xs : List Times) (v : Times) → j < g.rows → length xs ≡ g.rows → IsWritten (g.row j) (times (set xs j v) j) → v.issue ≡ c → c < never → (now g c (set xs j v) j).issue ≡ c
issue_set g c j xs v lt long kept is low =
    let here : times (set xs j v) j ≡ v = times_set_same xs j v (omega (arith, lt, long)) in
    let issue : (times (set xs j v) j).issue ≡ c = ap (λ t. t.issue) here ∙ is in
    issue_known g c j (set xs j v) lt kept (λ n. omega (arith, n, issue, low)) ∙ issue

pub completed_stays : (c front j : ℕ) (xs : List Times) (v : Times) → ((k : ℕ) → k < front → (times xs k).complete ≤ c) → front ≤ j → (k : ℕ) → k < front → (times (set xs j v) k).complete ≤ c
completed_stays c front j xs v old le k lt = subst (λ (t : Times). t.complete ≤ c) (sym (times_set_other xs j k v (λ e. omega (arith, e, lt, le)))) (old k lt)

pub since_low : (b : Bool) (since c : ℕ) → since ≤ c → (if b then since else c) ≤ c
since_low true since c le = le
since_low false since c le = omega arith

-- a row that has retired has issued
pub issued_before : (g : Input) (c p j front head k : ℕ) (xs : List Times) → IsState g (at g c p j) xs → IsFlow g xs front head → p < 3 → j ≤ g.rows → k < front → (now g c xs k).issue ≤ c
issued_before g c p j front head k xs s flow three le lt =
    let low : k < g.rows = omega (arith, lt, flow.order, flow.within) in
    let same : (now g c xs k).issue ≡ (times xs k).issue = issue_known g c k xs low (s.kept k low) (flow.issued k lt) in
    omega (arith, same, issued_by g c p j xs k s three le low (flow.issued k lt))
