-- The rows in flight, as the events of a cycle come.
use Rattle.std.proofs.Common.{zero, suc, ◌≡◌, ℕ, ◌+◌, ◌-◌, ◌<◌, ◌≤◌, inl, inr, List, [], length, min, replicate, set, arith, sym, ◌∙◌, ap, subst, refl, add-zero, None, Bool, true, false, ◌&&◌, not}
use Rattle.std.specs.Prelude.{nat_lt, nat_eq}
use Rattle.std.proofs.lemmas.Bool.Decides.{nat_tests}
use Rattle.std.proofs.lemmas.Bool.{cases_lt, cases_eq}
use Rattle.std.proofs.lemmas.List.{get_or-replicate}
use Rattle.cycle_rules.specs.Schedule.{event}
use Rattle.cycle_rules.specs.Below.{count_below}
use Rattle.cycle_rules.specs.Row.{Input, Table, times, no_times, phase}
use Rattle.cycle_rules.specs.Events.{retired_below}
use Rattle.cycle_rules.specs.Dispatch.{has_room, follows, fits_group, fits_reorder, fits_registers, is_held, can_dispatch}
use Rattle.cycle_rules.specs.Issue.{can_issue}
use Rattle.cycle_rules.specs.Retire.{can_retire}
use Rattle.engine_state.specs.State.{never, recorded, now, or_ahead, at, IsState}
use Rattle.engine_state.specs.Flight.{IsFlow, retired_in}
use Rattle.cycle_rules.specs.declared.times.Times.{Times}
use Rattle.cycle_rules.proofs.Rows.{phase_reserved, phase_free}
use Rattle.cycle_rules.proofs.Falls.{first_true, second_true, retire_needs, leave_needs}
use Rattle.engine_state.proofs.State.{recorded_row, times_set_other, times_set_same}
use Rattle.cycle_rules.proofs.Sees.{choose_false}
use Rattle.engine_state.proofs.Turn.{retire_keeps, issue_keeps, dispatch_keeps, never_is_none, known_is_some}
use Rattle.engine_state.proofs.Reading.{retired_by, dispatched_by, now_retire, now_dispatch, now_issue, held_now, fell_before}
use Rattle.engine_state.proofs.Budget.{has_retired, retired_count, count_same, count_next, count_none}

not_true : (b : Bool) → (b ≡ true → ⊥) → b ≡ false
not_true true h = absurd (h refl)
not_true false h = refl

-- a time that is not recorded is read as one of the next cycle
ahead : (c time : ℕ) → time ≡ never → or_ahead c time ≡ c + 1
ahead c time e = let test : nat_eq time never ≡ true = grind (arith, nat_tests, e) in rw test refl

-- one key after another
over : (g : Input) (c p j n : ℕ) (xs : List Times) → ((k : ℕ) → j ≤ k → k < j + n → IsState g (at g c p k) xs → IsState g (at g c p (k + 1)) xs) → IsState g (at g c p j) xs → IsState g (at g c p (j + n)) xs
over g c p j zero xs one h = rw add-zero h
over g c p j (suc n) xs one h =
    let rest : IsState g (at g c p (j + n)) xs = over g c p j n xs (λ k le lt. one k le (omega (arith, lt))) h in
    let next : IsState g (at g c p (j + n + 1)) xs = one (j + n) (omega arith) (omega arith) rest in
    let sum : j + n + 1 ≡ j + suc n = omega arith in subst (λ k. IsState g (at g c p k) xs) sum next

pub over_rows : (g : Input) (c p j n : ℕ) (xs : List Times) → j ≤ n → ((k : ℕ) → j ≤ k → k < n → IsState g (at g c p k) xs → IsState g (at g c p (k + 1)) xs) → IsState g (at g c p j) xs → IsState g (at g c p n) xs
over_rows g c p j n xs le one h = let sum : j + (n - j) ≡ n = omega arith in subst (λ k. IsState g (at g c p k) xs) sum (over g c p j (n - j) xs (λ k ge lt. one k ge (omega (arith, lt, le))) h)

-- Rows that have had an event are passed over

pub retire_first : (g : Input) (c front head : ℕ) (xs : List Times) → IsFlow g xs front head → IsState g (at g c 0 0) xs → IsState g (at g c 0 front) xs
retire_first g c front head xs flow h = over_rows g c 0 0 front xs (omega arith) (λ k le lt s. retire_keeps g c k xs s (omega (arith, lt, flow.order, flow.within)) (λ n. absurd (flow.retired k lt n))) h

pub issue_first : (g : Input) (c front head : ℕ) (xs : List Times) → IsFlow g xs front head → IsState g (at g c 1 0) xs → IsState g (at g c 1 front) xs
issue_first g c front head xs flow h = over_rows g c 1 0 front xs (omega arith) (λ k le lt s. issue_keeps g c k xs s (omega (arith, lt, flow.order, flow.within)) (λ free n. absurd (flow.issued k lt n))) h

pub dispatch_first : (g : Input) (c front head : ℕ) (xs : List Times) → IsFlow g xs front head → IsState g (at g c 2 0) xs → IsState g (at g c 2 head) xs
dispatch_first g c front head xs flow h = over_rows g c 2 0 head xs (omega arith) (λ k le lt s. dispatch_keeps g c k xs s (omega (arith, lt, flow.within)) (λ n. absurd (flow.dispatched k lt n))) h

-- Where a row may not, no younger one may

after_ahead : (time : ℕ → ℕ) (c k : ℕ) → time k ≡ c + 1 → follows time (suc k) c ≡ false
unfolding follows
after_ahead time c k e = grind (arith, nat_tests, e)

retire_follows : (g : Input) (t : Table) (j c : ℕ) → can_retire g t j c ≡ true → follows (λ k. (t k).retire) j c ≡ true
unfolding can_retire
retire_follows g t j c e = second_true _ _ (first_true _ _ e)

dispatch_follows : (g : Input) (t : Table) (j c : ℕ) → can_dispatch g t j c ≡ true → follows (λ k. (t k).dispatch) j c ≡ true
unfolding can_dispatch
dispatch_follows g t j c e = first_true _ _ (first_true _ _ (first_true _ _ (first_true _ _ (first_true _ _ (first_true _ _ e)))))

clash : (b : Bool) → b ≡ true → b ≡ false → ⊥
clash b p q = cc

younger_retire : (g : Input) (c k : ℕ) (xs : List Times) → k < g.rows → (times xs k).retire ≡ never → can_retire g (now g c xs) (suc k) c ≡ false
younger_retire g c k xs lt none = not_true (can_retire g (now g c xs) (suc k) c) (λ e. clash _ (retire_follows g (now g c xs) (suc k) c e) (after_ahead (λ i. (now g c xs i).retire) c k (now_retire g c xs k lt ∙ ahead c _ none)))

younger_dispatch : (g : Input) (c k : ℕ) (xs : List Times) → k < g.rows → (times xs k).dispatch ≡ never → can_dispatch g (now g c xs) (suc k) c ≡ false
younger_dispatch g c k xs lt none = not_true (can_dispatch g (now g c xs) (suc k) c) (λ e. clash _ (dispatch_follows g (now g c xs) (suc k) c e) (after_ahead (λ i. (now g c xs i).dispatch) c k (now_dispatch g c xs k lt ∙ ahead c _ none)))

pub retire_rest : (g : Input) (c front head : ℕ) (xs : List Times) → IsFlow g xs front head → (front < g.rows → can_retire g (now g c xs) front c ≡ false) → IsState g (at g c 0 front) xs → IsState g (at g c 0 g.rows) xs
retire_rest g c front head xs flow refused h = over_rows g c 0 front g.rows xs (omega (arith, flow.order, flow.within)) (λ k le lt s. retire_keeps g c k xs s lt (λ n. may_not k le lt)) h
  where
    may_not : (k : ℕ) → front ≤ k → k < g.rows → can_retire g (now g c xs) k c ≡ false
    may_not k le lt = elim (cases_eq k front) [
      | inl here ↦ (let low : front < g.rows = omega (arith, lt, here) in subst (λ i. can_retire g (now g c xs) i c ≡ false) (sym here) (refused low))
      | inr ne ↦ (let before : suc (k - 1) ≡ k = omega arith in
          subst (λ i. can_retire g (now g c xs) i c ≡ false) before (younger_retire g c (k - 1) xs (omega arith) (flow.held (k - 1) (omega arith) (omega arith))))
    ]

pub dispatch_rest : (g : Input) (c front head : ℕ) (xs : List Times) → IsFlow g xs front head → (head < g.rows → can_dispatch g (now g c xs) head c ≡ false) → IsState g (at g c 2 head) xs → IsState g (at g c 2 g.rows) xs
dispatch_rest g c front head xs flow refused h = over_rows g c 2 head g.rows xs (omega (arith, flow.within)) (λ k le lt s. dispatch_keeps g c k xs s lt (λ n. may_not k le lt)) h
  where
    may_not : (k : ℕ) → head ≤ k → k < g.rows → can_dispatch g (now g c xs) k c ≡ false
    may_not k le lt = elim (cases_eq k head) [
      | inl here ↦ (let low : head < g.rows = omega (arith, lt, here) in subst (λ i. can_dispatch g (now g c xs) i c ≡ false) (sym here) (refused low))
      | inr ne ↦ (let before : suc (k - 1) ≡ k = omega arith in
          subst (λ i. can_dispatch g (now g c xs) i c ≡ false) before (younger_dispatch g c (k - 1) xs (omega arith) (flow.waiting (k - 1) (omega arith) (omega arith))))
    ]

-- a row that has not dispatched does not issue
pub issue_rest : (g : Input) (c front head : ℕ) (xs : List Times) → IsFlow g xs front head → IsState g (at g c 1 head) xs → IsState g (at g c 1 g.rows) xs
issue_rest g c front head xs flow h = over_rows g c 1 head g.rows xs (omega (arith, flow.within)) (λ k le lt s. issue_keeps g c k xs s lt (λ free n. not_true (can_issue g (now g c xs) k c) (λ e.
    leave_needs g (recorded g xs) k c e (recorded_row g xs 2 k (omega arith) lt ∙ never_is_none (times xs k).dispatch _ (flow.waiting k le lt))))) h

-- What an event of a row does to the rows in flight

pub flow_retires : (g : Input) (front head : ℕ) (xs : List Times) (v : Times) → IsFlow g xs front head → length xs ≡ g.rows → front < head
    → (v.retire ≡ never → ⊥) → v.dispatch ≡ (times xs front).dispatch → (v.issue ≡ never → ⊥) → IsFlow g (set xs front v) (front + 1) head
flow_retires g front head xs v flow long lt retire dispatch issue = record {
  order = omega (arith, lt);
  within = flow.within;
  retired = λ k low. elim (cases_eq k front) [
    | inl here ↦ subst (λ i. (times (set xs front v) i).retire ≡ never → ⊥) (sym here) (λ n. retire (sym (ap (λ t. t.retire) (mine)) ∙ n))
    | inr ne ↦ (λ n. flow.retired k (omega arith) (sym (ap (λ t. t.retire) (other k ne)) ∙ n))
  ];
  issued = λ k low. elim (cases_eq k front) [
    | inl here ↦ subst (λ i. (times (set xs front v) i).issue ≡ never → ⊥) (sym here) (λ n. issue (sym (ap (λ t. t.issue) (mine)) ∙ n))
    | inr ne ↦ (λ n. flow.issued k (omega arith) (sym (ap (λ t. t.issue) (other k ne)) ∙ n))
  ];
  held = λ k le low. ap (λ t. t.retire) (other k (omega (arith, le))) ∙ flow.held k (omega (arith, le)) low;
  dispatched = λ k low. elim (cases_eq k front) [
    | inl here ↦ subst (λ i. (times (set xs front v) i).dispatch ≡ never → ⊥) (sym here) (λ n. flow.dispatched front lt (sym dispatch ∙ sym (ap (λ t. t.dispatch) (mine)) ∙ n))
    | inr ne ↦ (λ n. flow.dispatched k low (sym (ap (λ t. t.dispatch) (other k ne)) ∙ n))
  ];
  waiting = λ k le low. ap (λ t. t.dispatch) (other k (omega (arith, le, lt))) ∙ flow.waiting k le low;
  unissued = λ k le low. ap (λ t. t.issue) (other k (omega (arith, le, lt))) ∙ flow.unissued k le low;
}
  where
    mine : times (set xs front v) front ≡ v
    mine = times_set_same xs front v (omega (arith, long, lt, flow.within))

    other : (k : ℕ) → (k ≡ front → ⊥) → times (set xs front v) k ≡ times xs k
    other k ne = times_set_other xs front k v ne

-- a row of those in flight changes, and its dispatch and retirement stay
pub flow_issues : (g : Input) (front head j : ℕ) (xs : List Times) (v : Times) → IsFlow g xs front head → length xs ≡ g.rows → front ≤ j → j < head
    → v.retire ≡ (times xs j).retire → v.dispatch ≡ (times xs j).dispatch → IsFlow g (set xs j v) front head
flow_issues g front head j xs v flow long ge lt retire dispatch = record {
  order = flow.order;
  within = flow.within;
  retired = λ k low n. flow.retired k low (sym (same_retire k) ∙ n);
  issued = λ k low n. flow.issued k low (sym (ap (λ t. t.issue) (times_set_other xs j k v (omega (arith, low, ge)))) ∙ n);
  held = λ k le low. same_retire k ∙ flow.held k le low;
  dispatched = λ k low n. flow.dispatched k low (sym (same_dispatch k) ∙ n);
  waiting = λ k le low. same_dispatch k ∙ flow.waiting k le low;
  unissued = λ k le low. ap (λ t. t.issue) (times_set_other xs j k v (omega (arith, le, lt))) ∙ flow.unissued k le low;
}
  where
    mine : times (set xs j v) j ≡ v
    mine = times_set_same xs j v (omega (arith, long, lt, flow.within))

    same_retire : (k : ℕ) → (times (set xs j v) k).retire ≡ (times xs k).retire
    same_retire k = elim (cases_eq k j) [
      | inl here ↦ subst (λ i. (times (set xs j v) i).retire ≡ (times xs i).retire) (sym here) (ap (λ t. t.retire) mine ∙ retire)
      | inr ne ↦ ap (λ t. t.retire) (times_set_other xs j k v ne)
    ]

    same_dispatch : (k : ℕ) → (times (set xs j v) k).dispatch ≡ (times xs k).dispatch
    same_dispatch k = elim (cases_eq k j) [
      | inl here ↦ subst (λ i. (times (set xs j v) i).dispatch ≡ (times xs i).dispatch) (sym here) (ap (λ t. t.dispatch) mine ∙ dispatch)
      | inr ne ↦ ap (λ t. t.dispatch) (times_set_other xs j k v ne)
    ]

pub flow_dispatches : (g : Input) (front head : ℕ) (xs : List Times) (v : Times) → IsFlow g xs front head → length xs ≡ g.rows → head < g.rows
    → (v.dispatch ≡ never → ⊥) → v.retire ≡ (times xs head).retire → IsFlow g (set xs head v) front (head + 1)
flow_dispatches g front head xs v flow long lt dispatch retire = record {
  order = omega (arith, flow.order);
  within = omega (arith, lt);
  retired = λ k low n. flow.retired k low (sym (ap (λ t. t.retire) (other k (omega (arith, low, flow.order)))) ∙ n);
  issued = λ k low n. flow.issued k low (sym (ap (λ t. t.issue) (other k (omega (arith, low, flow.order)))) ∙ n);
  held = λ k le low. elim (cases_eq k head) [
    | inl here ↦ subst (λ i. (times (set xs head v) i).retire ≡ never) (sym here) (ap (λ t. t.retire) mine ∙ retire ∙ flow.held head flow.order lt)
    | inr ne ↦ ap (λ t. t.retire) (other k ne) ∙ flow.held k le low
  ];
  dispatched = λ k low. elim (cases_eq k head) [
    | inl here ↦ subst (λ i. (times (set xs head v) i).dispatch ≡ never → ⊥) (sym here) (λ n. dispatch (sym (ap (λ t. t.dispatch) mine) ∙ n))
    | inr ne ↦ (λ n. flow.dispatched k (omega arith) (sym (ap (λ t. t.dispatch) (other k ne)) ∙ n))
  ];
  waiting = λ k le low. ap (λ t. t.dispatch) (other k (omega (arith, le))) ∙ flow.waiting k (omega (arith, le)) low;
  unissued = λ k le low. ap (λ t. t.issue) (other k (omega (arith, le))) ∙ flow.unissued k (omega (arith, le)) low;
}
  where
    mine : times (set xs head v) head ≡ v
    mine = times_set_same xs head v (omega (arith, long, lt))

    other : (k : ℕ) → (k ≡ head → ⊥) → times (set xs head v) k ≡ times xs k
    other k ne = times_set_other xs head k v ne

-- What the conditions read of the rows in flight

known_time : (c time : ℕ) → (time ≡ never → ⊥) → or_ahead c time ≡ time
known_time c time ne = let test : nat_eq time never ≡ false = grind (arith, nat_tests, ne) in rw test refl

pub flow_dispatch : (g : Input) (c front head k : ℕ) (xs : List Times) → IsFlow g xs front head → k < head → (now g c xs k).dispatch ≡ (times xs k).dispatch
flow_dispatch g c front head k xs flow lt = now_dispatch g c xs k (omega (arith, lt, flow.within)) ∙ known_time c (times xs k).dispatch (flow.dispatched k lt)

pub flow_retire : (g : Input) (c front head k : ℕ) (xs : List Times) → IsFlow g xs front head → k < front → (now g c xs k).retire ≡ (times xs k).retire
flow_retire g c front head k xs flow lt = now_retire g c xs k (omega (arith, lt, flow.order, flow.within)) ∙ known_time c (times xs k).retire (flow.retired k lt)

-- a row holds its entries where it is not retired
pub flow_free : (g : Input) (c p j front head k : ℕ) (xs : List Times) → IsState g (at g c p j) xs → p < 3 → j ≤ g.rows → IsFlow g xs front head → k < front → is_held (now g c xs) c k ≡ false
flow_free g c p j front head k xs h three le flow lt = held_now g c p j xs k h three le (omega (arith, lt, flow.order, flow.within)) ∙ (let ne : (times xs k).retire ≡ never → ⊥ = flow.retired k lt in grind (arith, nat_tests, ne))

pub flow_held : (g : Input) (c p j front head k : ℕ) (xs : List Times) → IsState g (at g c p j) xs → p < 3 → j ≤ g.rows → IsFlow g xs front head → front ≤ k → k < g.rows → is_held (now g c xs) c k ≡ true
flow_held g c p j front head k xs h three le flow ge lt = held_now g c p j xs k h three le lt ∙ (let e : (times xs k).retire ≡ never = flow.held k ge lt in grind (arith, nat_tests, e))

-- each row follows the one before it in time
pub dispatch_in_order : (g : Input) (c front head : ℕ) (xs : List Times) → IsState g (at g c 2 head) xs → IsFlow g xs front head → head < g.rows → follows (λ k. (now g c xs k).dispatch) head c ≡ true
unfolding follows
dispatch_in_order g c front zero xs h flow lt = refl
dispatch_in_order g c front (suc k) xs h flow lt =
    let time : (now g c xs k).dispatch ≡ (times xs k).dispatch = flow_dispatch g c front (suc k) k xs flow (omega arith) in
    let past : (times xs k).dispatch ≤ c = dispatched_by g c 2 (suc k) xs k h (omega arith) (omega (arith, lt)) (omega (arith, lt)) (flow.dispatched k (omega arith)) in
    grind (arith, nat_tests, time, past)

pub retire_in_order : (g : Input) (c front head : ℕ) (xs : List Times) → IsState g (at g c 0 front) xs → IsFlow g xs front head → front < g.rows → follows (λ k. (now g c xs k).retire) front c ≡ true
unfolding follows
retire_in_order g c zero head xs h flow lt = refl
retire_in_order g c (suc k) head xs h flow lt =
    let time : (now g c xs k).retire ≡ (times xs k).retire = flow_retire g c (suc k) head k xs flow (omega arith) in
    let past : (times xs k).retire ≤ c = retired_by g c 0 (suc k) xs k h (omega arith) (omega (arith, lt)) (omega (arith, lt)) (flow.retired k (omega arith)) in
    grind (arith, nat_tests, time, past)

-- a row that retires has issued
pub retire_issued : (g : Input) (c k j : ℕ) (xs : List Times) → IsState g k xs → j < g.rows → can_retire g (now g c xs) j c ≡ true → (times xs j).issue ≡ never → ⊥
retire_issued g c k j xs h lt can none = retire_needs g (recorded g xs) j c can (unknown (g.row j).reserved refl)
  where
    unknown : (b : Bool) → (g.row j).reserved ≡ b → recorded g xs (event g.rows (phase (g.row j)) j) ≡ None
    unknown true is = ap (λ p. recorded g xs (event g.rows p j)) (phase_reserved (g.row j) is) ∙ recorded_row g xs 2 j (omega arith) lt
        ∙ never_is_none (times xs j).dispatch _ (sym ((h.kept j lt).together is) ∙ none)
    unknown false is = ap (λ p. recorded g xs (event g.rows p j)) (phase_free (g.row j) is) ∙ recorded_row g xs 1 j (omega arith) lt
        ∙ choose_false (g.row j).reserved _ _ is ∙ never_is_none (times xs j).issue _ none

-- what lets a row dispatch
pub record Dispatches (g : Input) (t : Table) (j c : ℕ) : Type 0 where
  pub group : fits_group g t j c ≡ true
  pub reorder : fits_reorder g t j c ≡ true
  pub registers : fits_registers g t j c ≡ true

pub dispatch_parts : (g : Input) (t : Table) (j c : ℕ) → can_dispatch g t j c ≡ true → Dispatches g t j c
unfolding can_dispatch
dispatch_parts g t j c e =
    let four : (follows (λ k. (t k).dispatch) j c && fits_group g t j c && fits_reorder g t j c && fits_registers g t j c) ≡ true = first_true _ _ (first_true _ _ (first_true _ _ e)) in
    record { group = second_true _ _ (first_true _ _ (first_true _ _ four)); reorder = second_true _ _ (first_true _ _ four); registers = second_true _ _ four }

-- The retirement of the oldest row in flight

pub retire_tie : (g : Input) (c front head count : ℕ) (xs : List Times) → IsState g (at g c 0 front) xs → IsFlow g xs front head → front < g.rows → count ≡ retired_in xs c front
    → (not (nat_eq (times xs front).issue never) && nat_lt (times xs front).complete c && has_room g.machine.limits.retire count) ≡ can_retire g (now g c xs) front c
unfolding can_retire
retire_tie g c front head count xs s flow lt is =
    let counted : count_below front (λ k. nat_eq (now g c xs k).retire c) ≡ retired_in xs c front = count_same front _ _ (λ k low. ap (λ n. nat_eq n c) (flow_retire g c front head k xs flow low)) in
    let complete : nat_lt (now g c xs front).complete c ≡ (not (nat_eq (times xs front).issue never) && nat_lt (times xs front).complete c) = ready in
    rw (retire_in_order g c front head xs s flow lt, complete, counted, ← is) (regroup (not (nat_eq (times xs front).issue never)) (nat_lt (times xs front).complete c) (has_room g.machine.limits.retire count))
  where
    regroup : (a b d : Bool) → (a && b && d) ≡ (a && b && true && d)
    regroup true true d = refl
    regroup true false d = refl
    regroup false b d = refl

    issue_now : (now g c xs front).issue ≡ or_ahead c (times xs front).issue
    issue_now = now_issue g c xs front lt (s.kept front lt)

    complete_now : (now g c xs front).complete ≡ or_ahead c (times xs front).issue + (g.row front).latency
    complete_now = ap (λ n. n + (g.row front).latency) issue_now

    ready : nat_lt (now g c xs front).complete c ≡ (not (nat_eq (times xs front).issue never) && nat_lt (times xs front).complete c)
    ready = elim (cases_eq (times xs front).issue never) [
      | inl none ↦ (let test : nat_eq (times xs front).issue never ≡ true = grind (arith, nat_tests, none) in
          let late : or_ahead c (times xs front).issue ≡ c + 1 = ahead c (times xs front).issue none in
          rw test (grind (arith, nat_tests, complete_now, late)))
      | inr ne ↦ (let test : nat_eq (times xs front).issue never ≡ false = grind (arith, nat_tests, ne) in
          let same : (now g c xs front).complete ≡ (times xs front).complete = complete_now ∙ ap (λ n. n + (g.row front).latency) (known_time c (times xs front).issue ne) ∙ sym ((s.kept front lt).complete ne) in
          rw (test, same) refl)
    ]

-- where no row is in flight, none retires
pub none_retires : (g : Input) (c k front head : ℕ) (xs : List Times) → IsState g k xs → IsFlow g xs front head → head ≤ front → front < g.rows → can_retire g (now g c xs) front c ≡ false
none_retires g c k front head xs s flow le lt = not_true (can_retire g (now g c xs) front c) (λ e. retire_issued g c k front xs s lt e (flow.unissued front le lt))

-- at the beginning of a cycle none has retired in it
pub none_yet : (g : Input) (c front head : ℕ) (xs : List Times) → IsState g (at g c 0 0) xs → IsFlow g xs front head → (n : ℕ) → n ≤ front → retired_in xs c n ≡ 0
none_yet g c front head xs s flow zero le = count_none (λ k. nat_eq (times xs k).retire c)
none_yet g c front head xs s flow (suc n) le =
    let rest : retired_in xs c n ≡ 0 = none_yet g c front head xs s flow n (omega arith) in
    let lt : n < g.rows = omega (arith, le, flow.order, flow.within) in
    let before : at g (times xs n).retire 0 n < at g c 0 0 = fell_before g (at g c 0 0) xs 0 n (record { cycle = (times xs n).retire; what = [] }) s (omega arith) lt (known_is_some (times xs n).retire [] (flow.retired n (omega arith))) in
    let ne : (times xs n).retire ≡ c → ⊥ = λ e. omega (arith, subst (λ b. at g b 0 n < at g c 0 0) e before) in
    let test : nat_eq (times xs n).retire c ≡ false = grind (arith, nat_tests, ne) in
    let next : n + 1 ≡ suc n = omega arith in
    subst (λ m. retired_in xs c m ≡ 0) next (count_next n (λ k. nat_eq (times xs k).retire c) ∙ rw (rest, test) refl)

-- one more
pub one_yet : (c n : ℕ) (xs ys : List Times) → (times ys n).retire ≡ c → ((k : ℕ) → k < n → times ys k ≡ times xs k) → retired_in ys c (n + 1) ≡ retired_in xs c n + 1
one_yet c n xs ys is same =
    let test : nat_eq (times ys n).retire c ≡ true = grind (arith, nat_tests, is) in
    let rest : retired_in ys c n ≡ retired_in xs c n = count_same n _ _ (λ k lt. ap (λ t. nat_eq t.retire c) (same k lt)) in
    count_next n (λ k. nat_eq (times ys k).retire c) ∙ rw (rest, test) refl

-- how many rows have retired
pub flow_count : (g : Input) (xs : List Times) (front head : ℕ) → IsFlow g xs front head → (n : ℕ) → n ≤ g.rows → count_below n (has_retired xs) ≡ min n front
flow_count g xs front head flow zero le = omega (arith, count_none (has_retired xs))
flow_count g xs front head flow (suc n) le =
    let rest : count_below n (has_retired xs) ≡ min n front = flow_count g xs front head flow n (omega arith) in
    let next : n + 1 ≡ suc n = omega arith in
    subst (λ m. count_below m (has_retired xs) ≡ min m front) next (count_next n (has_retired xs) ∙ elim (cases_lt n front) [
      | inl low ↦ (let ne : (times xs n).retire ≡ never → ⊥ = flow.retired n low in let test : nat_eq (times xs n).retire never ≡ false = grind (arith, nat_tests, ne) in rw (rest, test) (omega (arith, low)))
      | inr high ↦ (let e : (times xs n).retire ≡ never = flow.held n (omega (arith, high)) (omega arith) in let test : nat_eq (times xs n).retire never ≡ true = grind (arith, nat_tests, e) in rw (rest, test) (omega (arith, high)))
    ])

-- at first no row is in flight
pub flow_start : (g : Input) (v : Times) → v.dispatch ≡ never → v.issue ≡ never → v.retire ≡ never → IsFlow g (replicate g.rows v) 0 0
flow_start g v d i r = record {
  order = omega arith;
  within = omega arith;
  retired = λ k lt. absurd (omega (arith, lt));
  issued = λ k lt. absurd (omega (arith, lt));
  held = λ k le lt. ap (λ t. t.retire) (get_or-replicate g.rows k v no_times lt) ∙ r;
  dispatched = λ k lt. absurd (omega (arith, lt));
  waiting = λ k le lt. ap (λ t. t.dispatch) (get_or-replicate g.rows k v no_times lt) ∙ d;
  unissued = λ k le lt. ap (λ t. t.issue) (get_or-replicate g.rows k v no_times lt) ∙ i;
}

-- by the rules so many rows retire below a cycle
pub flow_retired : (g : Input) (bound front head : ℕ) (xs : List Times) → IsState g (at g bound 0 0) xs → IsFlow g xs front head → front ≡ retired_below g bound
flow_retired g bound front head xs s flow =
    let count : count_below g.rows (has_retired xs) ≡ min g.rows front = flow_count g xs front head flow g.rows (omega arith) in
    let all : count_below g.rows (has_retired xs) ≡ retired_below g bound = retired_count g bound xs s in
    omega (arith, count, all, flow.order, flow.within)
