-- What the dispatch and the retirement of a row do to the lists for which the parts stand.
use Rattle.std.proofs.Common.{◌≡◌, ℕ, ◌+◌, ◌-◌, ◌<◌, ◌≤◌, inl, inr, List, [], ◌∷◌, ◌++◌, length, min, set, drop, arith, sym, ◌∙◌, ap, subst, refl, Bool, true, false, ◌&&◌, ◌||◌, not}
use Rattle.std.specs.Prelude.{nat_lt, nat_le, nat_eq, if◌then◌else◌}
use Rattle.std.specs.List.{count_by}
use Rattle.std.proofs.lemmas.Bool.Decides.{nat_tests}
use Rattle.std.proofs.lemmas.Bool.{cases_eq}
use Rattle.std.proofs.lemmas.List.Sums.{sum_by-cons}
use Rattle.std.proofs.lemmas.List.FromFn.{length-map-range_with_len, map-range_with_len_more}
use Rattle.circular_buffer.specs.Buffer.{Buffer, buffer}
use Rattle.dispatch_unit.specs.Group.{Dispatched, shares, is_open, has_place}
use Rattle.reorder_buffer.specs.Rob.{uops_of as uops_of_entries}
use Rattle.reorder_buffer.specs.declared.rob.RobEntry.{RobEntry}
use Rattle.reg_files.specs.Files.{has_room as has_room_in_files, without}
use Rattle.cycle_rules.specs.Row.{Input, times, uops_of}
use Rattle.cycle_rules.specs.Dispatch.{can_dispatch}
use Rattle.engine_state.specs.State.{now, at, IsState}
use Rattle.engine_state.specs.Flight.{IsFlow, window}
use Rattle.cycle_rules.specs.declared.times.Times.{Times}
use Rattle.engine_state.proofs.State.{times_set_other, times_set_same}
use Rattle.engine_state.proofs.Windows.{window_first, window_last, window_same, window_few}
use Rattle.engine_state.proofs.Flow.{dispatch_parts}
use Rattle.engine_state.specs.Parts.{dispatched_row, entry_of, write_of}
use Rattle.engine_state.proofs.Ties.{group_tie, reorder_tie, registers_tie}

-- A row retires

-- the group keeps its rows, since no dispatch changes
pub group_stays : (g : Input) (xs : List Times) (j n : ℕ) (v : Times) → j < length xs → v.dispatch ≡ (times xs j).dispatch → window (dispatched_row g (set xs j v)) 0 n ≡ window (dispatched_row g xs) 0 n
group_stays g xs j n v lt dispatch = window_same (dispatched_row g (set xs j v)) (dispatched_row g xs) 0 n (λ k le low. λ i. record { uops = uops_of g k; from = same k i; ends = (g.row k).ends_group })
  where
    same : (k : ℕ) → (times (set xs j v) k).dispatch ≡ (times xs k).dispatch
    same k = elim (cases_eq k j) [
      | inl here ↦ subst (λ i. (times (set xs j v) i).dispatch ≡ (times xs i).dispatch) (sym here) (ap (λ t. t.dispatch) (times_set_same xs j v lt) ∙ dispatch)
      | inr ne ↦ ap (λ t. t.dispatch) (times_set_other xs j k v ne)
    ]

pub rob_leaves : (g : Input) (rob : Buffer RobEntry) (front head size : ℕ) → front < head → rob ≡ buffer (window (entry_of g) front (head - front)) size
    → buffer (drop 1 rob.items) rob.capacity ≡ buffer (window (entry_of g) (front + 1) (head - (front + 1))) size
rob_leaves g rob front head size lt is = rw (is, window_first (entry_of g) front head lt) refl

without_first : (r : ℕ) (writes : List ℕ) → without r (r ∷ writes) ≡ writes
without_first r writes = let test : nat_eq r r ≡ true = grind (arith, nat_tests) in rw test refl

pub write_leaves : (g : Input) (front head rd : ℕ) → front < head → rd ≡ (g.row front).rd → without rd (window (write_of g) front (head - front)) ≡ window (write_of g) (front + 1) (head - (front + 1))
write_leaves g front head rd lt is = rw (is, window_first (write_of g) front head lt) (without_first (g.row front).rd (window (write_of g) (front + 1) (head - (front + 1))))

pub write_there : (g : Input) (front head rd : ℕ) → front < head → rd ≡ (g.row front).rd → 0 < count_by (λ x. nat_eq x rd) (window (write_of g) front (head - front))
write_there g front head rd lt is =
    let all : count_by (λ x. nat_eq x rd) ((g.row front).rd ∷ window (write_of g) (front + 1) (head - (front + 1))) ≡ (if nat_eq (g.row front).rd rd then 1 else 0) + count_by (λ x. nat_eq x rd) (window (write_of g) (front + 1) (head - (front + 1))) =
    sum_by-cons (λ x. if nat_eq x rd then 1 else 0) (g.row front).rd (window (write_of g) (front + 1) (head - (front + 1))) in
    let test : nat_eq (g.row front).rd rd ≡ true = grind (arith, nat_tests, is) in
    let one : count_by (λ x. nat_eq x rd) ((g.row front).rd ∷ window (write_of g) (front + 1) (head - (front + 1))) ≡ 1 + count_by (λ x. nat_eq x rd) (window (write_of g) (front + 1) (head - (front + 1))) =
    all ∙ ap (λ b. (if b then 1 else 0) + count_by (λ x. nat_eq x rd) (window (write_of g) (front + 1) (head - (front + 1)))) test in
    rw (window_first (write_of g) front head lt) (omega (arith, one))

-- A row dispatches

-- a row that begins no group has place where one that begins it has
joins_any : (width c : ℕ) (rows : List Dispatched) (uops : ℕ) (begins : Bool) → has_place width c rows uops begins ≡ true → has_place width c rows uops false ≡ true
joins_any width c rows uops true e = weaken (nat_le (shares width c rows + min uops width) width) (nat_lt width uops) (nat_eq (shares width c rows) 0) (is_open width c rows) e
  where
    weaken : (a w b o : Bool) → (a && (false || b) && o) ≡ true → (a && (not (false || w) || b) && o) ≡ true
    weaken true true b o h = h
    weaken true false true o h = h
    weaken true false false o h = cc
    weaken false w b o h = cc
joins_any width c rows uops false e = e

pub group_place : (g : Input) (c front head w cycle uops : ℕ) (xs : List Times) → IsFlow g xs front head → w ≡ g.machine.limits.width → cycle ≡ c → uops ≡ uops_of g head → can_dispatch g (now g c xs) head c ≡ true
    → has_place w cycle (window (dispatched_row g xs) 0 head) uops false ≡ true
group_place g c front head w cycle uops xs flow a b d may = joins_any w cycle (window (dispatched_row g xs) 0 head) uops (g.row head).begins_group
    (rw (a, b, d) (group_tie g c front head xs flow) ∙ (dispatch_parts g (now g c xs) head c may).group)

pub rob_room : (g : Input) (c front head uops : ℕ) (rob : Buffer RobEntry) (xs : List Times) → IsState g (at g c 2 head) xs → IsFlow g xs front head → head < g.rows
    → rob ≡ buffer (window (entry_of g) front (head - front)) g.machine.limits.reorder → uops ≡ uops_of g head → can_dispatch g (now g c xs) head c ≡ true → nat_le (uops_of_entries rob.items + uops) rob.capacity ≡ true
rob_room g c front head uops rob xs s flow lt is same may = rw (is, same) (reorder_tie g c front head xs s flow lt) ∙ (dispatch_parts g (now g c xs) head c may).reorder

pub files_room : (g : Input) (c front head rd : ℕ) (xs : List Times) → IsState g (at g c 2 head) xs → IsFlow g xs front head → head < g.rows → rd ≡ (g.row head).rd → can_dispatch g (now g c xs) head c ≡ true
    → has_room_in_files g.machine (window (write_of g) front (head - front)) rd ≡ true
files_room g c front head rd xs s flow lt same may = rw same (registers_tie g c front head xs s flow lt) ∙ (dispatch_parts g (now g c xs) head c may).registers

-- fewer rows are in flight than the reorder buffer holds micro-ops
pub few_in_flight : (g : Input) (c front head : ℕ) (xs : List Times) → ((k : ℕ) → k < g.rows → 1 ≤ uops_of g k) → IsState g (at g c 2 head) xs → IsFlow g xs front head → head < g.rows → can_dispatch g (now g c xs) head c ≡ true
    → head - front < g.machine.limits.reorder
few_in_flight g c front head xs some s flow lt may =
    let room : nat_le (uops_of_entries (window (entry_of g) front (head - front)) + uops_of g head) g.machine.limits.reorder ≡ true =
    rob_room g c front head (uops_of g head) (buffer (window (entry_of g) front (head - front)) g.machine.limits.reorder) xs s flow lt refl refl may in
    let fits : uops_of_entries (window (entry_of g) front (head - front)) + uops_of g head ≤ g.machine.limits.reorder = grind (arith, nat_tests, room) in
    let few : head - front ≤ uops_of_entries (window (entry_of g) front (head - front)) = window_few (λ (e : RobEntry). e.uops) (entry_of g) front (head - front) (λ k le low. some k (omega (arith, low, flow.order, lt))) in
    omega (arith, fits, few, some head lt)

pub count_writes : (g : Input) (front head : ℕ) → length (window (write_of g) front (head - front)) ≡ head - front
count_writes g front head = length-map-range_with_len (write_of g) front (head - front)

pub group_grows : (g : Input) (c head cycle uops : ℕ) (ends : Bool) (xs : List Times) (v : Times) → head < length xs → v.dispatch ≡ c → cycle ≡ c → uops ≡ uops_of g head → ends ≡ (g.row head).ends_group
    → window (dispatched_row g xs) 0 head ++ record { uops = uops; from = cycle; ends = ends } ∷ [] ≡ window (dispatched_row g (set xs head v)) 0 (head + 1)
group_grows g c head cycle uops ends xs v lt dispatch is same group =
    let before : window (dispatched_row g (set xs head v)) 0 head ≡ window (dispatched_row g xs) 0 head = window_same (dispatched_row g (set xs head v)) (dispatched_row g xs) 0 head
    (λ k le low. λ i. record { uops = uops_of g k; from = (ap (λ t. t.dispatch) (times_set_other xs head k v (omega (arith, low)))) i; ends = (g.row k).ends_group }) in
    let from : cycle ≡ (times (set xs head v) head).dispatch = is ∙ sym dispatch ∙ sym (ap (λ t. t.dispatch) (times_set_same xs head v lt)) in
    let last : ◌≡◌ {A = Dispatched} (record { uops = uops; from = cycle; ends = ends }) (dispatched_row g (set xs head v) head) = λ i. record { uops = same i; from = from i; ends = group i } in
    (λ i. sym before i ++ last i ∷ []) ∙ sym (map-range_with_len_more (dispatched_row g (set xs head v)) 0 head head (omega arith))

pub rob_enters : (g : Input) (rob : Buffer RobEntry) (front head size uops : ℕ) → front ≤ head → uops ≡ uops_of g head → rob ≡ buffer (window (entry_of g) front (head - front)) size
    → buffer (rob.items ++ record { row = head; uops = uops } ∷ []) rob.capacity ≡ buffer (window (entry_of g) front (head + 1 - front)) size
rob_enters g rob front head size uops le same is = rw (is, same) (ap (λ es. buffer es size) (sym (window_last (entry_of g) front head le)))

pub write_enters : (g : Input) (front head rd : ℕ) → front ≤ head → rd ≡ (g.row head).rd → window (write_of g) front (head - front) ++ rd ∷ [] ≡ window (write_of g) front (head + 1 - front)
write_enters g front head rd le same = rw same (sym (window_last (write_of g) front head le))
