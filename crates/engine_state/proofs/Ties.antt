-- The answers of the parts are the conditions of the rules: what a part counts over the rows that it stands for is what the rules count over all older rows.
use Rattle.std.proofs.Common.{◌≡◌, ℕ, ◌+◌, ◌-◌, ◌<◌, List, arith, sym, ◌∙◌, ap, subst, refl, Bool, true, false, ◌&&◌, ◌||◌, not, Some, None}
use Rattle.std.specs.Prelude.{nat_lt, nat_le, nat_eq, if◌then◌else◌, Option}
use Rattle.std.specs.List.{sum_by}
use Rattle.std.proofs.lemmas.Bool.Decides.{nat_tests}
use Rattle.machine_model.specs.Meaning.{MachineMeaning}
use Rattle.machine_model.specs.declared.facts.FileShare.{FileShare}
use Rattle.dispatch_unit.specs.Group.{share as share_in_group, shares, is_open, has_place as has_place_in_group}
use Rattle.reorder_buffer.specs.Rob.{uops_of as uops_of_entries}
use Rattle.reg_files.specs.Shape.{fits, cost_of as cost_of_share}
use Rattle.reg_files.specs.Files.{share_of, in_flight, has_share, has_room as has_room_in_files}
use Rattle.cycle_rules.specs.Below.{sum_below, count_below, all_below}
use Rattle.cycle_rules.specs.Row.{Input, uops_of}
use Rattle.cycle_rules.specs.Dispatch.{has_room, share, has_place, fits_group, is_held, fits_reorder, cost_of, cost_in, fits_file, fits_registers}
use Rattle.engine_state.specs.State.{now, at, IsState}
use Rattle.engine_state.specs.Flight.{IsFlow, window}
use Rattle.cycle_rules.specs.declared.times.Times.{Times}
use Rattle.engine_state.proofs.Windows.{sum_window, sum_all, count_sum, all_window}
use Rattle.engine_state.proofs.Flow.{flow_dispatch, flow_free, flow_held}
use Rattle.engine_state.specs.Parts.{dispatched_row, entry_of, write_of}

-- The dispatch group

same_share : (g : Input) (c front head k : ℕ) (xs : List Times) → IsFlow g xs front head → k < head
    → share g.machine.limits.width (uops_of g k) (now g c xs k).dispatch c ≡ share_in_group g.machine.limits.width c (dispatched_row g xs k)
unfolding share share_in_group
same_share g c front head k xs flow lt = rw (flow_dispatch g c front head k xs flow lt) refl

pub group_tie : (g : Input) (c front head : ℕ) (xs : List Times) → IsFlow g xs front head
    → has_place_in_group g.machine.limits.width c (window (dispatched_row g xs) 0 head) (uops_of g head) (g.row head).begins_group ≡ fits_group g (now g c xs) head c
unfolding fits_group has_place
group_tie g c front head xs flow =
    let w : ℕ = g.machine.limits.width in
    let sum : sum_below head (λ k. share w (uops_of g k) (now g c xs k).dispatch c) ≡ shares w c (window (dispatched_row g xs) 0 head) =
    sum_all (λ k. share w (uops_of g k) (now g c xs k).dispatch c) (share_in_group w c) (dispatched_row g xs) head (λ k lt. same_share g c front head k xs flow lt) in
    let open_now : all_below head (λ k. not (g.row k).ends_group || nat_eq (share w (uops_of g k) (now g c xs k).dispatch c) 0) ≡ is_open w c (window (dispatched_row g xs) 0 head) =
    all_window (λ k. not (g.row k).ends_group || nat_eq (share w (uops_of g k) (now g c xs k).dispatch c) 0) (λ r. not r.ends || nat_eq (share_in_group w c r) 0) (dispatched_row g xs) head
    (λ k lt. ap (λ n. not (g.row k).ends_group || nat_eq n 0) (same_share g c front head k xs flow lt)) in
    rw (sum, open_now) refl

-- The rows in flight

-- a number of each row that holds its entries
held_sum : {X : Type 0} (g : Input) (c front head : ℕ) (xs : List Times) (f : ℕ → ℕ) (h : X → ℕ) (of_row : ℕ → X) → IsState g (at g c 2 head) xs → IsFlow g xs front head → head < g.rows → ((k : ℕ) → f k ≡ h (of_row k))
    → sum_below head (λ k. if is_held (now g c xs) c k then f k else 0) ≡ sum_by h (window of_row front (head - front))
held_sum {X} g c front head xs f h of_row s flow lt same =
    let sum : front + (head - front) ≡ head = omega (arith, flow.order) in
    subst (λ n. sum_below n (λ k. if is_held (now g c xs) c k then f k else 0) ≡ sum_by h (window of_row front (head - front))) sum
    (sum_window (λ k. if is_held (now g c xs) c k then f k else 0) h of_row front (head - front)
    (λ k low. ap (λ b. if b then f k else 0) (flow_free g c 2 head front head k xs s (omega arith) (omega (arith, lt)) flow low))
    (λ k le low. ap (λ b. if b then f k else 0) (flow_held g c 2 head front head k xs s (omega arith) (omega (arith, lt)) flow le (omega (arith, low, flow.order, lt))) ∙ same k))

pub reorder_tie : (g : Input) (c front head : ℕ) (xs : List Times) → IsState g (at g c 2 head) xs → IsFlow g xs front head → head < g.rows
    → nat_le (uops_of_entries (window (entry_of g) front (head - front)) + uops_of g head) g.machine.limits.reorder ≡ fits_reorder g (now g c xs) head c
unfolding fits_reorder
reorder_tie g c front head xs s flow lt = ap (λ n. nat_le (n + uops_of g head) g.machine.limits.reorder) (sym (held_sum g c front head xs (uops_of g) (λ e. e.uops) (entry_of g) s flow lt (λ k. refl)))

-- Registers

same_cost : (m : MachineMeaning) (file r : ℕ) → cost_in m file r ≡ cost_of_share file (share_of m r)
unfolding cost_in
same_cost m file r = go (nat_eq r 0)
  where
    of_share : (o : Option FileShare) → cost_of file o ≡ cost_of_share file o
    of_share None = refl
    of_share (Some s) = refl

    go : (b : Bool) → (if b then 0 else cost_of file (m.file_of r)) ≡ cost_of_share file (if b then None else m.file_of r)
    go true = refl
    go false = of_share (m.file_of r)

one_more : (bound held : ℕ) → fits bound held 1 ≡ has_room bound held
unfolding has_room
one_more bound held = grind (arith, nat_tests)

file_tie : (g : Input) (c front head : ℕ) (xs : List Times) → IsState g (at g c 2 head) xs → IsFlow g xs front head → head < g.rows → (o : Option FileShare)
    → has_share g.machine (window (write_of g) front (head - front)) o ≡ fits_file g (now g c xs) head c o
file_tie g c front head xs s flow lt None = refl
file_tie g c front head xs s flow lt (Some share) = ap (λ n. nat_eq (g.machine.file_size share.file) 0 || nat_le (n + share.cost) (g.machine.file_size share.file))
    (sym (held_sum g c front head xs (λ k. cost_in g.machine share.file (g.row k).rd) (λ r. cost_of_share share.file (share_of g.machine r)) (write_of g) s flow lt (λ k. same_cost g.machine share.file (g.row k).rd)))

count_tie : (g : Input) (c front head : ℕ) (xs : List Times) → IsState g (at g c 2 head) xs → IsFlow g xs front head → head < g.rows
    → count_below head (λ k. nat_lt 0 (g.row k).rd && is_held (now g c xs) c k) ≡ in_flight (window (write_of g) front (head - front))
count_tie g c front head xs s flow lt =
    let sum : front + (head - front) ≡ head = omega (arith, flow.order) in
    count_sum head (λ k. nat_lt 0 (g.row k).rd && is_held (now g c xs) c k)
    ∙ subst (λ n. sum_below n (λ k. if nat_lt 0 (g.row k).rd && is_held (now g c xs) c k then 1 else 0) ≡ in_flight (window (write_of g) front (head - front))) sum
    (sum_window (λ k. if nat_lt 0 (g.row k).rd && is_held (now g c xs) c k then 1 else 0) (λ r. if nat_lt 0 r then 1 else 0) (write_of g) front (head - front)
    (λ k low. ap (λ b. if nat_lt 0 (g.row k).rd && b then 1 else 0) (flow_free g c 2 head front head k xs s (omega arith) (omega (arith, lt)) flow low) ∙ none (nat_lt 0 (g.row k).rd))
    (λ k le low. ap (λ b. if nat_lt 0 (g.row k).rd && b then 1 else 0) (flow_held g c 2 head front head k xs s (omega arith) (omega (arith, lt)) flow le (omega (arith, low, flow.order, lt))) ∙ some (nat_lt 0 (g.row k).rd)))
  where
    none : (b : Bool) → ◌≡◌ {A = ℕ} (if b && false then 1 else 0) 0
    none true = refl
    none false = refl

    some : (b : Bool) → ◌≡◌ {A = ℕ} (if b && true then 1 else 0) (if b then 1 else 0)
    some true = refl
    some false = refl

pub registers_tie : (g : Input) (c front head : ℕ) (xs : List Times) → IsState g (at g c 2 head) xs → IsFlow g xs front head → head < g.rows
    → has_room_in_files g.machine (window (write_of g) front (head - front)) (g.row head).rd ≡ fits_registers g (now g c xs) head c
unfolding fits_registers
registers_tie g c front head xs s flow lt =
    let writes : List ℕ = window (write_of g) front (head - front) in
    let room : fits g.machine.limits.registers (in_flight writes) 1 ≡ has_room g.machine.limits.registers (count_below head (λ k. nat_lt 0 (g.row k).rd && is_held (now g c xs) c k)) =
    one_more g.machine.limits.registers (in_flight writes) ∙ ap (has_room g.machine.limits.registers) (sym (count_tie g c front head xs s flow lt)) in
    go (nat_eq (g.row head).rd 0) writes room refl
  where
    go : (b : Bool) (writes : List ℕ) → fits g.machine.limits.registers (in_flight writes) 1 ≡ has_room g.machine.limits.registers (count_below head (λ k. nat_lt 0 (g.row k).rd && is_held (now g c xs) c k)) → writes ≡ window (write_of g) front (head - front)
        → (b || (fits g.machine.limits.registers (in_flight writes) 1 && has_share g.machine writes (if b then None else g.machine.file_of (g.row head).rd)))
        ≡ (b || (has_room g.machine.limits.registers (count_below head (λ k. nat_lt 0 (g.row k).rd && is_held (now g c xs) c k)) && fits_file g (now g c xs) head c (g.machine.file_of (g.row head).rd)))
    go true writes room is = refl
    go false writes room is = let file : has_share g.machine writes (g.machine.file_of (g.row head).rd) ≡ fits_file g (now g c xs) head c (g.machine.file_of (g.row head).rd) =
        ap (λ ws. has_share g.machine ws (g.machine.file_of (g.row head).rd)) is ∙ file_tie g c front head xs s flow lt (g.machine.file_of (g.row head).rd) in
        λ i. room i && file i
