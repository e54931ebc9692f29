-- What a row sees of older rows, and of its own events.
use Rattle.std.proofs.Common.{zero, suc, ◌≡◌, ℕ, ◌+◌, ◌<◌, ◌≤◌, arith, sym, ap, refl, Bool, true, false, not, ◌&&◌, ◌||◌}
use Rattle.std.specs.Prelude.{nat_lt, nat_le, nat_eq, if◌then◌else◌, Some, None}
use Rattle.std.specs.declared.option.Option.{Option}
use Rattle.std.specs.List.{list_all}
use Rattle.std.proofs.lemmas.Bool.Decides.{nat_tests}
use Rattle.machine_model.specs.declared.facts.FileShare.{FileShare}
use Rattle.machine_model.specs.declared.facts.Use.{Use}
use Rattle.cycle_rules.specs.Below.{sum_below, count_below, all_below}
use Rattle.cycle_rules.specs.Dispatch.{has_room, follows, share, has_place, fits_group, is_held, fits_reorder, cost_in, fits_file, fits_registers, fits_loads, fits_stores, fits_buffers}
use Rattle.cycle_rules.specs.Retire.{can_retire}
use Rattle.cycle_rules.specs.Row.{Row, Input, Table, phase, uops_of, names, entries, is_load, is_store}
use Rattle.cycle_rules.specs.Seen.{key_at, comes_before, is_seen, has_issued, sees}
use Rattle.cycle_rules.proofs.Counts.{count_same}

pub sum_agree : (n : ℕ) (f h : ℕ → ℕ) → ((k : ℕ) → k < n → f k ≡ h k) → sum_below n f ≡ sum_below n h
unfolding sum_below
sum_agree zero f h e = refl
sum_agree (suc n) f h e = rw (sum_agree n f h (λ k lt. e k (omega arith)), e n (omega arith)) refl

pub all_agree : (n : ℕ) (p q : ℕ → Bool) → ((k : ℕ) → k < n → p k ≡ q k) → all_below n p ≡ all_below n q
unfolding all_below
all_agree zero p q e = refl
all_agree (suc n) p q e = rw (all_agree n p q (λ k lt. e k (omega arith)), e n (omega arith)) refl

-- an event of an older row, in the same phase or an earlier one, is seen from its cycle on
pub seen_older : (n x q k c p j : ℕ) → k < n → k < j → q ≤ p → (nat_lt k n && comes_before (key_at x q k) (key_at c p j)) ≡ nat_le x c
unfolding comes_before
seen_older n x q k c p j lt older le = grind (arith, nat_tests)

-- an event of a later phase is seen in the cycles after its own
pub seen_later : (n x q k c p j : ℕ) → k < n → p < q → (nat_lt k n && comes_before (key_at x q k) (key_at c p j)) ≡ nat_lt x c
unfolding comes_before
seen_later n x q k c p j lt less = grind (arith, nat_tests)

pub phase_most : (r : Row) → phase r ≤ 2
unfolding phase
phase_most r = most r.reserved
  where
    most : (b : Bool) → (if b then 2 else 1) ≤ 2
    most true = omega arith
    most false = omega arith

pub phase_least : (r : Row) → 0 < phase r
unfolding phase
phase_least r = least r.reserved
  where
    least : (b : Bool) → 0 < (if b then 2 else 1)
    least true = omega arith
    least false = omega arith

-- how a time is read that is seen from its cycle on

above_seen : (x c : ℕ) (b : Bool) → b ≡ nat_le x c → nat_lt c (if b then x else c + 1) ≡ nat_lt c x
above_seen x c b e = grind (arith, nat_tests)

le_seen : (x c : ℕ) (b : Bool) → b ≡ nat_le x c → nat_le (if b then x else c + 1) c ≡ nat_le x c
le_seen x c b e = grind (arith, nat_tests)

eq_seen : (x c : ℕ) (b : Bool) → b ≡ nat_le x c → nat_eq (if b then x else c + 1) c ≡ nat_eq x c
eq_seen x c b e = grind (arith, nat_tests)

share_seen : (width size x c : ℕ) (b : Bool) → b ≡ nat_le x c → share width size (if b then x else c + 1) c ≡ share width size x c
unfolding share
share_seen width size x c true e = refl
share_seen width size x c false e =
    let late : nat_le (c + 1) c ≡ false = grind (arith, nat_tests) in
    let same : nat_le x c ≡ false = sym e in rw (late, same) refl

-- older rows, seen by a row that dispatches

held_older : (g : Input) (t : Table) (j c k : ℕ) → j < g.rows → k < j → is_held (sees g t 2 j c) c k ≡ is_held t c k
held_older g t j c k lt older = above_seen (t k).retire c (is_seen g (key_at (t k).retire 0 k) (key_at c 2 j)) (seen_older g.rows (t k).retire 0 k c 2 j (omega arith) older (omega arith))

waits_older : (g : Input) (t : Table) (j c k : ℕ) → j < g.rows → k < j → nat_lt c (sees g t 2 j c k).issue ≡ nat_lt c (t k).issue
waits_older g t j c k lt older = above_seen (t k).issue c (has_issued g t k c 2 j) (seen_older g.rows (t k).issue (phase (g.row k)) k c 2 j (omega arith) older (phase_most (g.row k)))

share_older : (g : Input) (t : Table) (width size j c k : ℕ) → j < g.rows → k < j → share width size (sees g t 2 j c k).dispatch c ≡ share width size (t k).dispatch c
share_older g t width size j c k lt older = share_seen width size (t k).dispatch c (is_seen g (key_at (t k).dispatch 2 k) (key_at c 2 j)) (seen_older g.rows (t k).dispatch 2 k c 2 j (omega arith) older (omega arith))

pub follows_dispatch : (g : Input) (t : Table) (j c : ℕ) → j < g.rows → follows (λ k. (sees g t 2 j c k).dispatch) j c ≡ follows (λ k. (t k).dispatch) j c
unfolding follows
follows_dispatch g t zero c lt = refl
follows_dispatch g t (suc k) c lt = le_seen (t k).dispatch c (is_seen g (key_at (t k).dispatch 2 k) (key_at c 2 (suc k))) (seen_older g.rows (t k).dispatch 2 k c 2 (suc k) (omega arith) (omega arith) (omega arith))

pub group_seen : (g : Input) (t : Table) (j c : ℕ) → j < g.rows → fits_group g (sees g t 2 j c) j c ≡ fits_group g t j c
unfolding fits_group has_place
group_seen g t j c lt =
    let w : ℕ = g.machine.limits.width in
    let shares : sum_below j (λ k. share w (uops_of g k) (sees g t 2 j c k).dispatch c) ≡ sum_below j (λ k. share w (uops_of g k) (t k).dispatch c)
    = sum_agree j _ _ (λ k older. share_older g t w (uops_of g k) j c k lt older) in
    let ends : all_below j (λ k. not (g.row k).ends_group || nat_eq (share w (uops_of g k) (sees g t 2 j c k).dispatch c) 0) ≡ all_below j (λ k. not (g.row k).ends_group || nat_eq (share w (uops_of g k) (t k).dispatch c) 0)
    = all_agree j _ _ (λ k older. ap (λ s. not (g.row k).ends_group || nat_eq s 0) (share_older g t w (uops_of g k) j c k lt older)) in
    rw (shares, ends) refl

pub reorder_seen : (g : Input) (t : Table) (j c : ℕ) → j < g.rows → fits_reorder g (sees g t 2 j c) j c ≡ fits_reorder g t j c
unfolding fits_reorder
reorder_seen g t j c lt = ap (λ s. nat_le (s + uops_of g j) g.machine.limits.reorder) (sum_agree j _ _ (λ k older. ap (λ b. if b then uops_of g k else 0) (held_older g t j c k lt older)))

file_seen : (g : Input) (t : Table) (j c : ℕ) → j < g.rows → (o : Option FileShare) → fits_file g (sees g t 2 j c) j c o ≡ fits_file g t j c o
file_seen g t j c lt None = refl
file_seen g t j c lt (Some s) = ap (λ n. nat_eq (g.machine.file_size s.file) 0 || nat_le (n + s.cost) (g.machine.file_size s.file))
    (sum_agree j _ _ (λ k older. ap (λ b. if b then cost_in g.machine s.file (g.row k).rd else 0) (held_older g t j c k lt older)))

pub registers_seen : (g : Input) (t : Table) (j c : ℕ) → j < g.rows → fits_registers g (sees g t 2 j c) j c ≡ fits_registers g t j c
unfolding fits_registers
registers_seen g t j c lt = λ i. nat_eq (g.row j).rd 0 || (has_room g.machine.limits.registers (writes i) && file_seen g t j c lt (g.machine.file_of (g.row j).rd) i)
  where
    writes : count_below j (λ k. nat_lt 0 (g.row k).rd && is_held (sees g t 2 j c) c k) ≡ count_below j (λ k. nat_lt 0 (g.row k).rd && is_held t c k)
    writes = count_same j _ _ (λ k older. ap (λ b. nat_lt 0 (g.row k).rd && b) (held_older g t j c k lt older))

pub loads_seen : (g : Input) (t : Table) (j c : ℕ) → j < g.rows → fits_loads g (sees g t 2 j c) j c ≡ fits_loads g t j c
unfolding fits_loads
loads_seen g t j c lt = ap (λ n. not (is_load (g.row j).kind) || has_room g.machine.limits.loads n) (count_same j _ _ (λ k older. ap (λ b. is_load (g.row k).kind && b) (held_older g t j c k lt older)))

pub stores_seen : (g : Input) (t : Table) (j c : ℕ) → j < g.rows → fits_stores g (sees g t 2 j c) j c ≡ fits_stores g t j c
unfolding fits_stores
stores_seen g t j c lt = ap (λ n. not (is_store (g.row j).kind) || has_room g.machine.limits.stores n) (count_same j _ _ (λ k older. ap (λ b. is_store (g.row k).kind && b) (held_older g t j c k lt older)))

pub buffers_seen : (g : Input) (t : Table) (j c : ℕ) → j < g.rows → fits_buffers g (sees g t 2 j c) j c ≡ fits_buffers g t j c
unfolding fits_buffers
buffers_seen g t j c lt = ap (λ p. list_all p (g.row j).uses) (λ i w. has_room (entries (g.machine.buffer w.resource)) (waiting w i))
  where
    waiting : (w : Use) → count_below j (λ k. names w.resource (g.row k) && nat_lt c (sees g t 2 j c k).issue) ≡ count_below j (λ k. names w.resource (g.row k) && nat_lt c (t k).issue)
    waiting w = count_same j _ _ (λ k older. ap (λ b. names w.resource (g.row k) && b) (waits_older g t j c k lt older))

-- a row that issues sees its own dispatch

own_seen : (x c : ℕ) (b : Bool) → b ≡ nat_lt x c → nat_lt (if b then x else c + 1) c ≡ nat_lt x c
own_seen x c b e = grind (arith, nat_tests)

pub dispatch_before : (g : Input) (t : Table) (j c : ℕ) → j < g.rows → nat_lt (sees g t 1 j c j).dispatch c ≡ nat_lt (t j).dispatch c
dispatch_before g t j c lt = own_seen (t j).dispatch c (is_seen g (key_at (t j).dispatch 2 j) (key_at c 1 j)) (seen_later g.rows (t j).dispatch 2 j c 1 j lt (omega arith))

-- a row that retires sees its own issue, and the retirements of older rows

complete_seen : (i w n c : ℕ) (b : Bool) → b ≡ nat_lt i c → nat_lt (if b then w else c + 1 + n) c ≡ (nat_lt i c && nat_lt w c)
complete_seen i w n c true e = rw (← e) refl
complete_seen i w n c false e = let late : nat_lt (c + 1 + n) c ≡ false = grind (arith, nat_tests) in rw (← e, late) refl

pub follows_retire : (g : Input) (t : Table) (j c : ℕ) → j < g.rows → follows (λ k. (sees g t 0 j c k).retire) j c ≡ follows (λ k. (t k).retire) j c
unfolding follows
follows_retire g t zero c lt = refl
follows_retire g t (suc k) c lt = le_seen (t k).retire c (is_seen g (key_at (t k).retire 0 k) (key_at c 0 (suc k))) (seen_older g.rows (t k).retire 0 k c 0 (suc k) (omega arith) (omega arith) (omega arith))

pub retire_seen : (g : Input) (t : Table) (j c : ℕ) → j < g.rows → can_retire g (sees g t 0 j c) j c
    ≡ (nat_lt (t j).issue c && nat_lt (t j).complete c && follows (λ k. (t k).retire) j c && has_room g.machine.limits.retire (count_below j (λ k. nat_eq (t k).retire c)))
unfolding can_retire
retire_seen g t j c lt = λ i. completed i && follows_retire g t j c lt i && has_room g.machine.limits.retire (retiring i)
  where
    completed : nat_lt (sees g t 0 j c j).complete c ≡ (nat_lt (t j).issue c && nat_lt (t j).complete c)
    completed = complete_seen (t j).issue (t j).complete (g.row j).latency c (has_issued g t j c 0 j) (seen_later g.rows (t j).issue (phase (g.row j)) j c 0 j lt (phase_least (g.row j)))

    retiring : count_below j (λ k. nat_eq (sees g t 0 j c k).retire c) ≡ count_below j (λ k. nat_eq (t k).retire c)
    retiring = count_same j _ _ (λ k older. eq_seen (t k).retire c (is_seen g (key_at (t k).retire 0 k) (key_at c 0 j)) (seen_older g.rows (t k).retire 0 k c 0 j (omega arith) older (omega arith)))
