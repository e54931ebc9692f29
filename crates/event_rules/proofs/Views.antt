-- The tests look the same in two cycles, of one table each, where the older rows do.
use Rattle.std.proofs.Common.{◌≡◌, ℕ, ◌+◌, ◌<◌, ap, refl, Bool, true, false, ◌&&◌, ◌||◌, not}
use Rattle.std.specs.Prelude.{nat_lt, nat_le, nat_eq, if◌then◌else◌, Option, Some, None}
use Rattle.machine_model.specs.declared.facts.FileShare.{FileShare}
use Rattle.cycle_rules.specs.Below.{sum_below, count_below, all_below}
use Rattle.cycle_rules.specs.Row.{Input, Table, uops_of, names, entries, is_load, is_store}
use Rattle.cycle_rules.specs.Dispatch.{has_room, follows, share, has_place, fits_group, is_held, fits_reorder, cost_in, fits_file, fits_registers, fits_loads, fits_stores, fits_buffers, can_dispatch}
use Rattle.cycle_rules.specs.Issue.{can_start}
use Rattle.event_rules.proofs.Same.{sum_same, count_same, all_same, list_all_same, follows_same}

-- an older row looks the same to a dispatch
pub record SameOlder (g : Input) (s t : Table) (a b k : ℕ) : Type 0 where
  pub shares : share g.machine.limits.width (uops_of g k) (s k).dispatch a ≡ share g.machine.limits.width (uops_of g k) (t k).dispatch b
  pub holds : nat_lt a (s k).retire ≡ nat_lt b (t k).retire
  pub waits : nat_lt a (s k).issue ≡ nat_lt b (t k).issue
  pub order : nat_le (s k).dispatch a ≡ nat_le (t k).dispatch b

abbrev pub AllOlder : Input → Table → Table → ℕ → ℕ → ℕ → Type 0
AllOlder g s t a b j = (k : ℕ) → k < j → SameOlder g s t a b k

view_group : (g : Input) (s t : Table) (a b j : ℕ) → AllOlder g s t a b j → fits_group g s j a ≡ fits_group g t j b
unfolding fits_group has_place
view_group g s t a b j h =
    let w : ℕ = g.machine.limits.width in
    let total : sum_below j (λ k. share w (uops_of g k) (s k).dispatch a) ≡ sum_below j (λ k. share w (uops_of g k) (t k).dispatch b) = sum_same j _ _ (λ k lt. (h k lt).shares) in
    let ends : all_below j (λ k. not (g.row k).ends_group || nat_eq (share w (uops_of g k) (s k).dispatch a) 0) ≡ all_below j (λ k. not (g.row k).ends_group || nat_eq (share w (uops_of g k) (t k).dispatch b) 0)
    = all_same j _ _ (λ k lt. ap (λ n. not (g.row k).ends_group || nat_eq n 0) ((h k lt).shares)) in
    rw (total, ends) refl

view_reorder : (g : Input) (s t : Table) (a b j : ℕ) → AllOlder g s t a b j → fits_reorder g s j a ≡ fits_reorder g t j b
unfolding fits_reorder
view_reorder g s t a b j h = ap (λ n. nat_le (n + uops_of g j) g.machine.limits.reorder) (sum_same j _ _ (λ k lt. ap (λ x. if x then uops_of g k else 0) ((h k lt).holds)))

view_file : (g : Input) (s t : Table) (a b j : ℕ) → AllOlder g s t a b j → (o : Option FileShare) → fits_file g s j a o ≡ fits_file g t j b o
view_file g s t a b j h None = refl
view_file g s t a b j h (Some f) = ap (λ n. nat_eq (g.machine.file_size f.file) 0 || nat_le (n + f.cost) (g.machine.file_size f.file)) (sum_same j _ _ (λ k lt. ap (λ x. if x then cost_in g.machine f.file (g.row k).rd else 0) ((h k lt).holds)))

view_registers : (g : Input) (s t : Table) (a b j : ℕ) → AllOlder g s t a b j → fits_registers g s j a ≡ fits_registers g t j b
unfolding fits_registers
view_registers g s t a b j h =
    let held : count_below j (λ k. nat_lt 0 (g.row k).rd && is_held s a k) ≡ count_below j (λ k. nat_lt 0 (g.row k).rd && is_held t b k) = count_same j _ _ (λ k lt. ap (λ x. nat_lt 0 (g.row k).rd && x) ((h k lt).holds)) in
    rw (held, view_file g s t a b j h (g.machine.file_of (g.row j).rd)) refl

view_loads : (g : Input) (s t : Table) (a b j : ℕ) → AllOlder g s t a b j → fits_loads g s j a ≡ fits_loads g t j b
unfolding fits_loads
view_loads g s t a b j h = ap (λ n. not (is_load (g.row j).kind) || has_room g.machine.limits.loads n) (count_same j _ _ (λ k lt. ap (λ x. is_load (g.row k).kind && x) ((h k lt).holds)))

view_stores : (g : Input) (s t : Table) (a b j : ℕ) → AllOlder g s t a b j → fits_stores g s j a ≡ fits_stores g t j b
unfolding fits_stores
view_stores g s t a b j h = ap (λ n. not (is_store (g.row j).kind) || has_room g.machine.limits.stores n) (count_same j _ _ (λ k lt. ap (λ x. is_store (g.row k).kind && x) ((h k lt).holds)))

view_buffers : (g : Input) (s t : Table) (a b j : ℕ) → AllOlder g s t a b j → fits_buffers g s j a ≡ fits_buffers g t j b
unfolding fits_buffers
view_buffers g s t a b j h = list_all_same (g.row j).uses _ _ (λ w. ap (has_room (entries (g.machine.buffer w.resource))) (count_same j _ _ (λ k lt. ap (λ x. names w.resource (g.row k) && x) ((h k lt).waits))))

-- so a row may dispatch in both or in neither, where a reserved row whose turn it is may issue in both or in neither
pub view_dispatch : (g : Input) (s t : Table) (a b j : ℕ) → AllOlder g s t a b j
    → ((g.row j).reserved ≡ true → follows (λ k. (t k).dispatch) j b ≡ true → can_start g s j a ≡ can_start g t j b) → can_dispatch g s j a ≡ can_dispatch g t j b
unfolding can_dispatch
view_dispatch g s t a b j h issue =
    let order : follows (λ k. (s k).dispatch) j a ≡ follows (λ k. (t k).dispatch) j b = follows_same (λ k. (s k).dispatch) (λ k. (t k).dispatch) j a b (λ k lt. (h k lt).order) in
    rw (order, view_group g s t a b j h, view_reorder g s t a b j h, view_registers g s t a b j h, view_loads g s t a b j h, view_stores g s t a b j h, view_buffers g s t a b j h)
    (go _ _ _ _ _ _ _ (g.row j).reserved issue)
  where
    go : (f x2 x3 x4 x5 x6 y r : Bool) → (r ≡ true → f ≡ true → can_start g s j a ≡ can_start g t j b)
        → (f && x2 && x3 && x4 && x5 && x6 && (if r then can_start g s j a else y)) ≡ (f && x2 && x3 && x4 && x5 && x6 && (if r then can_start g t j b else y))
    go true x2 x3 x4 x5 x6 y true e = ap (λ z. true && x2 && x3 && x4 && x5 && x6 && z) (e refl refl)
    go false x2 x3 x4 x5 x6 y true e = refl
    go f x2 x3 x4 x5 x6 y false e = refl
