-- Each condition of a dispatch but the last, once it holds, keeps holding until the row dispatches.
use Rattle.std.proofs.Common.{zero, suc, ◌≡◌, ℕ, ◌+◌, ◌-◌, ◌*◌, ◌<◌, ◌≤◌, inl, inr, arith, refl, sym, ◌∙◌, ap, Bool, true, false, ◌&&◌, ◌||◌, not, List, [], ◌∷◌}
use Rattle.std.specs.Prelude.{nat_eq, nat_le, nat_lt, if◌then◌else◌, Option, Some, None, min}
use Rattle.std.specs.List.{list_all}
use Rattle.std.proofs.lemmas.Bool.{cases_Bool, and_parts}
use Rattle.std.proofs.lemmas.Bool.Decides.{nat_tests}
use Rattle.std.proofs.lemmas.Nat.{mul-le}
use Rattle.std.proofs.lemmas.List.Folds.{list_all-append}
use Rattle.cycle_rules.specs.Below.{sum_below, count_below, all_below}
use Rattle.cycle_rules.specs.Row.{Input, Table, uops_of, names, entries, is_load, is_store}
use Rattle.cycle_rules.specs.Seen.{sees}
use Rattle.cycle_rules.specs.Dispatch.{has_room, share, has_place, is_held, fits_group, fits_reorder, cost_in, fits_file, fits_registers, fits_loads, fits_stores, fits_buffers}
use Rattle.machine_model.specs.declared.facts.FileShare.{FileShare}
use Rattle.dep_graph.specs.Stalls.{condition, holds}
use Rattle.dep_graph.proofs.Spans.{count_same}
use Rattle.dep_graph.proofs.Past.{IsNext, sum_same, sum_le, count_le, all_same, all_more, dispatch_seen, held_seen, waits_seen}

-- Read from the table alone

along_true : (x y : Bool) → x ≡ y → x ≡ true → y ≡ true
along_true x y e h = sym e ∙ h

-- Tests

room_less : (bound held less : ℕ) → less ≤ held → has_room bound held ≡ true → has_room bound less ≡ true
unfolding has_room
room_less bound held less le h = grind (arith, nat_tests, le, h)

fits_less : (sum less x bound : ℕ) → less ≤ sum → nat_le (sum + x) bound ≡ true → nat_le (less + x) bound ≡ true
fits_less sum less x bound le h = grind (arith, nat_tests, le, h)

none_less : (a b : ℕ) → b ≤ a → nat_eq a 0 ≡ true → nat_eq b 0 ≡ true
none_less a b le z = grind (arith, nat_tests, le, z)

or_more : (x y z : Bool) → (y ≡ true → z ≡ true) → (x || y) ≡ true → (x || z) ≡ true
or_more true y z f h = refl
or_more false y z f h = f h

and_more : (a b x y : Bool) → (a ≡ true → x ≡ true) → (b ≡ true → y ≡ true) → (a && b) ≡ true → (x && y) ≡ true
and_more true true x y f h is = rw (f refl, h refl) refl
and_more true false x y f h is = absurd (grind (arith, is))
and_more false b x y f h is = absurd (grind (arith, is))

pub list_all_cons : {X : Type 0} (p : X → Bool) (x : X) (xs : List X) → list_all p (x ∷ xs) ≡ (p x && list_all p xs)
list_all_cons p x xs = list_all-append p (x ∷ []) xs ∙ ap (λ b. b && list_all p xs) (one (p x))
  where
    one : (b : Bool) → (b && true) ≡ b
    one true = refl
    one false = refl

list_all_more : {X : Type 0} (p q : X → Bool) → ((x : X) → p x ≡ true → q x ≡ true) → (xs : List X) → list_all p xs ≡ true → list_all q xs ≡ true
list_all_more p q h [] all = refl
list_all_more p q h (x ∷ xs) all =
    let parts : (p x ≡ true) × (list_all p xs ≡ true) = and_parts _ _ (sym (list_all_cons p x xs) ∙ all) in
    list_all_cons q x xs ∙ (rw (h x parts.0, list_all_more p q h xs parts.1) refl)

-- A share does not grow

share_less : (width size from c e : ℕ) → from ≤ c → c ≤ e → share width size from e ≤ share width size from c
unfolding share
share_less width size from c e le later =
    let a : nat_le from c ≡ true = grind (arith, nat_tests, le) in
    let b : nat_le from e ≡ true = grind (arith, nat_tests, le, later) in
    let through : width * (c - from) ≤ width * (e - from) = mul-le width (c - from) width (e - from) (omega arith) (omega (arith, le, later)) in
    rw (a, b) (omega (arith, through))

-- The sums and counts do not grow

held_less : (t : Table) (c e k : ℕ) → c ≤ e → is_held t e k ≡ true → is_held t c k ≡ true
held_less t c e k le h = grind (arith, nat_tests, le, h)

held_sum_less : (t : Table) (c e n : ℕ) (w : ℕ → ℕ) → c ≤ e → sum_below n (λ k. if is_held t e k then w k else 0) ≤ sum_below n (λ k. if is_held t c k then w k else 0)
held_sum_less t c e n w le = sum_le n _ _ (λ k lt. elim (cases_Bool (is_held t e k)) [
  | inl is ↦ rw (is, held_less t c e k le is) (omega arith)
  | inr gone ↦ rw gone (omega arith)
])

held_count_less : (t : Table) (c e n : ℕ) (p : ℕ → Bool) → c ≤ e → count_below n (λ k. p k && is_held t e k) ≤ count_below n (λ k. p k && is_held t c k)
held_count_less t c e n p le = count_le n _ _ (λ k lt h. and_more (p k) (is_held t e k) (p k) (is_held t c k) (λ x. x) (held_less t c e k le) h)

-- The conditions over the table

group_keeps : (g : Input) (t : Table) (j c e : ℕ) → IsNext g t j c → c ≤ e → fits_group g t j c ≡ true → fits_group g t j e ≡ true
unfolding fits_group has_place
group_keeps g t j c e next le h =
    let width : ℕ = g.machine.limits.width in
    let u : ℕ → ℕ = uops_of g in
    let now : ℕ = sum_below j (λ k. share width (u k) (t k).dispatch c) in
    let then_ : ℕ = sum_below j (λ k. share width (u k) (t k).dispatch e) in
    let less : then_ ≤ now = sum_le j _ _ (λ k lt. share_less width (u k) (t k).dispatch c e (next.past k lt) le) in
    and_more _ _ _ _ (λ h. and_more _ _ _ _
    (λ h. fits_less now then_ (min (u j) width) width less h)
    (λ h. or_more _ (nat_eq now 0) (nat_eq then_ 0) (none_less now then_ less) h) h)
    (λ h. all_more j _ _ (λ k lt at. or_more (not (g.row k).ends_group) (nat_eq (share width (u k) (t k).dispatch c) 0) (nat_eq (share width (u k) (t k).dispatch e) 0) (λ z. none_less _ _ (share_less width (u k) (t k).dispatch c e (next.past k lt) le) z) at) h) h

reorder_keeps : (g : Input) (t : Table) (j c e : ℕ) → c ≤ e → fits_reorder g t j c ≡ true → fits_reorder g t j e ≡ true
unfolding fits_reorder
reorder_keeps g t j c e le h = fits_less _ _ (uops_of g j) g.machine.limits.reorder (held_sum_less t c e j (uops_of g) le) h

file_keeps : (g : Input) (t : Table) (j c e : ℕ) (o : Option FileShare) → c ≤ e → fits_file g t j c o ≡ true → fits_file g t j e o ≡ true
file_keeps g t j c e None le h = refl
file_keeps g t j c e (Some s) le h = or_more _ _ _ (fits_less _ _ s.cost (g.machine.file_size s.file) (held_sum_less t c e j (λ k. cost_in g.machine s.file (g.row k).rd) le)) h

registers_keep : (g : Input) (t : Table) (j c e : ℕ) → c ≤ e → fits_registers g t j c ≡ true → fits_registers g t j e ≡ true
unfolding fits_registers
registers_keep g t j c e le h = or_more _ _ _ (λ h. and_more _ _ _ _ (room_less g.machine.limits.registers _ _ (held_count_less t c e j (λ k. nat_lt 0 (g.row k).rd) le)) (file_keeps g t j c e (g.machine.file_of (g.row j).rd) le) h) h

loads_keep : (g : Input) (t : Table) (j c e : ℕ) → c ≤ e → fits_loads g t j c ≡ true → fits_loads g t j e ≡ true
unfolding fits_loads
loads_keep g t j c e le h = or_more _ _ _ (room_less g.machine.limits.loads _ _ (held_count_less t c e j (λ k. is_load (g.row k).kind) le)) h

stores_keep : (g : Input) (t : Table) (j c e : ℕ) → c ≤ e → fits_stores g t j c ≡ true → fits_stores g t j e ≡ true
unfolding fits_stores
stores_keep g t j c e le h = or_more _ _ _ (room_less g.machine.limits.stores _ _ (held_count_less t c e j (λ k. is_store (g.row k).kind) le)) h

buffers_keep : (g : Input) (t : Table) (j c e : ℕ) → c ≤ e → fits_buffers g t j c ≡ true → fits_buffers g t j e ≡ true
unfolding fits_buffers
buffers_keep g t j c e le h = list_all_more _ _ (λ w. room_less (entries (g.machine.buffer w.resource)) _ _ (count_le j _ _ (λ k lt. and_more (names w.resource (g.row k)) _ (names w.resource (g.row k)) _ (λ x. x) (λ z. grind (arith, nat_tests, le, z))))) (g.row j).uses h

-- condition k of the first six, over the table
pub condition_keeps : (g : Input) (t : Table) (j c e k : ℕ) → IsNext g t j c → c ≤ e → k < 6 → condition g t j c k ≡ true → condition g t j e k ≡ true
condition_keeps g t j c e zero next le lt = group_keeps g t j c e next le
condition_keeps g t j c e (suc zero) next le lt = reorder_keeps g t j c e le
condition_keeps g t j c e (suc (suc zero)) next le lt = registers_keep g t j c e le
condition_keeps g t j c e (suc (suc (suc zero))) next le lt = loads_keep g t j c e le
condition_keeps g t j c e (suc (suc (suc (suc zero)))) next le lt = stores_keep g t j c e le
condition_keeps g t j c e (suc (suc (suc (suc (suc zero))))) next le lt = or_more _ _ _ (buffers_keep g t j c e le)
condition_keeps g t j c e (suc (suc (suc (suc (suc (suc k)))))) next le lt = absurd (omega (arith, lt))

-- What the row sees is what the table says

file_seen : (g : Input) (t : Table) (j c : ℕ) (o : Option FileShare) → j < g.rows → fits_file g (sees g t 2 j c) j c o ≡ fits_file g t j c o
file_seen g t j c None row = refl
file_seen g t j c (Some s) row = ap (λ x. nat_eq (g.machine.file_size s.file) 0 || nat_le (x + s.cost) (g.machine.file_size s.file)) (sum_same j _ _ (λ k lt. ap (λ b. if b then cost_in g.machine s.file (g.row k).rd else 0) (held_seen g t j c k row lt)))

list_all_same : {X : Type 0} (p q : X → Bool) → ((x : X) → p x ≡ q x) → (xs : List X) → list_all p xs ≡ list_all q xs
list_all_same p q h [] = refl
list_all_same p q h (x ∷ xs) = list_all_cons p x xs ∙ (λ i. h x i && list_all_same p q h xs i) ∙ sym (list_all_cons q x xs)

pub condition_seen : (g : Input) (t : Table) (j c k : ℕ) → IsNext g t j c → k < 6 → condition g (sees g t 2 j c) j c k ≡ condition g t j c k
unfolding fits_group has_place fits_reorder fits_registers fits_loads fits_stores fits_buffers
condition_seen g t j c zero next lt =
    let width : ℕ = g.machine.limits.width in
    let sum : sum_below j (λ k. share width (uops_of g k) (sees g t 2 j c k).dispatch c) ≡ sum_below j (λ k. share width (uops_of g k) (t k).dispatch c) = sum_same j _ _ (λ k l. ap (λ d. share width (uops_of g k) d c) (dispatch_seen g t j c k next l)) in
    let all : all_below j (λ k. not (g.row k).ends_group || nat_eq (share width (uops_of g k) (sees g t 2 j c k).dispatch c) 0) ≡ all_below j (λ k. not (g.row k).ends_group || nat_eq (share width (uops_of g k) (t k).dispatch c) 0) = all_same j _ _ (λ k l. ap (λ d. not (g.row k).ends_group || nat_eq (share width (uops_of g k) d c) 0) (dispatch_seen g t j c k next l)) in
    λ i. nat_le (sum i + min (uops_of g j) width) width && (not ((g.row j).begins_group || nat_lt width (uops_of g j)) || nat_eq (sum i) 0) && all i
condition_seen g t j c (suc zero) next lt = ap (λ x. nat_le (x + uops_of g j) g.machine.limits.reorder) (sum_same j _ _ (λ k l. ap (λ b. if b then uops_of g k else 0) (held_seen g t j c k next.row l)))
condition_seen g t j c (suc (suc zero)) next lt =
    let count : count_below j (λ k. nat_lt 0 (g.row k).rd && is_held (sees g t 2 j c) c k) ≡ count_below j (λ k. nat_lt 0 (g.row k).rd && is_held t c k) = count_same j _ _ (λ k l. ap (λ b. nat_lt 0 (g.row k).rd && b) (held_seen g t j c k next.row l)) in
    λ i. nat_eq (g.row j).rd 0 || (has_room g.machine.limits.registers (count i) && file_seen g t j c (g.machine.file_of (g.row j).rd) next.row i)
condition_seen g t j c (suc (suc (suc zero))) next lt = ap (λ x. not (is_load (g.row j).kind) || has_room g.machine.limits.loads x) (count_same j _ _ (λ k l. ap (λ b. is_load (g.row k).kind && b) (held_seen g t j c k next.row l)))
condition_seen g t j c (suc (suc (suc (suc zero)))) next lt = ap (λ x. not (is_store (g.row j).kind) || has_room g.machine.limits.stores x) (count_same j _ _ (λ k l. ap (λ b. is_store (g.row k).kind && b) (held_seen g t j c k next.row l)))
condition_seen g t j c (suc (suc (suc (suc (suc zero))))) next lt = ap (λ x. (g.row j).reserved || x) (list_all_same _ _ (λ w. ap (has_room (entries (g.machine.buffer w.resource))) (count_same j _ _ (λ k l. ap (λ b. names w.resource (g.row k) && b) (waits_seen g t j c k next.row l)))) (g.row j).uses)
condition_seen g t j c (suc (suc (suc (suc (suc (suc k)))))) next lt = absurd (omega (arith, lt))

-- each condition but the last, once it holds, keeps holding
pub holds_on : (g : Input) (t : Table) (j c e k : ℕ) → IsNext g t j c → c ≤ e → k < 6 → holds g t j k c ≡ true → holds g t j k e ≡ true
holds_on g t j c e k next le lt h =
    let after : IsNext g t j e = record { row = next.row; past = λ i l. omega (arith, next.past i l, le) } in
    condition_seen g t j e k after lt ∙ condition_keeps g t j c e k next le lt (sym (condition_seen g t j c k next lt) ∙ h)
