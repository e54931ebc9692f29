-- What is kept while the rows of a run go by, and the stalls of a row.
use Rattle.std.proofs.Common.{suc, ◌≡◌, ℕ, ◌+◌, ◌-◌, ◌<◌, ◌≤◌, inl, inr, arith, refl, sym, ◌∙◌, ap, subst, Bool, true, false, ◌&&◌, ◌||◌, not, List, length}
use Rattle.std.specs.Prelude.{sum, [], ◌∷◌, nat_eq, nat_le, nat_lt, max, if◌then◌else◌, Some, None, slice_set}
use Rattle.std.proofs.lemmas.Bool.{cases_eq, cases_Bool, and_parts}
use Rattle.std.proofs.lemmas.Bool.Decides.{nat_tests}
use Rattle.std.proofs.lemmas.List.{get_or-set_same, get_or-set_other, length-set}
use Rattle.machine_model.specs.Meaning.{MachineMeaning}
use Rattle.machine_model.specs.declared.facts.FileShare.{FileShare}
use Rattle.cycle_rules.specs.Below.{sum_below, count_below}
use Rattle.cycle_rules.specs.Row.{Input, Table, uops_of, is_load, is_store}
use Rattle.cycle_rules.specs.Seen.{sees}
use Rattle.cycle_rules.specs.Dispatch.{has_room, is_held, cost_in, fits_file, fits_registers, fits_reorder, fits_loads, fits_stores}
use Rattle.cycle_rules.specs.Retire.{can_retire}
use Rattle.cycle_rules.specs.Run.{IsRow}
use Rattle.dep_graph.specs.Stalls.{condition, holds, stalls_by, stalls}
use Rattle.dep_graph.specs.Thresholds.{start, span, counted, mark, row_stalls}
use Rattle.dep_graph.specs.RowCounts.{AreOfRow, listed, total, both}
use Rattle.dep_graph.specs.Walk.{IsWindow, AreFiles, window_at, weight_of, is_enough, stalls_of, sums_of}
use Rattle.dep_graph.specs.declared.counts.Counts.{Counts}
use Rattle.dep_graph.specs.declared.counts.Marks.{Marks}
use Rattle.dep_graph.specs.declared.window.Limited.TheVariants.{Entries, Registers, Loads, Stores, FileRegisters}
use Rattle.dep_graph.specs.declared.window.Window.{Window}
use Rattle.dep_graph.proofs.Pointers.{count_held}
use Rattle.dep_graph.proofs.Spans.{counted_is}
use Rattle.dep_graph.proofs.Reached.{threshold_at, free_rest, reserved_rest}
use Rattle.dep_graph.proofs.Runs.{AreRows, keeps_of, stalls_rows, all_stalls}
use Rattle.dep_graph.proofs.Timed.{issued, le_max}
use Rattle.dep_graph.proofs.Windows.{window_over}

-- All times of a run are early

pub some_uops : (g : Input) (j : ℕ) → 1 ≤ (g.row j).uops → 1 ≤ g.machine.limits.reorder → 1 ≤ uops_of g j
unfolding uops_of
some_uops g j a b = omega (arith, a, b)

complete_late : (b : Bool) (w c l : ℕ) → nat_lt (if b then w else c + 1 + l) c ≡ true → w < c
complete_late true w c l h = grind (arith, nat_tests, h)
complete_late false w c l h = absurd (let lt : c + 1 + l < c = grind (arith, nat_tests, h) in omega (arith, lt))

completes : (g : Input) (t : Table) (j c : ℕ) → can_retire g t j c ≡ true → nat_lt (t j).complete c ≡ true
unfolding can_retire
completes g t j c h = (and_parts _ _ (and_parts _ _ h).0).0

pub issue_early : (g : Input) (t : Table) (j : ℕ) → AreRows g t → j < g.rows → ((t j).dispatch ≤ (t j).issue) × ((t j).complete < (t j).retire) × ((t j).issue ≤ (t j).complete)
issue_early g t j rows lt =
    let row : IsRow g t j = rows j lt in
    let late : (t j).complete < (t j).retire = complete_late _ (t j).complete (t j).retire (g.row j).latency (completes g (sees g t 0 j (t j).retire) j (t j).retire row.retire.holds) in
    (from_dispatch (g.row j).reserved refl, late, omega (arith, row.complete))
  where
    from_dispatch : (b : Bool) → (g.row j).reserved ≡ b → (t j).dispatch ≤ (t j).issue
    from_dispatch b is = low b is (issued g t j (rows j lt)).1
      where
        low : (b : Bool) → (g.row j).reserved ≡ b → (if (g.row j).reserved then (t j).dispatch else (t j).dispatch + 1) ≤ (t j).issue → (t j).dispatch ≤ (t j).issue
        low true is h = let k : (t j).dispatch ≤ (t j).issue = rw is at h in k
        low false is h = let k : (t j).dispatch + 1 ≤ (t j).issue = rw is at h in omega (arith, k)

pub least_uops : (g : Input) (j : ℕ) → uops_of g j ≤ g.machine.limits.reorder
unfolding uops_of
least_uops g j = omega arith

-- The windows of the register files

pub files_none : (g : Input) (files : List Window) → length files ≡ 8 → ((f : ℕ) → f < 8 → (n : ℕ) → IsWindow g (FileRegisters f) n 0 (window_at files f)) → AreFiles g 0 files
files_none g files size h = record { size = size; window = λ f lt. h f lt (g.machine.file_size f) }

pub files_over : (g : Input) (j : ℕ) (files : List Window) → ((f : ℕ) → cost_in g.machine f (g.row j).rd ≡ 0) → AreFiles g j files → AreFiles g (j + 1) files
files_over g j files none h = record { size = h.size; window = λ f lt. window_over g (FileRegisters f) (g.machine.file_size f) j (window_at files f) (λ some. none f) (h.window f lt) }

pub cost_zero : (m : MachineMeaning) (f r : ℕ) → r ≡ 0 → cost_in m f r ≡ 0
unfolding cost_in
cost_zero m f r e = let t : nat_eq r 0 ≡ true = grind (arith, nat_tests, e) in rw t refl

pub cost_none : (m : MachineMeaning) (f r : ℕ) → m.file_of r ≡ None → cost_in m f r ≡ 0
unfolding cost_in
cost_none m f r e = elim (cases_Bool (nat_eq r 0)) [ inl none ↦ rw none refl | inr some ↦ rw (some, e) refl ]

cost_other : (m : MachineMeaning) (f r : ℕ) (s : FileShare) → m.file_of r ≡ Some s → (f ≡ s.file → ⊥) → cost_in m f r ≡ 0
unfolding cost_in
cost_other m f r s e other =
    let no_ : nat_eq s.file f ≡ false = grind (arith, nat_tests, other) in
    elim (cases_Bool (nat_eq r 0)) [ inl none ↦ rw none refl | inr some ↦ rw (some, e, no_) refl ]

pub cost_here : (m : MachineMeaning) (r : ℕ) (s : FileShare) → m.file_of r ≡ Some s → (r ≡ 0 → ⊥) → cost_in m s.file r ≡ s.cost
unfolding cost_in
cost_here m r s e some =
    let a : nat_eq r 0 ≡ false = grind (arith, nat_tests, some) in
    let b : nat_eq s.file s.file ≡ true = grind (arith, nat_tests) in
    rw (a, e, b) refl

pub files_taken : (g : Input) (j : ℕ) (files : List Window) (s : FileShare) (after : Window) → g.machine.file_of (g.row j).rd ≡ Some s → s.file < 8 → AreFiles g j files
    → IsWindow g (FileRegisters s.file) (g.machine.file_size s.file) (j + 1) after → AreFiles g (j + 1) (slice_set files s.file after)
files_taken g j files s after is low h taken = record {
  size = length-set files s.file after ∙ h.size;
  window = λ f lt. elim (cases_eq f s.file) [
    | inl here ↦ (let got : window_at (slice_set files s.file after) s.file ≡ after = get_or-set_same files s.file after _ (omega (arith, low, h.size)) in
        subst (λ q. IsWindow g (FileRegisters q) (g.machine.file_size q) (j + 1) (window_at (slice_set files s.file after) q)) (sym here) (subst (λ w. IsWindow g (FileRegisters s.file) (g.machine.file_size s.file) (j + 1) w) (sym got) taken))
    | inr other ↦ (let got : window_at (slice_set files s.file after) f ≡ window_at files f = get_or-set_other files s.file f after _ other in
        subst (λ w. IsWindow g (FileRegisters f) (g.machine.file_size f) (j + 1) w) (sym got)
        (window_over g (FileRegisters f) (g.machine.file_size f) j (window_at files f) (λ some. cost_other g.machine f (g.row j).rd s is other) (h.window f lt)))
  ];
}

-- Conditions

pub file_enough : (g : Input) (t : Table) (j c : ℕ) (s : FileShare) → g.machine.file_of (g.row j).rd ≡ Some s → ((g.row j).rd ≡ 0 → ⊥) → 1 ≤ s.cost
    → (nat_eq (g.row j).rd 0 || fits_file g t j c (g.machine.file_of (g.row j).rd)) ≡ is_enough (weight_of g (FileRegisters s.file)) (g.machine.file_size s.file) t j c
file_enough g t j c s is some cost =
    let a : nat_eq (g.row j).rd 0 ≡ false = grind (arith, nat_tests, some) in
    let here : cost_in g.machine s.file (g.row j).rd ≡ s.cost = cost_here g.machine (g.row j).rd s is some in
    let b : nat_eq s.cost 0 ≡ false = grind (arith, nat_tests, cost) in
    rw (a, is, here, b) (ap (λ x. x || nat_le (sum_below j (λ k. if is_held t c k then cost_in g.machine s.file (g.row k).rd else 0) + s.cost) (g.machine.file_size s.file)) (sym (or_false (nat_eq (g.machine.file_size s.file) 0))))
  where
    or_false : (x : Bool) → (x || false) ≡ x
    or_false true = refl
    or_false false = refl

pub counted_enough : (p : ℕ → Bool) (bound : ℕ) (t : Table) (j c : ℕ) → (not (p j) || has_room bound (count_below j (λ k. p k && is_held t c k))) ≡ is_enough (λ k. if p k then 1 else 0) bound t j c
unfolding has_room
counted_enough p bound t j c = ask (p j) (count_below j (λ k. p k && is_held t c k)) (sum_below j (λ k. if is_held t c k then (if p k then 1 else 0) else 0)) (count_held t p c j)
  where
    ask : (b : Bool) (n m : ℕ) → n ≡ m → (not b || (nat_eq bound 0 || nat_lt n bound)) ≡ (nat_eq bound 0 || nat_eq (if b then 1 else 0) 0 || nat_le (m + (if b then 1 else 0)) bound)
    ask true n m e = grind (arith, nat_tests, e)
    ask false n m e = grind (arith, nat_tests)

pub reorder_enough : (g : Input) (t : Table) (j c : ℕ) → 1 ≤ g.machine.limits.reorder → 1 ≤ uops_of g j → fits_reorder g t j c ≡ is_enough (weight_of g Entries) g.machine.limits.reorder t j c
unfolding fits_reorder
reorder_enough g t j c some more =
    let a : nat_eq g.machine.limits.reorder 0 ≡ false = grind (arith, nat_tests, some) in
    let b : nat_eq (uops_of g j) 0 ≡ false = grind (arith, nat_tests, more) in
    rw (a, b) refl

pub loads_enough : (g : Input) (t : Table) (j c : ℕ) → fits_loads g t j c ≡ is_enough (weight_of g Loads) g.machine.limits.loads t j c
unfolding fits_loads
loads_enough g t j c = counted_enough (λ k. is_load (g.row k).kind) g.machine.limits.loads t j c

pub stores_enough : (g : Input) (t : Table) (j c : ℕ) → fits_stores g t j c ≡ is_enough (weight_of g Stores) g.machine.limits.stores t j c
unfolding fits_stores
stores_enough g t j c = counted_enough (λ k. is_store (g.row k).kind) g.machine.limits.stores t j c

pub registers_from : (g : Input) (t : Table) (j c a b : ℕ) → is_enough (weight_of g Registers) g.machine.limits.registers t j c ≡ nat_le a c
    → (nat_eq (g.row j).rd 0 || fits_file g t j c (g.machine.file_of (g.row j).rd)) ≡ nat_le b c → fits_registers g t j c ≡ nat_le (max a b) c
unfolding fits_registers
registers_from g t j c a b one two =
    let held : ℕ = count_below j (λ k. nat_lt 0 (g.row k).rd && is_held t c k) in
    let enough : (not (nat_lt 0 (g.row j).rd) || has_room g.machine.limits.registers held) ≡ nat_le a c = counted_enough (λ k. nat_lt 0 (g.row k).rd) g.machine.limits.registers t j c ∙ one in
    parted (nat_eq (g.row j).rd 0) (nat_lt 0 (g.row j).rd) (has_room g.machine.limits.registers held) (fits_file g t j c (g.machine.file_of (g.row j).rd)) (zero_or (g.row j).rd)
    ∙ (λ i. enough i && two i) ∙ le_max a b c
  where
    zero_or : (r : ℕ) → nat_eq r 0 ≡ not (nat_lt 0 r)
    zero_or r = grind (arith, nat_tests)

    parted : (z p x y : Bool) → z ≡ not p → (z || (x && y)) ≡ ((not p || x) && (z || y))
    parted true p x y e = rw (← e) refl
    parted false p x y e = rw (← e) refl

pub next_start : (t : Table) (j : ℕ) → (t j).dispatch ≡ start t (j + 1)
next_start t j = let e : suc j ≡ j + 1 = omega arith in ap (start t) e

-- The stalls of a row

pub row_stalls_are : (g : Input) (t : Table) (j : ℕ) (from : Marks) (reserved : Bool) (counts : Counts) → AreRows g t → j < g.rows → (g.row j).reserved ≡ reserved
    → ((c : ℕ) → start t j ≤ c → condition g t j c 0 ≡ nat_le from.group c) → ((c : ℕ) → start t j ≤ c → condition g t j c 1 ≡ nat_le from.reorder c)
    → ((c : ℕ) → start t j ≤ c → condition g t j c 2 ≡ nat_le from.registers c) → ((c : ℕ) → start t j ≤ c → condition g t j c 3 ≡ nat_le from.loads c)
    → ((c : ℕ) → start t j ≤ c → condition g t j c 4 ≡ nat_le from.stores c) → AreOfRow (start t j) from (t j).dispatch reserved counts → counts ≡ stalls_of g t j
row_stalls_are g t j from reserved counts rows lt is h0 h1 h2 h3 h4 h =
    λ i. record { group = group i; reorder = reorder i; registers = registers i; loads = loads i; stores = stores i; buffers = rest reserved is (h.buffers) i; reserved = last reserved is (h.reserved_is) i }
  where
    s : ℕ
    s = start t j

    m : ℕ → ℕ
    m = mark (start t j) (span t j) (holds g t j)

    m0 : m 0 ≡ s
    m0 = refl

    up : (k a : ℕ) → k < 6 → ((c : ℕ) → start t j ≤ c → condition g t j c k ≡ nat_le a c) → m (suc k) ≡ max (m k) (max s a)
    up k a few h = ap (max (m k)) (threshold_at g t j k a rows lt few h)

    m1 : m 1 ≡ max s from.group
    m1 = omega (arith, up 0 from.group (omega arith) h0, m0)

    m2 : m 2 ≡ max (max s from.group) from.reorder
    m2 = omega (arith, up 1 from.reorder (omega arith) h1, m1)

    m3 : m 3 ≡ max (max (max s from.group) from.reorder) from.registers
    m3 = omega (arith, up 2 from.registers (omega arith) h2, m2)

    m4 : m 4 ≡ max (max (max (max s from.group) from.reorder) from.registers) from.loads
    m4 = omega (arith, up 3 from.loads (omega arith) h3, m3)

    m5 : m 5 ≡ max (max (max (max (max s from.group) from.reorder) from.registers) from.loads) from.stores
    m5 = omega (arith, up 4 from.stores (omega arith) h4, m4)

    counted_of : (k : ℕ) → k < 6 → row_stalls g t k j ≡ m (suc k) - m k
    counted_of k few = counted_is (start t j) (span t j) (holds g t j) k (keeps_of g t j rows lt) few

    group : counts.group ≡ row_stalls g t 0 j
    group = h.group ∙ sym (counted_of 0 (omega arith) ∙ (λ i. m1 i - m0 i))

    reorder : counts.reorder ≡ row_stalls g t 1 j
    reorder = h.reorder ∙ sym (counted_of 1 (omega arith) ∙ (λ i. m2 i - m1 i))

    registers : counts.registers ≡ row_stalls g t 2 j
    registers = h.registers ∙ sym (counted_of 2 (omega arith) ∙ (λ i. m3 i - m2 i))

    loads : counts.loads ≡ row_stalls g t 3 j
    loads = h.loads ∙ sym (counted_of 3 (omega arith) ∙ (λ i. m4 i - m3 i))

    stores : counts.stores ≡ row_stalls g t 4 j
    stores = h.stores ∙ sym (counted_of 4 (omega arith) ∙ (λ i. m5 i - m4 i))

    rest : (b : Bool) → (g.row j).reserved ≡ b → counts.buffers ≡ (if b then 0 else (t j).dispatch - max (max (max (max (max s from.group) from.reorder) from.registers) from.loads) from.stores) → counts.buffers ≡ row_stalls g t 5 j
    rest true is e = e ∙ sym (reserved_rest g t j rows lt is).0
    rest false is e = e ∙ sym ((free_rest g t j rows lt is).1 ∙ ap (λ x. (t j).dispatch - x) m5)

    last : (b : Bool) → (g.row j).reserved ≡ b → counts.reserved ≡ (if b then (t j).dispatch - max (max (max (max (max s from.group) from.reorder) from.registers) from.loads) from.stores else 0) → counts.reserved ≡ row_stalls g t 6 j
    last true is e = e ∙ sym ((reserved_rest g t j rows lt is).1 ∙ ap (λ x. (t j).dispatch - x) m5)
    last false is e = e ∙ sym (free_rest g t j rows lt is).0

-- The stalls of the rows that have gone by

pub sums_none : (g : Input) (t : Table) → sums_of g t 0 ≡ record { group = 0; reorder = 0; registers = 0; loads = 0; stores = 0; buffers = 0; reserved = 0 }
unfolding sum_below
sums_none g t = refl

pub sums_more : (g : Input) (t : Table) (j : ℕ) → both (sums_of g t j) (stalls_of g t j) ≡ sums_of g t (j + 1)
unfolding sum_below
sums_more g t j = let e : suc j ≡ j + 1 = omega arith in ap (sums_of g t) e

-- a row that dispatches as soon as it is the next one has none
pub sums_same : (g : Input) (t : Table) (j : ℕ) → (t j).dispatch ≡ start t j → sums_of g t j ≡ sums_of g t (j + 1)
unfolding sum_below count_below
sums_same g t j is = (λ i. record { group = same 0 i; reorder = same 1 i; registers = same 2 i; loads = same 3 i; stores = same 4 i; buffers = same 5 i; reserved = same 6 i }) ∙ ap (sums_of g t) next
  where
    next : suc j ≡ j + 1
    next = omega arith

    none : (k : ℕ) → row_stalls g t k j ≡ 0
    none k = let e : span t j ≡ 0 = omega (arith, is) in ap (λ n. counted (start t j) n (holds g t j) k) e

    same : (k : ℕ) → sum_below j (row_stalls g t k) ≡ sum_below j (row_stalls g t k) + row_stalls g t k j
    same k = omega (arith, none k)

seven : (f : ℕ → ℕ) → f 0 + f 1 + f 2 + f 3 + f 4 + f 5 + f 6 ≡ sum_below 7 f
unfolding sum_below
seven f = omega arith

pub total_sums : (g : Input) (t : Table) (n : ℕ) → AreRows g t → n ≤ g.rows → total (sums_of g t n) ≡ start t n
total_sums g t n rows le = seven (λ k. sum_below n (row_stalls g t k)) ∙ all_stalls g t n rows le

-- with those of the next row they are no more than its dispatch
pub total_low : (g : Input) (t : Table) (j : ℕ) → AreRows g t → j < g.rows → total (sums_of g t j) + total (stalls_of g t j) ≡ (t j).dispatch
total_low g t j rows lt =
    let more : total (both (sums_of g t j) (stalls_of g t j)) ≡ total (sums_of g t (j + 1)) = ap total (sums_more g t j) in
    let all : total (sums_of g t (j + 1)) ≡ start t (j + 1) = total_sums g t (j + 1) rows (omega (arith, lt)) in
    let split : total (both (sums_of g t j) (stalls_of g t j)) ≡ total (sums_of g t j) + total (stalls_of g t j) = omega arith in
    omega (arith, more, all, split, next_start t j)

pub listed_sums : (g : Input) (t : Table) → AreRows g t → listed (sums_of g t g.rows) ≡ stalls g t
listed_sums g t rows = λ i. sym (at 0) i ∷ sym (at 1) i ∷ sym (at 2) i ∷ sym (at 3) i ∷ sym (at 4) i ∷ sym (at 5) i ∷ sym (at 6) i ∷ []
  where
    at : (k : ℕ) → stalls_by g t k ≡ sum_below g.rows (row_stalls g t k)
    at k = stalls_rows g t k g.rows rows (omega arith)

pub listed_total : (a : Counts) → sum (listed a) ≡ total a
listed_total a = omega arith
