-- Where no time falls due, a row may take a step in both of two cycles, or in neither.
use Rattle.std.proofs.Common.{zero, suc, ◌≡◌, ℕ, ◌+◌, ◌-◌, ◌*◌, ◌<◌, ◌≤◌, inl, inr, List, [], ◌∷◌, length, arith, sym, ◌∙◌, ap, subst, refl, Bool, true, false, not, ◌&&◌, ◌||◌, min}
use Rattle.std.specs.Prelude.{nat_lt, nat_le, nat_eq, if◌then◌else◌, Option, Some, None, is_some, slice_index_or}
use Rattle.std.specs.List.{list_all, list_any}
use Rattle.std.proofs.Math.Nat.{mul-le-mul_left}
use Rattle.std.proofs.lemmas.Bool.Decides.{nat_tests}
use Rattle.std.proofs.lemmas.Bool.{cases_lt}
use Rattle.machine_model.specs.Meaning.{MachineMeaning}
use Rattle.machine_model.specs.Valid.{no_use}
use Rattle.machine_model.specs.declared.facts.FileShare.{FileShare}
use Rattle.machine_model.specs.declared.facts.Use.{Use}
use Rattle.cycle_rules.specs.Below.{sum_below, count_below, all_below, last_below}
use Rattle.cycle_rules.specs.Dispatch.{has_room, follows, share, has_place, fits_group, is_held, fits_reorder, cost_in, fits_file, fits_registers, fits_loads, fits_stores, fits_buffers, can_dispatch}
use Rattle.cycle_rules.specs.Given.{has_all_room}
use Rattle.cycle_rules.specs.Held.{NoChange, changes_at}
use Rattle.cycle_rules.specs.Issue.{producer, is_ready, has_operand, has_operands, memory_order, older_row, may_access, is_fenced, can_start, can_issue}
use Rattle.cycle_rules.specs.Pick.{Taken, taken_by, pick}
use Rattle.cycle_rules.specs.Row.{Input, Table, times, no_times, phase, uops_of, names, entries, lead, advance_of, is_load, is_store}
use Rattle.cycle_rules.specs.Seen.{key_at, comes_before, has_issued, sees}
use Rattle.cycle_rules.specs.Still.{IsStill, IsRowStill, IsReadStill, no_source}
use Rattle.cycle_rules.specs.declared.bound.Source.{Source}
use Rattle.cycle_rules.specs.declared.times.Times.{Times}
use Rattle.cycle_rules.proofs.Counts.{count_same}
use Rattle.cycle_rules.proofs.Tests.{or_none}
use Rattle.cycle_rules.proofs.Earlier.{not_given, takes_none}
use Rattle.cycle_rules.proofs.Judging.{dispatch_is, issue_is}
use Rattle.cycle_rules.proofs.SeenRows.{sum_agree, all_agree}
use Rattle.cycle_rules.proofs.SeenIssues.{seen_within, ready_by, issued_by, completed_by}
use Rattle.cycle_rules.proofs.UnitRows.{row_stays}

-- the uses of a row give back no unit

no_end : (m : MachineMeaning) (h : Taken) (a b c : ℕ) → IsStill (h.from + h.hold) a b → a < c → c ≤ b → changes_at m c h ≡ false
unfolding changes_at
no_end m h a b c still lt le = grind (arith, nat_tests, still)

pub uses_still : (m : MachineMeaning) (from a b : ℕ) (uses : List Use) (units : List ℕ) → ((i : ℕ) → i < length uses → IsStill (from + (slice_index_or uses i no_use).hold) a b) → NoChange m a b (taken_by from uses units)
unfolding taken_by
uses_still m from a b [] us h c lt le = refl
uses_still m from a b (w ∷ rest) [] h c lt le = refl
uses_still m from a b (w ∷ rest) (u ∷ us) h c lt le = go (nat_eq w.hold 0) (uses_still m from a b rest us (λ i low. h (suc i) (omega arith)) c lt le)
  where
    go : (x : Bool) → list_any (changes_at m c) (taken_by from rest us) ≡ false → list_any (changes_at m c) (if x then taken_by from rest us else record { resource = w.resource; hold = w.hold; unit = u; from = from } ∷ taken_by from rest us) ≡ false
    go true none = none
    go false none = or_none _ _ (no_end m (record { resource = w.resource; hold = w.hold; unit = u; from = from }) a b c (h 0 (omega arith)) lt le) none

pub producer_is : (g : Input) (j r : ℕ) (o : Option ℕ) → o ≡ last_below j (λ k. nat_eq (g.row k).rd r) → o ≡ producer g j r
unfolding producer
producer_is g j r o e = e

-- a row that is not given

still_low : (x a b : ℕ) → x ≤ 1 → 0 < a → a ≤ b → IsStill x a b
still_low x a b low some le = grind (arith, nat_tests)

row_missing : (g : Input) (table : List Times) (a b k : ℕ) → 0 < a → a ≤ b → length table ≤ k → IsRowStill g (times table) a b k
row_missing g table a b k some le missing = record {
  dispatch = subst (λ (x : Times). IsStill x.dispatch a b) (sym none) (still_low 0 a b (omega arith) some le);
  dispatched = subst (λ (x : Times). IsStill (x.dispatch + 1) a b) (sym none) (still_low 1 a b (omega arith) some le);
  issue = subst (λ (x : Times). IsStill x.issue a b) (sym none) (still_low 0 a b (omega arith) some le);
  issued = subst (λ (x : Times). IsStill (x.issue + 1) a b) (sym none) (still_low 1 a b (omega arith) some le);
  complete = subst (λ (x : Times). IsStill x.complete a b) (sym none) (still_low 0 a b (omega arith) some le);
  retire = subst (λ (x : Times). IsStill x.retire a b) (sym none) (still_low 0 a b (omega arith) some le);
  units = subst (NoChange g.machine a b) (sym (takes_none g table k missing)) (λ c lt low. refl);
}
  where
    none : times table k ≡ no_times
    none = not_given table k missing

pub all_still : (g : Input) (table : List Times) (a b : ℕ) → 0 < a → a ≤ b → ((k : ℕ) → k < g.rows → k < length table → IsRowStill g (times table) a b k) → (k : ℕ) → k < g.rows → IsRowStill g (times table) a b k
all_still g table a b some le h k lt = elim (cases_lt k (length table)) [ inl given ↦ h k lt given | inr missing ↦ row_missing g table a b k some le missing ]

-- tests of times

lt_still : (x a b : ℕ) → IsStill x a b → nat_lt a x ≡ nat_lt b x
lt_still x a b h = grind (arith, nat_tests, h)

past_still : (x a b : ℕ) → IsStill (x + 1) a b → nat_lt x a ≡ nat_lt x b
past_still x a b h = grind (arith, nat_tests, h)

order_still : (n x q k a b p j : ℕ) → IsStill x a b → IsStill (x + 1) a b → (nat_lt k n && comes_before (key_at x q k) (key_at a p j)) ≡ (nat_lt k n && comes_before (key_at x q k) (key_at b p j))
unfolding comes_before
order_still n x q k a b p j h s =
    let same : nat_lt x a ≡ nat_lt x b = past_still x a b s in
    let equal : nat_eq x a ≡ nat_eq x b = grind (arith, nat_tests, h, s) in
    rw (same, equal) refl

issued_still : (g : Input) (t : Table) (a b p j : ℕ) → ((k : ℕ) → k < g.rows → IsRowStill g t a b k) → (k : ℕ) → has_issued g t k a p j ≡ has_issued g t k b p j
issued_still g t a b p j h k = elim (cases_lt k g.rows) [
  | inl low ↦ order_still g.rows (t k).issue (phase (g.row k)) k a b p j (h k low).issue (h k low).issued
  | inr high ↦ (let none : nat_lt k g.rows ≡ false = grind (arith, nat_tests, high) in rw none refl)
]

-- whether a row may start

ready_still : (g : Input) (t : Table) (a b p j : ℕ) (s : Source) → ((k : ℕ) → has_issued g t k a p j ≡ has_issued g t k b p j) → (o : Option ℕ) → IsReadStill g t a b s o
    → is_ready g (sees g t p j a) a s.read o ≡ is_ready g (sees g t p j b) b s.read o
ready_still g t a b p j s same None h = refl
ready_still g t a b p j s same (Some k) h =
    ready_by (t k).issue (lead (g.row k).latency (advance_of g.machine s.read (g.row k).write)) a (has_issued g t k a p j)
    ∙ (λ i. same k i && h i)
    ∙ sym (ready_by (t k).issue (lead (g.row k).latency (advance_of g.machine s.read (g.row k).write)) b (has_issued g t k b p j))

all_same : {A : Type 0} (p q : A → Bool) (xs : List A) (d : A) → ((i : ℕ) → i < length xs → p (slice_index_or xs i d) ≡ q (slice_index_or xs i d)) → list_all p xs ≡ list_all q xs
all_same p q [] d h = refl
all_same p q (x ∷ xs) d h = rw (h 0 (omega arith), all_same p q xs d (λ i lt. h (suc i) (omega arith))) refl

operands_still : (g : Input) (t : Table) (a b p j : ℕ) → ((k : ℕ) → has_issued g t k a p j ≡ has_issued g t k b p j)
    → ((i : ℕ) → i < length (g.row j).reads → IsReadStill g t a b (slice_index_or (g.row j).reads i no_source) (producer g j (slice_index_or (g.row j).reads i no_source).reg))
    → has_operands g (sees g t p j a) j a ≡ has_operands g (sees g t p j b) j b
unfolding has_operands has_operand
operands_still g t a b p j same reads = all_same _ _ (g.row j).reads no_source (λ i lt.
    ap (λ x. nat_eq (slice_index_or (g.row j).reads i no_source).reg 0 || x) (ready_still g t a b p j (slice_index_or (g.row j).reads i no_source) same (producer g j (slice_index_or (g.row j).reads i no_source).reg) (reads i lt)))

older_still : (g : Input) (t : Table) (a b p j k : ℕ) → has_issued g t k a p j ≡ has_issued g t k b p j → IsStill (t k).complete a b → older_row g (sees g t p j a) j a k ≡ older_row g (sees g t p j b) j b k
older_still g t a b p j k same h = λ i. record { may_pass = g.machine.limits.no_alias; fenced = is_fenced g k j; issued = issued i; completed = completed i }
  where
    issued : nat_le (sees g t p j a k).issue a ≡ nat_le (sees g t p j b k).issue b
    issued = issued_by (t k).issue a (has_issued g t k a p j) (λ e. seen_within g.rows (t k).issue (phase (g.row k)) k a p j e) ∙ same
        ∙ sym (issued_by (t k).issue b (has_issued g t k b p j) (λ e. seen_within g.rows (t k).issue (phase (g.row k)) k b p j e))

    completed : nat_le (sees g t p j a k).complete a ≡ nat_le (sees g t p j b k).complete b
    completed = completed_by (t k).complete (g.row k).latency a (has_issued g t k a p j) ∙ (λ i. same i && h i) ∙ sym (completed_by (t k).complete (g.row k).latency b (has_issued g t k b p j))

access_still : (g : Input) (t : Table) (a b p j : ℕ) → j < g.rows → ((k : ℕ) → k < g.rows → IsRowStill g t a b k) → may_access g (sees g t p j a) j a ≡ may_access g (sees g t p j b) j b
unfolding may_access
access_still g t a b p j lt h = all_agree j _ _ (λ k older. ap (memory_order (g.row j).kind (g.row k).kind) (older_still g t a b p j k (issued_still g t a b p j h k) (h k (omega arith)).complete))

start_still : (g : Input) (t : Table) (a b p j : ℕ) → a ≤ b → j < g.rows → ((k : ℕ) → k < g.rows → IsRowStill g t a b k)
    → ((i : ℕ) → i < length (g.row j).reads → IsReadStill g t a b (slice_index_or (g.row j).reads i no_source) (producer g j (slice_index_or (g.row j).reads i no_source).reg))
    → can_start g (sees g t p j a) j a ≡ can_start g (sees g t p j b) j b
unfolding can_start
start_still g t a b p j le lt h reads = λ i. operands_still g t a b p j (issued_still g t a b p j h) reads i && access_still g t a b p j lt h i && is_some (units i)
  where
    row_of_issued : (k : ℕ) → has_issued g t k a p j ≡ true → k < g.rows
    row_of_issued k e = elim (cases_lt k g.rows) [
      | inl low ↦ low
      | inr high ↦ absurd (let none : nat_lt k g.rows ≡ false = grind (arith, nat_tests, high) in let no_row : has_issued g t k a p j ≡ false = rw none refl in cc)
    ]

    units : pick g (sees g t p j a) j a ≡ pick g (sees g t p j b) j b
    units = row_stays g t p p j a b le (issued_still g t a b p j h) (λ k e. (h k (row_of_issued k e)).units)

-- whether there is room

follows_still : (f : ℕ → ℕ) (j a b : ℕ) → ((k : ℕ) → k < j → IsStill (f k) a b) → follows f j a ≡ follows f j b
unfolding follows
follows_still f zero a b h = refl
follows_still f (suc k) a b h = h k (omega arith)

share_still : (width size from a b : ℕ) → 0 < width → a ≤ b → IsStill from a b → share width size from a ≡ 0 → share width size from b ≡ 0
unfolding share
share_still width size from a b some le h z = elim (cases_lt a from) [
  | inl early ↦ (let never : nat_le from b ≡ false = grind (arith, nat_tests, h, early) in rw never refl)
  | inr late ↦ (
      let now : nat_le from a ≡ true = grind (arith, nat_tests, late) in
      let later : nat_le from b ≡ true = grind (arith, nat_tests, late, le) in
      let gone : min width (size - width * (a - from)) ≡ 0 = rw now at z in
      let more : width * (a - from) ≤ width * (b - from) = mul-le-mul_left width (let s : a - from ≤ b - from = omega arith in s) in
      rw later (omega (arith, gone, more, some)))
]

none_of : (n : ℕ) (f : ℕ → ℕ) → sum_below n f ≡ 0 → (k : ℕ) → k < n → f k ≡ 0
unfolding sum_below
none_of zero f z k lt = absurd (omega arith)
none_of (suc n) f z k lt = elim (cases_lt k n) [
  | inl low ↦ none_of n f (omega (arith, z)) k low
  | inr last ↦ (let e : n ≡ k = omega arith in subst (λ i. f i ≡ 0) e (omega (arith, z)))
]

group_still : (g : Input) (t : Table) (j a b : ℕ) → 0 < g.machine.limits.width → a ≤ b → ((k : ℕ) → k < j → IsStill (t k).dispatch a b)
    → sum_below j (λ k. share g.machine.limits.width (min (g.row k).uops g.machine.limits.reorder) (t k).dispatch a) ≡ 0 → fits_group g t j a ≡ fits_group g t j b
unfolding fits_group has_place uops_of
group_still g t j a b some le h z =
    let w : ℕ = g.machine.limits.width in
    let each : (k : ℕ) → k < j → share w (min (g.row k).uops g.machine.limits.reorder) (t k).dispatch a ≡ share w (min (g.row k).uops g.machine.limits.reorder) (t k).dispatch b
    = λ k older. none_of j (λ i. share w (min (g.row i).uops g.machine.limits.reorder) (t i).dispatch a) z k older
    ∙ sym (share_still w (min (g.row k).uops g.machine.limits.reorder) (t k).dispatch a b some le (h k older) (none_of j (λ i. share w (min (g.row i).uops g.machine.limits.reorder) (t i).dispatch a) z k older)) in
    let shares : sum_below j (λ k. share w (min (g.row k).uops g.machine.limits.reorder) (t k).dispatch a) ≡ sum_below j (λ k. share w (min (g.row k).uops g.machine.limits.reorder) (t k).dispatch b) = sum_agree j _ _ each in
    let ends : all_below j (λ k. not (g.row k).ends_group || nat_eq (share w (min (g.row k).uops g.machine.limits.reorder) (t k).dispatch a) 0) ≡ all_below j (λ k. not (g.row k).ends_group || nat_eq (share w (min (g.row k).uops g.machine.limits.reorder) (t k).dispatch b) 0)
    = all_agree j _ _ (λ k older. ap (λ s. not (g.row k).ends_group || nat_eq s 0) (each k older)) in
    rw (shares, ends) refl

reorder_still : (g : Input) (t : Table) (j a b : ℕ) → ((k : ℕ) → k < j → is_held t a k ≡ is_held t b k) → fits_reorder g t j a ≡ fits_reorder g t j b
unfolding fits_reorder
reorder_still g t j a b h = ap (λ s. nat_le (s + uops_of g j) g.machine.limits.reorder) (sum_agree j _ _ (λ k older. ap (λ x. if x then uops_of g k else 0) (h k older)))

file_still : (g : Input) (t : Table) (j a b : ℕ) → ((k : ℕ) → k < j → is_held t a k ≡ is_held t b k) → (o : Option FileShare) → fits_file g t j a o ≡ fits_file g t j b o
file_still g t j a b h None = refl
file_still g t j a b h (Some s) = ap (λ n. nat_eq (g.machine.file_size s.file) 0 || nat_le (n + s.cost) (g.machine.file_size s.file))
    (sum_agree j _ _ (λ k older. ap (λ x. if x then cost_in g.machine s.file (g.row k).rd else 0) (h k older)))

registers_still : (g : Input) (t : Table) (j a b : ℕ) → ((k : ℕ) → k < j → is_held t a k ≡ is_held t b k) → fits_registers g t j a ≡ fits_registers g t j b
unfolding fits_registers
registers_still g t j a b h = λ i. nat_eq (g.row j).rd 0 || (has_room g.machine.limits.registers (writes i) && file_still g t j a b h (g.machine.file_of (g.row j).rd) i)
  where
    writes : count_below j (λ k. nat_lt 0 (g.row k).rd && is_held t a k) ≡ count_below j (λ k. nat_lt 0 (g.row k).rd && is_held t b k)
    writes = count_same j _ _ (λ k older. ap (λ x. nat_lt 0 (g.row k).rd && x) (h k older))

loads_still : (g : Input) (t : Table) (j a b : ℕ) → ((k : ℕ) → k < j → is_held t a k ≡ is_held t b k) → fits_loads g t j a ≡ fits_loads g t j b
unfolding fits_loads
loads_still g t j a b h = ap (λ n. not (is_load (g.row j).kind) || has_room g.machine.limits.loads n) (count_same j _ _ (λ k older. ap (λ x. is_load (g.row k).kind && x) (h k older)))

stores_still : (g : Input) (t : Table) (j a b : ℕ) → ((k : ℕ) → k < j → is_held t a k ≡ is_held t b k) → fits_stores g t j a ≡ fits_stores g t j b
unfolding fits_stores
stores_still g t j a b h = ap (λ n. not (is_store (g.row j).kind) || has_room g.machine.limits.stores n) (count_same j _ _ (λ k older. ap (λ x. is_store (g.row k).kind && x) (h k older)))

buffers_still : (g : Input) (t : Table) (j a b : ℕ) → ((k : ℕ) → k < j → nat_lt a (t k).issue ≡ nat_lt b (t k).issue) → fits_buffers g t j a ≡ fits_buffers g t j b
unfolding fits_buffers
buffers_still g t j a b h = ap (λ p. list_all p (g.row j).uses) (λ i w. has_room (entries (g.machine.buffer w.resource)) (waiting w i))
  where
    waiting : (w : Use) → count_below j (λ k. names w.resource (g.row k) && nat_lt a (t k).issue) ≡ count_below j (λ k. names w.resource (g.row k) && nat_lt b (t k).issue)
    waiting w = count_same j _ _ (λ k older. ap (λ x. names w.resource (g.row k) && x) (h k older))

-- whether a row may take a step

pub dispatch_still : (g : Input) (t : Table) (a b j : ℕ) → 0 < g.machine.limits.width → a ≤ b → j < g.rows → ((k : ℕ) → k < g.rows → IsRowStill g t a b k)
    → ((i : ℕ) → i < length (g.row j).reads → IsReadStill g t a b (slice_index_or (g.row j).reads i no_source) (producer g j (slice_index_or (g.row j).reads i no_source).reg))
    → sum_below j (λ k. share g.machine.limits.width (min (g.row k).uops g.machine.limits.reorder) (t k).dispatch a) ≡ 0
    → can_dispatch g (sees g t 2 j a) j a ≡ can_dispatch g (sees g t 2 j b) j b
dispatch_still g t a b j some le lt h reads z = dispatch_is g t j a lt
    ∙ (λ i. follows_still (λ k. (t k).dispatch) j a b (λ k older. (h k (omega arith)).dispatch) i && room i && (if (g.row j).reserved then start_still g t a b 2 j le lt h reads i else buffers_still g t j a b waits i))
    ∙ sym (dispatch_is g t j b lt)
  where
    held : (k : ℕ) → k < j → is_held t a k ≡ is_held t b k
    held k older = lt_still (t k).retire a b (h k (omega arith)).retire

    waits : (k : ℕ) → k < j → nat_lt a (t k).issue ≡ nat_lt b (t k).issue
    waits k older = lt_still (t k).issue a b (h k (omega arith)).issue

    room : has_all_room g t j a ≡ has_all_room g t j b
    room = λ i. group_still g t j a b some le (λ k older. (h k (omega arith)).dispatch) z i && reorder_still g t j a b held i && registers_still g t j a b held i && loads_still g t j a b held i && stores_still g t j a b held i

pub issue_still : (g : Input) (t : Table) (a b j : ℕ) → a ≤ b → j < g.rows → ((k : ℕ) → k < g.rows → IsRowStill g t a b k)
    → ((i : ℕ) → i < length (g.row j).reads → IsReadStill g t a b (slice_index_or (g.row j).reads i no_source) (producer g j (slice_index_or (g.row j).reads i no_source).reg))
    → can_issue g (sees g t 1 j a) j a ≡ can_issue g (sees g t 1 j b) j b
issue_still g t a b j le lt h reads = issue_is g t j a lt ∙ (λ i. past_still (t j).dispatch a b (h j lt).dispatched i && start_still g t a b 1 j le lt h reads i) ∙ sym (issue_is g t j b lt)
