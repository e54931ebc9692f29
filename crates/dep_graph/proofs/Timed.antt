-- The waits of a run, read from its times alone.
use Rattle.std.proofs.Common.{zero, suc, ◌≡◌, ℕ, ◌+◌, ◌-◌, ◌<◌, ◌≤◌, inl, inr, arith, refl, sym, ◌∙◌, ap, Bool, true, false, ◌&&◌, ◌||◌, List, [], ◌∷◌}
use Rattle.std.specs.Prelude.{nat_eq, nat_le, nat_lt, max, if◌then◌else◌, Option, Some, None}
use Rattle.std.specs.List.{list_all}
use Rattle.std.proofs.lemmas.Bool.{cases_lt, cases_Bool, and_parts, false≢true}
use Rattle.std.proofs.lemmas.Bool.Decides.{nat_tests}
use Rattle.rv_isa.specs.declared.facts.Kind.{Kind}
use Rattle.rv_isa.specs.declared.facts.Kind.TheVariants.{Plain, Load, Store, Barrier}
use Rattle.cycle_rules.specs.Below.{all_below, last_below}
use Rattle.cycle_rules.specs.CycleBound.{max_below}
use Rattle.cycle_rules.specs.Row.{Input, Table, phase, lead, advance_of}
use Rattle.cycle_rules.specs.Seen.{sees, has_issued, comes_before}
use Rattle.cycle_rules.specs.Dispatch.{can_dispatch, fits_buffers}
use Rattle.cycle_rules.specs.Issue.{producer, is_ready, has_operand, has_operands, may_access, memory_order, is_fenced, can_start, can_issue, older_row}
use Rattle.cycle_rules.specs.Run.{IsRow, IsIssue}
use Rattle.cycle_rules.specs.declared.bound.Source.{Source}
use Rattle.dep_graph.specs.Thresholds.{start}
use Rattle.cycle_rules.specs.Waits.{least_from, earliest, at_issue, operands_at, memory_at}
use Rattle.dep_graph.specs.PassTimes.{value_time, read_time, reads_time, let_go, pass_time}
use Rattle.dep_graph.proofs.Spans.{least_is, least_ge, least_le, least_holds}
use Rattle.dep_graph.proofs.Holding.{list_all_cons}
use Rattle.dep_graph.proofs.Past.{all_same}
use Rattle.dep_graph.proofs.Runs.{AreRows, before_start, start_le}

-- Issues are seen as they are

reserved_at : (g : Input) (t : Table) (j : ℕ) (b : Bool) → (g.row j).reserved ≡ b → b ≡ true → IsIssue g t j b → (t j).issue ≡ (t j).dispatch
reserved_at g t j true is yes_ h = h
reserved_at g t j false is yes_ h = absurd (false≢true yes_)

seen_key : (b c k j : ℕ) (q p : Bool) → k < j → (q ≡ true → p ≡ false → b < c) → (nat_lt b c || (nat_eq b c && (nat_lt (if q then 2 else 1) (if p then 2 else 1) || (nat_eq (if q then 2 else 1) (if p then 2 else 1) && nat_lt k j)))) ≡ nat_le b c
seen_key b c k j true true lt h = grind (arith, nat_tests, lt)
seen_key b c k j true false lt h = let less : b < c = h refl refl in grind (arith, nat_tests, less)
seen_key b c k j false true lt h = grind (arith, nat_tests, lt)
seen_key b c k j false false lt h = grind (arith, nat_tests, lt)

pub issue_seen : (g : Input) (t : Table) (j k c : ℕ) → AreRows g t → j < g.rows → k < j → earliest g t j ≤ c → has_issued g t k c (phase (g.row j)) j ≡ nat_le (t k).issue c
unfolding comes_before phase
issue_seen g t j k c rows lt older le =
    let in_run : nat_lt k g.rows ≡ true = grind (arith, nat_tests, lt, older) in
    let past : (t k).dispatch ≤ start t j = before_start g t j rows (omega (arith, lt)) k older in
    let from : start t j ≤ (t j).dispatch = start_le g t j (rows j lt) in
    let early : (g.row k).reserved ≡ true → (g.row j).reserved ≡ false → (t k).issue < c = λ q p.
    (let here : (t k).issue ≡ (t k).dispatch = reserved_at g t k (g.row k).reserved refl q (rows k (omega (arith, older, lt))).issue in
    let after : (t j).dispatch + 1 ≤ c = rw p at le in
    omega (arith, here, past, from, after)) in
    rw in_run (seen_key (t k).issue c k j (g.row k).reserved (g.row j).reserved older early)

time_seen : (b : Bool) (i c w : ℕ) → b ≡ nat_le i c → nat_le ((if b then i else c + 1) + w) c ≡ nat_le (i + w) c
time_seen b i c w is = elim (cases_lt c i) [
  | inl late ↦ (let no_ : b ≡ false = grind (arith, nat_tests, late, is) in rw no_ (grind (arith, nat_tests, late)))
  | inr there ↦ (let yes_ : b ≡ true = grind (arith, nat_tests, there, is) in rw yes_ refl)
]

pub last_older : (n : ℕ) (p : ℕ → Bool) (k : ℕ) → last_below n p ≡ Some k → k < n
unfolding last_below
last_older zero p k is = absurd (cc)
last_older (suc n) p k is = elim (cases_Bool (p n)) [
  | inl at ↦ (let e : Some n ≡ Some k = rw at at is in let same : n ≡ k = cc in omega (arith, same))
  | inr gone ↦ (let e : last_below n p ≡ Some k = rw gone at is in omega (arith, last_older n p k e))
]

value_seen : (g : Input) (t : Table) (j c read : ℕ) (o : Option ℕ) → AreRows g t → j < g.rows → earliest g t j ≤ c → ((k : ℕ) → o ≡ Some k → k < j) → is_ready g (at_issue g t j c) c read o ≡ nat_le (value_time g t read o) c
value_seen g t j c read None rows lt le older = grind (arith, nat_tests)
value_seen g t j c read (Some k) rows lt le older = time_seen _ (t k).issue c (lead (g.row k).latency (advance_of g.machine read (g.row k).write)) (issue_seen g t j k c rows lt (older k refl) le)

pub operand_seen : (g : Input) (t : Table) (j c : ℕ) (s : Source) → AreRows g t → j < g.rows → earliest g t j ≤ c → has_operand g (at_issue g t j c) j c s ≡ nat_le (read_time g t j s) c
unfolding has_operand producer
operand_seen g t j c s rows lt le = elim (cases_Bool (nat_eq s.reg 0)) [
  | inl none ↦ rw none (grind (arith, nat_tests))
  | inr some ↦ rw some (value_seen g t j c s.read (last_below j (λ k. nat_eq (g.row k).rd s.reg)) rows lt le (λ k is. last_older j (λ k. nat_eq (g.row k).rd s.reg) k is))
]

pub le_max : (a b c : ℕ) → (nat_le a c && nat_le b c) ≡ nat_le (max a b) c
le_max a b c = grind (arith, nat_tests)

reads_seen : (g : Input) (t : Table) (j c : ℕ) (reads : List Source) → AreRows g t → j < g.rows → earliest g t j ≤ c → list_all (has_operand g (at_issue g t j c) j c) reads ≡ nat_le (reads_time g t j reads) c
reads_seen g t j c [] rows lt le = grind (arith, nat_tests)
reads_seen g t j c (s ∷ rest) rows lt le =
    list_all_cons (has_operand g (at_issue g t j c) j c) s rest ∙ (λ i. operand_seen g t j c s rows lt le i && reads_seen g t j c rest rows lt le i) ∙ le_max (read_time g t j s) (reads_time g t j rest) c

pub operands_seen : (g : Input) (t : Table) (j c : ℕ) → AreRows g t → j < g.rows → earliest g t j ≤ c → has_operands g (at_issue g t j c) j c ≡ nat_le (reads_time g t j (g.row j).reads) c
unfolding has_operands
operands_seen g t j c rows lt le = reads_seen g t j c (g.row j).reads rows lt le

-- The order of memory

zero_le : (c : ℕ) → true ≡ nat_le 0 c
zero_le c = grind (arith, nat_tests)

order_time : (a b : Kind) (no_alias fenced : Bool) (i w c : ℕ) → memory_order a b (record { may_pass = no_alias; fenced = fenced; issued = nat_le i c; completed = nat_le w c }) ≡ nat_le (let_go a b no_alias fenced i w) c
unfolding memory_order
order_time Plain Plain n f i w c = zero_le c
order_time Plain Load n f i w c = zero_le c
order_time Plain Store n f i w c = zero_le c
order_time Plain Barrier n f i w c = zero_le c
order_time Load Plain n f i w c = zero_le c
order_time Store Plain n f i w c = zero_le c
order_time Barrier Plain n f i w c = zero_le c
order_time Load Load n true i w c = refl
order_time Load Load n false i w c = zero_le c
order_time Load Store true f i w c = zero_le c
order_time Load Store false f i w c = refl
order_time Load Barrier n f i w c = refl
order_time Store Load n f i w c = refl
order_time Store Store n f i w c = refl
order_time Store Barrier n f i w c = refl
order_time Barrier Load n f i w c = refl
order_time Barrier Store n f i w c = refl
order_time Barrier Barrier n f i w c = refl

complete_seen : (b : Bool) (i c w l : ℕ) → b ≡ nat_le i c → w ≡ i + l → nat_le (if b then w else c + 1 + l) c ≡ nat_le w c
complete_seen b i c w l is sum = elim (cases_lt c i) [
  | inl late ↦ (let no_ : b ≡ false = grind (arith, nat_tests, late, is) in rw no_ (grind (arith, nat_tests, late, sum)))
  | inr there ↦ (let yes_ : b ≡ true = grind (arith, nat_tests, there, is) in rw yes_ refl)
]

issued_seen : (b : Bool) (i c : ℕ) → b ≡ nat_le i c → nat_le (if b then i else c + 1) c ≡ nat_le i c
issued_seen b i c is = elim (cases_lt c i) [
  | inl late ↦ (let no_ : b ≡ false = grind (arith, nat_tests, late, is) in rw no_ (grind (arith, nat_tests, late)))
  | inr there ↦ (let yes_ : b ≡ true = grind (arith, nat_tests, there, is) in rw yes_ refl)
]

pub passes_seen : (g : Input) (t : Table) (j k c : ℕ) → AreRows g t → j < g.rows → k < j → earliest g t j ≤ c
    → memory_order (g.row j).kind (g.row k).kind (older_row g (at_issue g t j c) j c k) ≡ nat_le (pass_time g t j k) c
passes_seen g t j k c rows lt older le =
    let seen = issue_seen g t j k c rows lt older le in
    (λ i. memory_order (g.row j).kind (g.row k).kind (record { may_pass = g.machine.limits.no_alias; fenced = is_fenced g k j; issued = issued_seen _ (t k).issue c seen i; completed = complete_seen _ (t k).issue c (t k).complete (g.row k).latency seen (rows k (omega (arith, older, lt))).complete i }))
    ∙ order_time (g.row j).kind (g.row k).kind g.machine.limits.no_alias (is_fenced g k j) (t k).issue (t k).complete c

all_max : (n c : ℕ) (f : ℕ → ℕ) → all_below n (λ k. nat_le (f k) c) ≡ nat_le (max_below n f) c
unfolding all_below max_below
all_max zero c f = zero_le c
all_max (suc n) c f = ap (λ b. b && nat_le (f n) c) (all_max n c f) ∙ le_max (max_below n f) (f n) c

pub access_seen : (g : Input) (t : Table) (j c : ℕ) → AreRows g t → j < g.rows → earliest g t j ≤ c → may_access g (at_issue g t j c) j c ≡ nat_le (max_below j (pass_time g t j)) c
unfolding may_access
access_seen g t j c rows lt le = all_same j _ _ (λ k older. passes_seen g t j k c rows lt older le) ∙ all_max j c (pass_time g t j)

-- The least cycles

pub least_max : (n a m : ℕ) (p : ℕ → Bool) → m ≤ a + n → ((c : ℕ) → a ≤ c → p c ≡ nat_le m c) → least_from a n p ≡ max a m
least_max n a m p le h =
    let x : ℕ = least_from a n p in
    let low : a ≤ x = least_ge n a p in
    let high : x ≤ a + n = least_le n a p in
    elim (cases_lt (max a m) (a + n)) [
      | inl within ↦ least_is n a (max a m) p (omega arith) within
          (λ y ay ym. h y ay ∙ (let lower : y < m = omega (arith, ay, ym) in grind (arith, nat_tests, lower)))
          (h (max a m) (omega arith) ∙ (let least : m ≤ max a m = omega arith in grind (arith, nat_tests, least)))
      | inr past ↦ elim (cases_lt x (a + n)) [
        | inl early ↦ (let at : nat_le m x ≡ true = sym (h x low) ∙ least_holds n a p early in let less : m ≤ x = grind (arith, nat_tests, at) in omega (arith, less, early, past, low))
        | inr end ↦ omega (arith, end, past, le, high)
      ]
    ]

-- Where a row issues, it can

phase_of : (g : Input) (j : ℕ) (b : Bool) → (g.row j).reserved ≡ b → phase (g.row j) ≡ (if b then 2 else 1)
unfolding phase
phase_of g j b is = rw is refl

may_issue : (g : Input) (t : Table) (j c : ℕ) → (g.row j).reserved ≡ true → can_dispatch g t j c ≡ true → can_start g t j c ≡ true
unfolding can_dispatch
may_issue g t j c is can =
    let last : (if (g.row j).reserved then can_start g t j c else fits_buffers g t j c) ≡ true = (and_parts _ _ can).1 in
    rw is at last

leaves : (g : Input) (t : Table) (j c : ℕ) → can_issue g t j c ≡ true → (nat_lt (t j).dispatch c ≡ true) × (can_start g t j c ≡ true)
unfolding can_issue
leaves g t j c h = and_parts _ _ h

after_dispatch : (g : Input) (t : Table) (j c : ℕ) → nat_lt (sees g t 1 j c j).dispatch c ≡ true → (t j).dispatch + 1 ≤ c
unfolding comes_before
after_dispatch g t j c h = grind (arith, nat_tests, h)

issue_at : (g : Input) (t : Table) (j : ℕ) → IsRow g t j → (b : Bool) → (g.row j).reserved ≡ b → IsIssue g t j b → (can_start g (at_issue g t j (t j).issue) j (t j).issue ≡ true) × (earliest g t j ≤ (t j).issue)
issue_at g t j row true is issue =
    let can : can_dispatch g (sees g t 2 j (t j).dispatch) j (t j).dispatch ≡ true = row.dispatch.holds in
    let two : phase (g.row j) ≡ 2 = phase_of g j true is in
    (rw (two, issue) (may_issue g (sees g t 2 j (t j).dispatch) j (t j).dispatch is can), (rw (is, issue) (omega arith)))
issue_at g t j row false is issue =
    let one : phase (g.row j) ≡ 1 = phase_of g j false is in
    let parts = leaves g (sees g t 1 j (t j).issue) j (t j).issue issue.holds in
    (rw one parts.1, (rw is (after_dispatch g t j (t j).issue parts.0)))

pub issued : (g : Input) (t : Table) (j : ℕ) → IsRow g t j → (can_start g (at_issue g t j (t j).issue) j (t j).issue ≡ true) × (earliest g t j ≤ (t j).issue)
issued g t j row = issue_at g t j row (g.row j).reserved refl row.issue

two_hold : (g : Input) (t : Table) (j c : ℕ) → can_start g t j c ≡ true → (has_operands g t j c ≡ true) × (may_access g t j c ≡ true)
unfolding can_start
two_hold g t j c h = and_parts _ _ (and_parts _ _ h).0

pub reads_le : (g : Input) (t : Table) (j : ℕ) → AreRows g t → j < g.rows → reads_time g t j (g.row j).reads ≤ (t j).issue
reads_le g t j rows lt =
    let at = issued g t j (rows j lt) in
    let told : nat_le (reads_time g t j (g.row j).reads) (t j).issue ≡ true = sym (operands_seen g t j (t j).issue rows lt at.1) ∙ (two_hold g (at_issue g t j (t j).issue) j (t j).issue at.0).0 in
    grind (arith, nat_tests, told)

pub passes_le : (g : Input) (t : Table) (j : ℕ) → AreRows g t → j < g.rows → max_below j (pass_time g t j) ≤ (t j).issue
passes_le g t j rows lt =
    let at = issued g t j (rows j lt) in
    let told : nat_le (max_below j (pass_time g t j)) (t j).issue ≡ true = sym (access_seen g t j (t j).issue rows lt at.1) ∙ (two_hold g (at_issue g t j (t j).issue) j (t j).issue at.0).1 in
    grind (arith, nat_tests, told)

pub ready_is : (g : Input) (t : Table) (j : ℕ) → AreRows g t → j < g.rows → operands_at g t j ≡ max (earliest g t j) (reads_time g t j (g.row j).reads)
ready_is g t j rows lt =
    least_max ((t j).issue - earliest g t j) (earliest g t j) (reads_time g t j (g.row j).reads) _ (omega (arith, reads_le g t j rows lt, (issued g t j (rows j lt)).1)) (λ c le. operands_seen g t j c rows lt le)

ready_le : (g : Input) (t : Table) (j : ℕ) → AreRows g t → j < g.rows → (earliest g t j ≤ operands_at g t j) × (operands_at g t j ≤ (t j).issue)
ready_le g t j rows lt =
    let low : earliest g t j ≤ operands_at g t j = least_ge ((t j).issue - earliest g t j) (earliest g t j) (λ c. has_operands g (at_issue g t j c) j c) in
    let high : operands_at g t j ≤ earliest g t j + ((t j).issue - earliest g t j) = least_le ((t j).issue - earliest g t j) (earliest g t j) (λ c. has_operands g (at_issue g t j c) j c) in
    (low, omega (arith, high, (issued g t j (rows j lt)).1))

pub ordered_is : (g : Input) (t : Table) (j : ℕ) → AreRows g t → j < g.rows → memory_at g t j ≡ max (operands_at g t j) (max_below j (pass_time g t j))
ordered_is g t j rows lt =
    let r = ready_le g t j rows lt in
    least_max ((t j).issue - operands_at g t j) (operands_at g t j) (max_below j (pass_time g t j)) _ (omega (arith, passes_le g t j rows lt, r.1)) (λ c le. access_seen g t j c rows lt (omega (arith, le, r.0)))

pub waits_sum : (g : Input) (t : Table) (j : ℕ) → AreRows g t → j < g.rows → (earliest g t j ≤ operands_at g t j) × (operands_at g t j ≤ memory_at g t j) × (memory_at g t j ≤ (t j).issue)
waits_sum g t j rows lt =
    let r = ready_le g t j rows lt in
    let low : operands_at g t j ≤ memory_at g t j = least_ge ((t j).issue - operands_at g t j) (operands_at g t j) (λ c. may_access g (at_issue g t j c) j c) in
    let high : memory_at g t j ≤ operands_at g t j + ((t j).issue - operands_at g t j) = least_le ((t j).issue - operands_at g t j) (operands_at g t j) (λ c. may_access g (at_issue g t j c) j c) in
    (r.0, low, omega (arith, high, r.1))

pub reserved_base : (g : Input) (t : Table) (j : ℕ) → AreRows g t → j < g.rows → (g.row j).reserved ≡ true → earliest g t j ≡ (t j).issue
reserved_base g t j rows lt is = rw is (sym (reserved_at g t j (g.row j).reserved refl is (rows j lt).issue))
