-- The waits of a row, read from the times of a table alone.
use Rattle.std.proofs.Common.{zero, suc, ◌≡◌, ℕ, ◌+◌, ◌-◌, ◌<◌, ◌≤◌, inl, inr, arith, refl, sym, ◌∙◌, ap, Bool, true, false, ◌&&◌, ◌||◌, not, List, [], ◌∷◌}
use Rattle.std.specs.Prelude.{nat_eq, nat_le, nat_lt, min, max, if◌then◌else◌, Option, Some, None}
use Rattle.std.specs.List.{list_all}
use Rattle.std.proofs.lemmas.Bool.{cases_lt, cases_Bool, and_parts, false≢true}
use Rattle.std.proofs.lemmas.Bool.Decides.{nat_tests}
use Rattle.std.proofs.lemmas.List.Folds.{list_all-append}
use Rattle.rv_isa.specs.declared.facts.Kind.{Kind}
use Rattle.rv_isa.specs.declared.facts.Kind.TheVariants.{Plain, Load, Store, Barrier}
use Rattle.cycle_rules.specs.Below.{all_below, last_below}
use Rattle.cycle_rules.specs.CycleBound.{max_below}
use Rattle.cycle_rules.specs.Row.{Input, Table, phase, lead, advance_of}
use Rattle.cycle_rules.specs.Seen.{sees, has_issued, comes_before}
use Rattle.cycle_rules.specs.Dispatch.{follows, can_dispatch, fits_buffers}
use Rattle.cycle_rules.specs.Issue.{producer, is_ready, has_operand, has_operands, may_access, memory_order, older_row, is_fenced, can_start, can_issue}
use Rattle.cycle_rules.specs.Run.{IsRow, IsIssue}
use Rattle.cycle_rules.specs.Waits.{earliest, at_issue, operands_at, memory_at, register_wait, memory_wait, resource_wait}
use Rattle.cycle_rules.specs.WaitTimes.{by_phase, by_issue, value_time, read_time, reads_time, let_go, pass_time, IsTimed, IsInTime}
use Rattle.cycle_rules.specs.declared.bound.Source.{Source}
use Rattle.cycle_rules.proofs.LeastFrom.{least_ge, least_le, least_until}
use Rattle.cycle_rules.proofs.Rows.{phase_reserved, phase_free}

-- from its earliest cycle on, a row finds that an older one has issued exactly from a cycle on
abbrev pub IsSeen : Input → Table → (ℕ → ℕ → ℕ) → Type 0
IsSeen g t seen = (j k c : ℕ) → j < g.rows → k < j → earliest g t j ≤ c → has_issued g t k c (phase (g.row j)) j ≡ nat_le (seen j k) c

-- and no sooner than it issues
abbrev pub IsAfter : Table → (ℕ → ℕ → ℕ) → Type 0
IsAfter t seen = (j k : ℕ) → (t k).issue ≤ seen j k

seen_key : (b c k j : ℕ) (q p : Bool) → k < j
    → (nat_lt b c || (nat_eq b c && (nat_lt (if q then 2 else 1) (if p then 2 else 1) || (nat_eq (if q then 2 else 1) (if p then 2 else 1) && nat_lt k j)))) ≡ nat_le (if q && not p then b + 1 else b) c
seen_key b c k j true true lt = grind (arith, nat_tests, lt)
seen_key b c k j true false lt = grind (arith, nat_tests, lt)
seen_key b c k j false true lt = grind (arith, nat_tests, lt)
seen_key b c k j false false lt = grind (arith, nat_tests, lt)

pub phase_seen : (g : Input) (t : Table) → IsSeen g t (by_phase g t)
unfolding comes_before phase
phase_seen g t j k c lt older le =
    let in_run : nat_lt k g.rows ≡ true = grind (arith, nat_tests, lt, older) in
    rw in_run (seen_key (t k).issue c k j (g.row k).reserved (g.row j).reserved older)

after_issue : (b p : Bool) (i : ℕ) → i ≤ (if b && not p then i + 1 else i)
after_issue true true i = omega arith
after_issue true false i = omega arith
after_issue false true i = omega arith
after_issue false false i = omega arith

pub phase_after : (g : Input) (t : Table) → IsAfter t (by_phase g t)
phase_after g t j k = after_issue (g.row k).reserved (g.row j).reserved (t k).issue

-- Operands

value_seen : (b : Bool) (i s c w : ℕ) → b ≡ nat_le s c → nat_le ((if b then i else c + 1) + w) c ≡ nat_le (max s (i + w)) c
value_seen b i s c w is = elim (cases_lt c s) [
  | inl late ↦ (let no_ : b ≡ false = grind (arith, nat_tests, late, is) in rw no_ (grind (arith, nat_tests, late)))
  | inr there ↦ (let yes_ : b ≡ true = grind (arith, nat_tests, there, is) in rw yes_ (grind (arith, nat_tests, there)))
]

pub last_older : (n : ℕ) (p : ℕ → Bool) (k : ℕ) → last_below n p ≡ Some k → k < n
unfolding last_below
last_older zero p k is = absurd (cc)
last_older (suc n) p k is = elim (cases_Bool (p n)) [
  | inl at ↦ (let e : Some n ≡ Some k = rw at at is in let same : n ≡ k = cc in omega (arith, same))
  | inr gone ↦ (let e : last_below n p ≡ Some k = rw gone at is in omega (arith, last_older n p k e))
]

producer_seen : (g : Input) (t : Table) (seen : ℕ → ℕ → ℕ) (j c read : ℕ) (o : Option ℕ) → IsSeen g t seen → j < g.rows → earliest g t j ≤ c → ((k : ℕ) → o ≡ Some k → k < j)
    → is_ready g (at_issue g t j c) c read o ≡ nat_le (value_time g t (seen j) read o) c
producer_seen g t seen j c read None is lt le older = grind (arith, nat_tests)
producer_seen g t seen j c read (Some k) is lt le older = value_seen _ (t k).issue (seen j k) c (lead (g.row k).latency (advance_of g.machine read (g.row k).write)) (is j k c lt (older k refl) le)

pub operand_seen : (g : Input) (t : Table) (seen : ℕ → ℕ → ℕ) (j c : ℕ) (s : Source) → IsSeen g t seen → j < g.rows → earliest g t j ≤ c
    → has_operand g (at_issue g t j c) j c s ≡ nat_le (read_time g t (seen j) j s) c
unfolding has_operand producer read_time
operand_seen g t seen j c s is lt le = elim (cases_Bool (nat_eq s.reg 0)) [
  | inl none ↦ rw none (grind (arith, nat_tests))
  | inr some ↦ rw some (producer_seen g t seen j c s.read (last_below j (λ k. nat_eq (g.row k).rd s.reg)) is lt le (λ k at. last_older j (λ k. nat_eq (g.row k).rd s.reg) k at))
]

le_max : (a b c : ℕ) → (nat_le a c && nat_le b c) ≡ nat_le (max a b) c
le_max a b c = grind (arith, nat_tests)

list_all_cons : {X : Type 0} (p : X → Bool) (x : X) (xs : List X) → list_all p (x ∷ xs) ≡ (p x && list_all p xs)
list_all_cons p x xs = list_all-append p (x ∷ []) xs ∙ ap (λ b. b && list_all p xs) (one (p x))
  where
    one : (b : Bool) → (b && true) ≡ b
    one true = refl
    one false = refl

reads_seen : (g : Input) (t : Table) (seen : ℕ → ℕ → ℕ) (j c : ℕ) (reads : List Source) → IsSeen g t seen → j < g.rows → earliest g t j ≤ c
    → list_all (has_operand g (at_issue g t j c) j c) reads ≡ nat_le (reads_time g t (seen j) j reads) c
reads_seen g t seen j c [] is lt le = grind (arith, nat_tests)
reads_seen g t seen j c (s ∷ rest) is lt le =
    list_all_cons (has_operand g (at_issue g t j c) j c) s rest ∙ (λ i. operand_seen g t seen j c s is lt le i && reads_seen g t seen j c rest is lt le i)
    ∙ le_max (read_time g t (seen j) j s) (reads_time g t (seen j) j rest) c

pub operands_seen : (g : Input) (t : Table) (seen : ℕ → ℕ → ℕ) (j c : ℕ) → IsSeen g t seen → j < g.rows → earliest g t j ≤ c
    → has_operands g (at_issue g t j c) j c ≡ nat_le (reads_time g t (seen j) j (g.row j).reads) c
unfolding has_operands
operands_seen g t seen j c is lt le = reads_seen g t seen j c (g.row j).reads is lt le

-- The order of memory

zero_le : (c : ℕ) → true ≡ nat_le 0 c
zero_le c = grind (arith, nat_tests)

order_time : (a b : Kind) (may_pass fenced : Bool) (i w c : ℕ)
    → memory_order a b (record { may_pass = may_pass; fenced = fenced; issued = nat_le i c; completed = nat_le w c }) ≡ nat_le (let_go a b may_pass fenced i w) c
unfolding memory_order let_go
order_time Plain Plain n f i w c = zero_le c
order_time Plain Load n f i w c = zero_le c
order_time Plain Store n f i w c = zero_le c
order_time Plain Barrier n f i w c = zero_le c
order_time Load Plain n f i w c = zero_le c
order_time Store Plain n f i w c = zero_le c
order_time Barrier Plain n f i w c = zero_le c
order_time Load Load n true i w c = refl
order_time Load Load n false i w c = zero_le c
order_time Load Store true f i w c = zero_le c
order_time Load Store false f i w c = refl
order_time Load Barrier n f i w c = refl
order_time Store Load n f i w c = refl
order_time Store Store n f i w c = refl
order_time Store Barrier n f i w c = refl
order_time Barrier Load n f i w c = refl
order_time Barrier Store n f i w c = refl
order_time Barrier Barrier n f i w c = refl

complete_seen : (b : Bool) (s c w l : ℕ) → b ≡ nat_le s c → nat_le (if b then w else c + 1 + l) c ≡ nat_le (max s w) c
complete_seen b s c w l is = elim (cases_lt c s) [
  | inl late ↦ (let no_ : b ≡ false = grind (arith, nat_tests, late, is) in rw no_ (grind (arith, nat_tests, late)))
  | inr there ↦ (let yes_ : b ≡ true = grind (arith, nat_tests, there, is) in rw yes_ (grind (arith, nat_tests, there)))
]

issued_seen : (b : Bool) (i s c : ℕ) → b ≡ nat_le s c → i ≤ s → nat_le (if b then i else c + 1) c ≡ nat_le s c
issued_seen b i s c is after = elim (cases_lt c s) [
  | inl late ↦ (let no_ : b ≡ false = grind (arith, nat_tests, late, is) in rw no_ (grind (arith, nat_tests, late)))
  | inr there ↦ (let yes_ : b ≡ true = grind (arith, nat_tests, there, is) in rw yes_ (grind (arith, nat_tests, there, after)))
]

pub passes_seen : (g : Input) (t : Table) (seen : ℕ → ℕ → ℕ) (j k c : ℕ) → IsSeen g t seen → IsAfter t seen → j < g.rows → k < j → earliest g t j ≤ c
    → memory_order (g.row j).kind (g.row k).kind (older_row g (at_issue g t j c) j c k) ≡ nat_le (pass_time g t (seen j) j k) c
unfolding pass_time
passes_seen g t seen j k c is after lt older le =
    let at = is j k c lt older le in
    (λ i. memory_order (g.row j).kind (g.row k).kind (record {
      may_pass = g.machine.limits.no_alias;
      fenced = is_fenced g k j;
      issued = issued_seen _ (t k).issue (seen j k) c at (after j k) i;
      completed = complete_seen _ (seen j k) c (t k).complete (g.row k).latency at i;
    }))
    ∙ order_time (g.row j).kind (g.row k).kind g.machine.limits.no_alias (is_fenced g k j) (seen j k) (max (seen j k) (t k).complete) c

all_same : (n : ℕ) (p q : ℕ → Bool) → ((k : ℕ) → k < n → p k ≡ q k) → all_below n p ≡ all_below n q
unfolding all_below
all_same zero p q h = refl
all_same (suc n) p q h = let rest : all_below n p ≡ all_below n q = all_same n p q (λ k lt. h k (omega (arith, lt))) in rw (rest, h n (omega arith)) refl

all_max : (n c : ℕ) (f : ℕ → ℕ) → all_below n (λ k. nat_le (f k) c) ≡ nat_le (max_below n f) c
unfolding all_below max_below
all_max zero c f = zero_le c
all_max (suc n) c f = ap (λ b. b && nat_le (f n) c) (all_max n c f) ∙ le_max (max_below n f) (f n) c

pub access_seen : (g : Input) (t : Table) (seen : ℕ → ℕ → ℕ) (j c : ℕ) → IsSeen g t seen → IsAfter t seen → j < g.rows → earliest g t j ≤ c
    → may_access g (at_issue g t j c) j c ≡ nat_le (max_below j (pass_time g t (seen j) j)) c
unfolding may_access
access_seen g t seen j c is after lt le = all_same j _ _ (λ k older. passes_seen g t seen j k c is after lt older le) ∙ all_max j c (pass_time g t (seen j) j)

-- The least cycles

pub operands_least : (g : Input) (t : Table) (seen : ℕ → ℕ → ℕ) (j : ℕ) → IsSeen g t seen → j < g.rows
    → operands_at g t j ≡ max (earliest g t j) (min (t j).issue (reads_time g t (seen j) j (g.row j).reads))
operands_least g t seen j is lt = least_until (earliest g t j) (t j).issue (reads_time g t (seen j) j (g.row j).reads) _ (λ c le. operands_seen g t seen j c is lt le)

pub operands_ge : (g : Input) (t : Table) (j : ℕ) → earliest g t j ≤ operands_at g t j
operands_ge g t j = least_ge ((t j).issue - earliest g t j) (earliest g t j) (λ c. has_operands g (at_issue g t j c) j c)

pub memory_least : (g : Input) (t : Table) (seen : ℕ → ℕ → ℕ) (j : ℕ) → IsSeen g t seen → IsAfter t seen → j < g.rows
    → memory_at g t j ≡ max (operands_at g t j) (min (t j).issue (max_below j (pass_time g t (seen j) j)))
memory_least g t seen j is after lt =
    least_until (operands_at g t j) (t j).issue (max_below j (pass_time g t (seen j) j)) _ (λ c le. access_seen g t seen j c is after lt (omega (arith, le, operands_ge g t j)))

pub timed : (g : Input) (t : Table) (seen : ℕ → ℕ → ℕ) → IsSeen g t seen → IsAfter t seen → IsTimed g t seen
timed g t seen is after = record {
  operand = λ j c s lt le. operand_seen g t seen j c s is lt le;
  passes = λ j k c lt older le. passes_seen g t seen j k c is after lt older le;
  operands = λ j lt. operands_least g t seen j is lt;
  memory = λ j lt. memory_least g t seen j is after lt;
}

-- In a run

abbrev pub AreRows : Input → Table → Type 0
AreRows g t = (j : ℕ) → j < g.rows → IsRow g t j

follows_last : (g : Input) (t : Table) (j c : ℕ) → follows (λ k. (sees g t 2 j c k).dispatch) j c ≡ true → (k : ℕ) → k + 1 ≡ j → (t k).dispatch ≤ c
unfolding follows comes_before
follows_last g t zero c h k is = absurd (omega (arith, is))
follows_last g t (suc i) c h k is = let e : k ≡ i = omega (arith, is) in rw e (grind (arith, nat_tests, h))

dispatch_parts : (g : Input) (t : Table) (j c : ℕ) → can_dispatch g t j c ≡ true → (follows (λ k. (t k).dispatch) j c ≡ true) × ((if (g.row j).reserved then can_start g t j c else fits_buffers g t j c) ≡ true)
unfolding can_dispatch
dispatch_parts g t j c h =
    let parts = and_parts _ _ h in
    ((and_parts _ _ (and_parts _ _ (and_parts _ _ (and_parts _ _ (and_parts _ _ parts.0).0).0).0).0).0, parts.1)

in_order : (g : Input) (t : Table) (j : ℕ) → AreRows g t → j < g.rows → (k : ℕ) → k < j → (t k).dispatch ≤ (t j).dispatch
in_order g t zero rows lt k older = absurd (omega (arith, older))
in_order g t (suc i) rows lt k older =
    let last : (t i).dispatch ≤ (t (suc i)).dispatch = follows_last g t (suc i) (t (suc i)).dispatch (dispatch_parts g (sees g t 2 (suc i) (t (suc i)).dispatch) (suc i) (t (suc i)).dispatch (rows (suc i) lt).dispatch.holds).0 i (omega arith) in
    elim (cases_lt k i) [
      | inl low ↦ omega (arith, in_order g t i rows (omega (arith, lt)) k low, last)
      | inr here ↦ (let e : k ≡ i = omega (arith, here, older) in rw e last)
    ]

reserved_at : (g : Input) (t : Table) (j : ℕ) (b : Bool) → (g.row j).reserved ≡ b → b ≡ true → IsIssue g t j b → (t j).issue ≡ (t j).dispatch
reserved_at g t j true is yes_ h = h
reserved_at g t j false is yes_ h = absurd (false≢true yes_)

-- a reserved row issues as it dispatches, so before the younger rows may issue at all
pub issue_seen : (g : Input) (t : Table) → AreRows g t → IsSeen g t (by_issue t)
issue_seen g t rows j k c lt older le = phase_seen g t j k c lt older le ∙ ahead (g.row k).reserved (g.row j).reserved refl refl
  where
    ahead : (b p : Bool) → (g.row k).reserved ≡ b → (g.row j).reserved ≡ p → nat_le (if b && not p then (t k).issue + 1 else (t k).issue) c ≡ nat_le (t k).issue c
    ahead true true is at = refl
    ahead false true is at = refl
    ahead false false is at = refl
    ahead true false is at =
        let here : (t k).issue ≡ (t k).dispatch = reserved_at g t k (g.row k).reserved refl is (rows k (omega (arith, older, lt))).issue in
        let past : (t k).dispatch ≤ (t j).dispatch = in_order g t j rows lt k older in
        let from : (t j).dispatch + 1 ≤ c = rw at at le in
        let passed : (t k).issue + 1 ≤ c = omega (arith, here, past, from) in
        grind (arith, nat_tests, passed)

pub issue_after : (t : Table) → IsAfter t (by_issue t)
issue_after t j k = omega arith

-- where a row issues, it can start
start_reserved : (g : Input) (t : Table) (j c : ℕ) → (g.row j).reserved ≡ true → can_dispatch g t j c ≡ true → can_start g t j c ≡ true
start_reserved g t j c is can = let last : (if (g.row j).reserved then can_start g t j c else fits_buffers g t j c) ≡ true = (dispatch_parts g t j c can).1 in rw is at last

issue_parts : (g : Input) (t : Table) (j c : ℕ) → can_issue g t j c ≡ true → (nat_lt (t j).dispatch c ≡ true) × (can_start g t j c ≡ true)
unfolding can_issue
issue_parts g t j c h = and_parts _ _ h

after_dispatch : (g : Input) (t : Table) (j c : ℕ) → nat_lt (sees g t 1 j c j).dispatch c ≡ true → (t j).dispatch + 1 ≤ c
unfolding comes_before
after_dispatch g t j c h = grind (arith, nat_tests, h)

start_at : (g : Input) (t : Table) (j : ℕ) → IsRow g t j → (b : Bool) → (g.row j).reserved ≡ b → IsIssue g t j b → (can_start g (at_issue g t j (t j).issue) j (t j).issue ≡ true) × (earliest g t j ≤ (t j).issue)
start_at g t j row true is issue =
    let can : can_dispatch g (sees g t 2 j (t j).dispatch) j (t j).dispatch ≡ true = row.dispatch.holds in
    let two : phase (g.row j) ≡ 2 = phase_reserved (g.row j) is in
    (rw (two, issue) (start_reserved g (sees g t 2 j (t j).dispatch) j (t j).dispatch is can), (rw (is, issue) (omega arith)))
start_at g t j row false is issue =
    let one : phase (g.row j) ≡ 1 = phase_free (g.row j) is in
    let parts = issue_parts g (sees g t 1 j (t j).issue) j (t j).issue issue.holds in
    (rw one parts.1, (rw is (after_dispatch g t j (t j).issue parts.0)))

pub starts : (g : Input) (t : Table) (j : ℕ) → IsRow g t j → (can_start g (at_issue g t j (t j).issue) j (t j).issue ≡ true) × (earliest g t j ≤ (t j).issue)
starts g t j row = start_at g t j row (g.row j).reserved refl row.issue

two_hold : (g : Input) (t : Table) (j c : ℕ) → can_start g t j c ≡ true → (has_operands g t j c ≡ true) × (may_access g t j c ≡ true)
unfolding can_start
two_hold g t j c h = and_parts _ _ (and_parts _ _ h).0

reads_le : (g : Input) (t : Table) (j : ℕ) → AreRows g t → j < g.rows → reads_time g t (by_issue t j) j (g.row j).reads ≤ (t j).issue
reads_le g t j rows lt =
    let at = starts g t j (rows j lt) in
    let told : nat_le (reads_time g t (by_issue t j) j (g.row j).reads) (t j).issue ≡ true =
    sym (operands_seen g t (by_issue t) j (t j).issue (issue_seen g t rows) lt at.1) ∙ (two_hold g (at_issue g t j (t j).issue) j (t j).issue at.0).0 in
    grind (arith, nat_tests, told)

order_le : (g : Input) (t : Table) (j : ℕ) → AreRows g t → j < g.rows → max_below j (pass_time g t (by_issue t j) j) ≤ (t j).issue
order_le g t j rows lt =
    let at = starts g t j (rows j lt) in
    let told : nat_le (max_below j (pass_time g t (by_issue t j) j)) (t j).issue ≡ true =
    sym (access_seen g t (by_issue t) j (t j).issue (issue_seen g t rows) (issue_after t) lt at.1) ∙ (two_hold g (at_issue g t j (t j).issue) j (t j).issue at.0).1 in
    grind (arith, nat_tests, told)

all_spent : (g : Input) (t : Table) (j : ℕ) → AreRows g t → j < g.rows → register_wait g t j + memory_wait g t j + resource_wait g t j + earliest g t j ≡ (t j).issue
all_spent g t j rows lt =
    let first : earliest g t j ≤ (t j).issue = (starts g t j (rows j lt)).1 in
    let low : earliest g t j ≤ operands_at g t j = operands_ge g t j in
    let high : operands_at g t j ≤ earliest g t j + ((t j).issue - earliest g t j) = least_le ((t j).issue - earliest g t j) (earliest g t j) (λ c. has_operands g (at_issue g t j c) j c) in
    let later : operands_at g t j ≤ memory_at g t j = least_ge ((t j).issue - operands_at g t j) (operands_at g t j) (λ c. may_access g (at_issue g t j c) j c) in
    let last : memory_at g t j ≤ operands_at g t j + ((t j).issue - operands_at g t j) = least_le ((t j).issue - operands_at g t j) (operands_at g t j) (λ c. may_access g (at_issue g t j c) j c) in
    omega (arith, first, low, high, later, last)

pub in_time : (g : Input) (t : Table) → AreRows g t → IsInTime g t
in_time g t rows = record {
  start = λ j lt. (starts g t j (rows j lt)).1;
  reads = λ j lt. reads_le g t j rows lt;
  order = λ j lt. order_le g t j rows lt;
  sum = λ j lt. all_spent g t j rows lt;
  reserved = λ j lt is. rw is (sym (reserved_at g t j (g.row j).reserved refl is (rows j lt).issue));
}
