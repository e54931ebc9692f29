-- What a row sees of rows that have issued before it looks, and of those that have not.
use Rattle.std.proofs.Common.{zero, suc, ◌≡◌, ℕ, ◌+◌, ◌<◌, ◌≤◌, inl, inr, arith, sym, ◌∙◌, ap, refl, Bool, true, false, ◌&&◌, ◌||◌}
use Rattle.std.specs.Prelude.{nat_lt, nat_le, nat_eq, if◌then◌else◌, Some, None}
use Rattle.std.specs.declared.option.Option.{Option}
use Rattle.std.proofs.lemmas.Bool.Decides.{nat_tests}
use Rattle.std.proofs.lemmas.Bool.{cases_lt}
use Rattle.rv_isa.specs.declared.facts.Kind.{Kind}
use Rattle.rv_isa.specs.declared.facts.Kind.TheVariants.{Plain}
use Rattle.cycle_rules.specs.Below.{last_below, all_below}
use Rattle.cycle_rules.specs.Issue.{producer, is_ready, has_operand, is_fenced, memory_order, older_row, may_access}
use Rattle.cycle_rules.specs.Row.{Input, Table, lead, advance_of, phase, is_store, is_barrier}
use Rattle.cycle_rules.specs.Seen.{key_at, comes_before, has_issued, sees}
use Rattle.cycle_rules.specs.declared.bound.Source.{Source}
use Rattle.cycle_rules.proofs.Tests.{and_false, all_hold}

-- what has issued has a time that is no later
pub seen_within : (n x q k c p j : ℕ) → (nat_lt k n && comes_before (key_at x q k) (key_at c p j)) ≡ true → x ≤ c
unfolding comes_before
seen_within n x q k c p j h = grind (arith, nat_tests, h)

pub ready_by : (i n c : ℕ) (b : Bool) → nat_le ((if b then i else c + 1) + n) c ≡ (b && nat_le (i + n) c)
ready_by i n c true = refl
ready_by i n c false = let late : nat_le (c + 1 + n) c ≡ false = grind (arith, nat_tests) in late

-- the value of a row

pub value_seen : (g : Input) (t : Table) (p j c read k i n : ℕ) → has_issued g t k c p j ≡ true → i ≡ (t k).issue → n ≡ lead (g.row k).latency (advance_of g.machine read (g.row k).write)
    → nat_le (i + n) c ≡ is_ready g (sees g t p j c) c read (Some k)
value_seen g t p j c read k i n h e l =
    (λ m. nat_le (e m + l m) c)
    ∙ ap (λ b. b && nat_le ((t k).issue + lead (g.row k).latency (advance_of g.machine read (g.row k).write)) c) (sym h)
    ∙ sym (ready_by (t k).issue (lead (g.row k).latency (advance_of g.machine read (g.row k).write)) c (has_issued g t k c p j))

pub value_unseen : (g : Input) (t : Table) (p j c read k : ℕ) → has_issued g t k c p j ≡ false → false ≡ is_ready g (sees g t p j c) c read (Some k)
value_unseen g t p j c read k h =
    ap (λ b. b && nat_le ((t k).issue + lead (g.row k).latency (advance_of g.machine read (g.row k).write)) c) (sym h)
    ∙ sym (ready_by (t k).issue (lead (g.row k).latency (advance_of g.machine read (g.row k).write)) c (has_issued g t k c p j))

-- what is read

pub operand_zero : (g : Input) (s : Table) (j c : ℕ) (source : Source) → source.reg ≡ 0 → true ≡ has_operand g s j c source
unfolding has_operand
operand_zero g s j c source e = let is : nat_eq source.reg 0 ≡ true = grind (arith, nat_tests) in rw is refl

pub operand_of : (g : Input) (s : Table) (j c : ℕ) (source : Source) (o : Option ℕ) (b : Bool) → (source.reg ≡ 0 → ⊥) → o ≡ last_below j (λ k. nat_eq (g.row k).rd source.reg) → b ≡ is_ready g s c source.read o → b ≡ has_operand g s j c source
unfolding has_operand producer
operand_of g s j c source o b ne e is = let other : nat_eq source.reg 0 ≡ false = grind (arith, nat_tests) in rw (other, ← e) is

-- the youngest row that passes

pub last_step : (n k : ℕ) (p : ℕ → Bool) (b : Bool) → n ≡ k + 1 → p k ≡ b → last_below n p ≡ (if b then Some k else last_below k p)
unfolding last_below
last_step zero k p b e h = absurd (omega arith)
last_step (suc n) k p b e h = let same : n ≡ k = omega arith in rw (same, h) refl

pub last_none : (p : ℕ → Bool) (n : ℕ) → n ≤ 0 → None ≡ last_below n p
unfolding last_below
last_none p zero le = refl
last_none p (suc n) le = absurd (omega arith)

-- the order of memory

pub issued_by : (i c : ℕ) (b : Bool) → (b ≡ true → i ≤ c) → nat_le (if b then i else c + 1) c ≡ b
issued_by i c true low = let le : i ≤ c = low refl in grind (arith, nat_tests)
issued_by i c false low = grind (arith, nat_tests)

pub completed_by : (w n c : ℕ) (b : Bool) → nat_le (if b then w else c + 1 + n) c ≡ (b && nat_le w c)
completed_by w n c true = refl
completed_by w n c false = let late : nat_le (c + 1 + n) c ≡ false = grind (arith, nat_tests) in late

pub passes_older : (g : Input) (t : Table) (p j c k : ℕ) (kind older : Kind) (free fenced issued completed : Bool)
    → kind ≡ (g.row j).kind → older ≡ (g.row k).kind → free ≡ g.machine.limits.no_alias → fenced ≡ is_fenced g k j → issued ≡ has_issued g t k c p j → completed ≡ (issued && nat_le (t k).complete c)
    → memory_order kind older (record { may_pass = free; fenced = fenced; issued = issued; completed = completed }) ≡ memory_order (g.row j).kind (g.row k).kind (older_row g (sees g t p j c) j c k)
passes_older g t p j c k kind older free fenced issued completed a b f e i w = λ m. memory_order (a m) (b m) (record { may_pass = f m; fenced = e m; issued = seen m; completed = done m })
  where
    seen : issued ≡ nat_le (sees g t p j c k).issue c
    seen = i ∙ sym (issued_by (t k).issue c (has_issued g t k c p j) (λ h. seen_within g.rows (t k).issue (phase (g.row k)) k c p j h))

    done : completed ≡ nat_le (sees g t p j c k).complete c
    done = w ∙ ap (λ x. x && nat_le (t k).complete c) i ∙ sym (completed_by (t k).complete (g.row k).latency c (has_issued g t k c p j))

-- a row from k on and older than row j is a store or a barrier
unfoldable pub fenced_from : Input → ℕ → ℕ → Bool
fenced_from g k zero = false
fenced_from g k (suc j) = nat_le k j && (is_store (g.row j).kind || is_barrier (g.row j).kind || fenced_from g k j)

-- the fences between two rows

pub fenced_none : (g : Input) (k j : ℕ) → j ≤ k → false ≡ fenced_from g k j
unfolding fenced_from
fenced_none g k zero le = refl
fenced_none g k (suc j) le = let no_row : nat_le k j ≡ false = grind (arith, nat_tests) in rw no_row refl

pub fenced_is : (g : Input) (k n j : ℕ) → n ≡ k + 1 → fenced_from g n j ≡ is_fenced g k j
unfolding fenced_from is_fenced
fenced_is g k n zero e = refl
fenced_is g k n (suc j) e = let same : nat_le n j ≡ nat_lt k j = grind (arith, nat_tests) in rw (same, fenced_is g k n j e) refl

swap : (a b c : Bool) → (a || (b || c)) ≡ (b || (a || c))
swap true true c = refl
swap true false c = refl
swap false b c = refl

pub fenced_more : (g : Input) (k n j : ℕ) → n ≡ k + 1 → k < j → ((is_store (g.row k).kind || is_barrier (g.row k).kind) || fenced_from g n j) ≡ fenced_from g k j
unfolding fenced_from
fenced_more g k n zero e lt = absurd (omega arith)
fenced_more g k n (suc j) e lt = elim (cases_lt k j) [
  | inl low ↦ (let a : nat_le n j ≡ true = grind (arith, nat_tests) in let b : nat_le k j ≡ true = grind (arith, nat_tests) in
      rw (a, b, ← fenced_more g k n j e low) (swap (is_store (g.row k).kind || is_barrier (g.row k).kind) (is_store (g.row j).kind || is_barrier (g.row j).kind) (fenced_from g n j)))
  | inr last ↦ (let same : k ≡ j = omega arith in let a : nat_le n j ≡ false = grind (arith, nat_tests) in let b : nat_le k j ≡ true = grind (arith, nat_tests) in
      let nothing : fenced_from g k j ≡ false = sym (fenced_none g k j (omega arith)) in
      rw (a, b, nothing, same) refl)
]

-- a test of all numbers, from the greatest down

pub all_step : (n k : ℕ) (p : ℕ → Bool) → n ≡ k + 1 → p k ≡ true → all_below n p ≡ all_below k p
unfolding all_below
all_step zero k p e h = absurd (omega arith)
all_step (suc n) k p e h = let same : n ≡ k = omega arith in rw (same, h) (last (all_below k p))
  where
    last : (b : Bool) → (b && true) ≡ b
    last true = refl
    last false = refl

pub all_fails : (n k : ℕ) (p : ℕ → Bool) → n ≡ k + 1 → p k ≡ false → false ≡ all_below n p
unfolding all_below
all_fails zero k p e h = absurd (omega arith)
all_fails (suc n) k p e h = let same : n ≡ k = omega arith in rw (same, h) (sym (and_false (all_below k p)))

pub all_none : (n : ℕ) (p : ℕ → Bool) → n ≤ 0 → true ≡ all_below n p
unfolding all_below
all_none zero p le = refl
all_none (suc n) p le = absurd (omega arith)

pub access_is : (g : Input) (s : Table) (j c : ℕ) (b : Bool) → b ≡ all_below j (λ k. memory_order (g.row j).kind (g.row k).kind (older_row g s j c k)) → b ≡ may_access g s j c
unfolding may_access
access_is g s j c b e = e

pub access_plain : (g : Input) (s : Table) (j c : ℕ) → (g.row j).kind ≡ Plain → true ≡ may_access g s j c
unfolding may_access memory_order
access_plain g s j c e = sym (all_hold j _ (λ k lt. ap (λ q. memory_order q (g.row k).kind (older_row g s j c k)) e))

-- a test of rows that come again after so many: where none of the last so many passes, none does
pub last_again : (p : ℕ → Bool) (n j k : ℕ) → 0 < n → ((i : ℕ) → p (i + n) ≡ p i) → k + n ≤ j → ((i : ℕ) → k ≤ i → i < j → p i ≡ false) → None ≡ last_below k p
unfolding last_below
last_again p n j k some again whole none = nothing k (λ i lt. earlier k i (omega arith) lt)
  where
    earlier : (left i : ℕ) → k ≤ i + left → i < k → p i ≡ false
    earlier zero i reach lt = absurd (omega arith)
    earlier (suc left) i reach lt = elim (cases_lt (i + n) k) [
      | inl low ↦ sym (again i) ∙ earlier left (i + n) (omega (arith, reach, some)) low
      | inr high ↦ sym (again i) ∙ none (i + n) high (omega (arith, lt, whole))
    ]

    nothing : (m : ℕ) → ((i : ℕ) → i < m → p i ≡ false) → None ≡ last_below m p
    nothing zero h = refl
    nothing (suc m) h = rw (h m (omega arith)) (nothing m (λ i lt. h i (omega arith)))
