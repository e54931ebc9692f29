-- Where all older rows are over and no unit is held, nothing keeps a row.
use Rattle.std.proofs.Common.{zero, suc, ◌≡◌, ℕ, ◌+◌, ◌-◌, ◌*◌, ◌/◌, ◌<◌, ◌≤◌, inl, inr, min, max, List, [], ◌∷◌, arith, sym, ◌∙◌, ap, subst, refl, Bool, true, false, ◌&&◌, ◌||◌, not, ℤ, pos, negsuc}
use Rattle.std.specs.Prelude.{nat_lt, nat_le, nat_eq, if◌then◌else◌, Option, Some, None}
use Rattle.std.specs.List.{list_all}
use Rattle.std.proofs.Math.Nat.{lt-mul-div-succ, mul-le-mul_left}
use Rattle.std.proofs.lemmas.Bool.Decides.{nat_tests}
use Rattle.std.proofs.lemmas.Bool.{cases_Bool, cases_lt, ltb-true, and_parts, le-leb, lt-ltb, le-ltb, ne_eqb}
use Rattle.rv_isa.specs.declared.facts.Kind.{Kind}
use Rattle.rv_isa.specs.declared.facts.Kind.TheVariants.{Plain, Load, Store, Barrier}
use Rattle.machine_model.specs.Meaning.{MachineMeaning}
use Rattle.machine_model.specs.Valid.{IsValidMachine, IsShare, no_class}
use Rattle.machine_model.specs.declared.facts.FileShare.{FileShare}
use Rattle.cycle_rules.specs.Below.{sum_below, count_below, all_below, last_below}
use Rattle.cycle_rules.specs.CycleBound.{max_below, lag, most_lag, reach, cycles_of}
use Rattle.cycle_rules.specs.Dispatch.{has_room, follows, share, has_place, fits_group, fits_reorder, cost_in, fits_file, fits_registers, fits_loads, fits_stores, fits_buffers, can_dispatch}
use Rattle.cycle_rules.specs.Bind.{has_class, IsBoundRow}
use Rattle.cycle_rules.specs.Issue.{producer, is_ready, has_operand, has_operands, is_fenced, memory_order, may_access, can_start, can_issue}
use Rattle.cycle_rules.specs.Pick.{pick, taken_below}
use Rattle.cycle_rules.specs.Retire.{can_retire}
use Rattle.cycle_rules.specs.Row.{Input, Table, uops_of, names, entries, lead, advance_of, is_load, is_store}
use Rattle.cycle_rules.specs.Held.{AllEnd, taken_of}
use Rattle.cycle_rules.specs.declared.bound.Source.{Source}
use Rattle.cycle_rules.proofs.Counts.{count_none}
use Rattle.cycle_rules.proofs.Sums.{sum_none}
use Rattle.cycle_rules.proofs.Tests.{and_false, or_true, all_hold}
use Rattle.cycle_rules.proofs.UnitsEnd.{units_end, end_later}
use Rattle.cycle_rules.proofs.UnitsFound.{units_found}
use Rattle.cycle_rules.proofs.UnitRows.{end_below}

-- a row that is over before cycle c, and nothing of it is under way then
pub record IsOver (g : Input) (s : Table) (c m : ℕ) : Type 0 where
  pub dispatched : (s m).dispatch < c
  pub carried : (s m).dispatch + cycles_of (uops_of g m) g.machine.limits.width ≤ c
  pub issued : (s m).issue < c
  pub completed : (s m).complete < c
  pub ready : (s m).issue + (g.row m).latency + most_lag g.machine + 1 ≤ c
  pub retired : (s m).retire < c

-- a row that has issued by cycle c holds no unit from then on
abbrev pub IsReleased : Input → Table → ℕ → ℕ → Type 0
IsReleased g s c m = (s m).issue ≤ c → (s m).issue + reach (g.row m).uses ≤ c

-- Sums and tests

each_holds : {A : Type 0} (xs : List A) (p : A → Bool) → ((x : A) → p x ≡ true) → list_all p xs ≡ true
each_holds [] p h = refl
each_holds (x ∷ xs) p h = rw (h x, each_holds xs p h) refl

each_along : {A : Type 0} (xs : List A) (p q : A → Bool) → ((x : A) → p x ≡ true → q x ≡ true) → list_all p xs ≡ true → list_all q xs ≡ true
each_along [] p q h all = refl
each_along (x ∷ xs) p q h all =
    let parts : (p x ≡ true) × (list_all p xs ≡ true) = and_parts (p x) (list_all p xs) all in
    rw (h x parts.0, each_along xs p q h parts.1) refl

last_lt : (n : ℕ) (p : ℕ → Bool) (k : ℕ) → last_below n p ≡ Some k → k < n
unfolding last_below
last_lt zero p k e = cc
last_lt (suc n) p k e = grind (arith, last_lt n p k)

room_for_one : (bound : ℕ) → has_room bound 0 ≡ true
unfolding has_room
room_for_one bound = grind (arith, nat_tests)

-- Operands

pub le_max : (n : ℕ) (f : ℕ → ℕ) (k : ℕ) → k < n → f k ≤ max_below n f
unfolding max_below
le_max zero f k lt = absurd (omega arith)
le_max (suc n) f k lt = elim (cases_lt k n) [ inl low ↦ omega (arith, le_max n f k low) | inr last ↦ (let e : k ≡ n = omega arith in subst (λ x. f x ≤ max (max_below n f) (f n)) (sym e) (omega arith)) ]

le_most : (m : MachineMeaning) (read write : ℕ) → read < m.read_count → write < m.write_count → lag (m.advance read write) ≤ most_lag m
unfolding most_lag
le_most m read write r w = omega (arith, le_max m.write_count (λ k. lag (m.advance read k)) write w, le_max m.read_count (λ q. max_below m.write_count (λ k. lag (m.advance q k))) read r)

lag_le : (m : MachineMeaning) (s : Source) (write : ℕ) → has_class m s ≡ true → write < m.write_count → lag (advance_of m s.read write) ≤ most_lag m
unfolding advance_of
lag_le m s write h w = elim (cases_Bool (nat_eq s.read no_class)) [
  | inl none ↦ rw none (omega arith)
  | inr some ↦ rw some (le_most m s.read write (ltb-true _ _ (rw some at h)) w)
]

lead_le : (l : ℕ) (a : ℤ) → lead l a ≤ l + lag a
unfolding lead
lead_le l (pos a) = omega arith
lead_le l (negsuc a) = omega arith

over_ready : (g : Input) (s : Table) (c k : ℕ) (x : Source) → has_class g.machine x ≡ true → ((m : ℕ) → m < k → (g.row m).write < g.machine.write_count) → ((m : ℕ) → m < k → IsOver g s c m)
    → (o : Option ℕ) → ((m : ℕ) → o ≡ Some m → m < k) → is_ready g s c x.read o ≡ true
over_ready g s c k x class writes over None lt = refl
over_ready g s c k x class writes over (Some m) lt =
    let early : (s m).issue + lead (g.row m).latency (advance_of g.machine x.read (g.row m).write) ≤ c =
    omega (arith, lead_le (g.row m).latency (advance_of g.machine x.read (g.row m).write), lag_le g.machine x (g.row m).write class (writes m (lt m refl)), (over m (lt m refl)).ready) in
    le-leb _ c early

over_operand : (g : Input) (s : Table) (c k : ℕ) → ((m : ℕ) → m < k → (g.row m).write < g.machine.write_count) → ((m : ℕ) → m < k → IsOver g s c m) → (x : Source) → has_class g.machine x ≡ true → has_operand g s k c x ≡ true
unfolding has_operand producer
over_operand g s c k writes over x class =
    ap (λ b. nat_eq x.reg 0 || b) (over_ready g s c k x class writes over (last_below k (λ m. nat_eq (g.row m).rd x.reg)) (last_lt k (λ m. nat_eq (g.row m).rd x.reg))) ∙ or_true (nat_eq x.reg 0)

-- Memory

order_true : (a b : Kind) (may_pass fenced : Bool) → memory_order a b (record { may_pass = may_pass; fenced = fenced; issued = true; completed = true }) ≡ true
unfolding memory_order
order_true Plain b may_pass fenced = refl
order_true Load Plain may_pass fenced = refl
order_true Load Load may_pass fenced = or_true (not fenced)
order_true Load Store may_pass fenced = or_true may_pass
order_true Load Barrier may_pass fenced = refl
order_true Store Plain may_pass fenced = refl
order_true Store Load may_pass fenced = refl
order_true Store Store may_pass fenced = refl
order_true Store Barrier may_pass fenced = refl
order_true Barrier Plain may_pass fenced = refl
order_true Barrier Load may_pass fenced = refl
order_true Barrier Store may_pass fenced = refl
order_true Barrier Barrier may_pass fenced = refl

over_access : (g : Input) (s : Table) (c k : ℕ) → ((m : ℕ) → m < k → IsOver g s c m) → may_access g s k c ≡ true
unfolding may_access
over_access g s c k over = all_hold k _ (λ m lt.
    rw (le-leb (s m).issue c (omega (arith, (over m lt).issued)), le-leb (s m).complete c (omega (arith, (over m lt).completed)))
    (order_true (g.row k).kind (g.row m).kind g.machine.limits.no_alias (is_fenced g m k)))

-- Units

released_end : (g : Input) (s : Table) (c : ℕ) → ((m : ℕ) → m < g.rows → IsReleased g s c m) → AllEnd c (taken_below g s (c + 1))
released_end g s c released = end_below g s c (c + 1) (λ m lt low. end_later _ c (taken_of g s m) (released m lt (omega arith)) (units_end (s m).issue (g.row m).uses (s m).units))

pub over_can_start : (g : Input) (s : Table) (c k : ℕ) → IsBoundRow g.machine (g.row k) → ((m : ℕ) → m < k → (g.row m).write < g.machine.write_count) → ((m : ℕ) → m < g.rows → IsReleased g s c m) → ((m : ℕ) → m < k → IsOver g s c m)
    → can_start g s k c ≡ true
unfolding can_start has_operands pick
over_can_start g s c k bound writes released over = rw (
  each_along (g.row k).reads (has_class g.machine) (has_operand g s k c) (over_operand g s c k writes over) bound.reads,
  over_access g s c k over,
  units_found g.machine (taken_below g s (c + 1)) c (g.row k).uses bound.uses (released_end g s c released),
) refl

-- Dispatch

no_share : (w u n : ℕ) → 1 ≤ w → (u + w - 1) / w ≤ n → min w (u - w * n) ≡ 0
no_share w u n low le =
    let q : ℕ = (u + w - 1) / w in
    let above : u + w - 1 < w * (q + 1) = lt-mul-div-succ (u + w - 1) low in
    let more : w * q ≤ w * n = mul-le-mul_left w le in
    omega (arith, above, more)

over_share : (g : Input) (s : Table) (c m : ℕ) → 1 ≤ g.machine.limits.width → IsOver g s c m → share g.machine.limits.width (uops_of g m) (s m).dispatch c ≡ 0
unfolding share
over_share g s c m low over =
    rw (le-leb (s m).dispatch c (omega (arith, over.dispatched))) (no_share g.machine.limits.width (uops_of g m) (c - (s m).dispatch) low (omega (arith, over.carried, over.dispatched)))

over_group : (g : Input) (s : Table) (c k : ℕ) → ((m : ℕ) → m < k → share g.machine.limits.width (uops_of g m) (s m).dispatch c ≡ 0) → fits_group g s k c ≡ true
unfolding fits_group has_place
over_group g s c k none =
    let w : ℕ = g.machine.limits.width in
    let total : sum_below k (λ m. share w (uops_of g m) (s m).dispatch c) ≡ 0 = sum_none k _ none in
    let ends : all_below k (λ m. not (g.row m).ends_group || nat_eq (share w (uops_of g m) (s m).dispatch c) 0) ≡ true = all_hold k _ (λ m lt. rw (none m lt) (or_true (not (g.row m).ends_group))) in
    rw (total, ends, le-leb (0 + min (uops_of g k) w) w (omega arith), or_true (not ((g.row k).begins_group || nat_lt w (uops_of g k)))) refl

over_count : (c k : ℕ) (p : ℕ → Bool) (f : ℕ → ℕ) → ((m : ℕ) → m < k → f m < c) → count_below k (λ m. p m && nat_lt c (f m)) ≡ 0
over_count c k p f h = count_none k _ (λ m lt. rw (le-ltb c (f m) (omega (arith, h m lt))) (and_false (p m)))

over_sum : (c k : ℕ) (n f : ℕ → ℕ) → ((m : ℕ) → m < k → f m < c) → sum_below k (λ m. if nat_lt c (f m) then n m else 0) ≡ 0
over_sum c k n f h = sum_none k _ (λ m lt. rw (le-ltb c (f m) (omega (arith, h m lt))) refl)

over_follows : (f : ℕ → ℕ) (k c : ℕ) → ((m : ℕ) → m < k → f m < c) → follows f k c ≡ true
unfolding follows
over_follows f zero c h = refl
over_follows f (suc k) c h = le-leb (f k) c (omega (arith, h k (omega arith)))

over_reorder : (g : Input) (s : Table) (c k : ℕ) → ((m : ℕ) → m < k → (s m).retire < c) → fits_reorder g s k c ≡ true
unfolding fits_reorder uops_of
over_reorder g s c k h = rw (over_sum c k (λ m. min (g.row m).uops g.machine.limits.reorder) (λ m. (s m).retire) h) (le-leb _ _ (omega arith))

over_file : (g : Input) (s : Table) (c k : ℕ) → ((m : ℕ) → m < k → (s m).retire < c) → (o : Option FileShare) → ((f : FileShare) → o ≡ Some f → IsShare g.machine f) → fits_file g s k c o ≡ true
over_file g s c k h None valid = refl
over_file g s c k h (Some f) valid =
    rw (over_sum c k (λ m. cost_in g.machine f.file (g.row m).rd) (λ m. (s m).retire) h) (fits (g.machine.file_size f.file) f.cost (valid f refl).room)
  where
    fits : (size cost : ℕ) → ((size ≡ 0 → ⊥) → cost ≤ size) → (nat_eq size 0 || nat_le (0 + cost) size) ≡ true
    fits size cost h = grind (arith, nat_tests, h)

over_registers : (g : Input) (s : Table) (c k : ℕ) → ((r : ℕ) (f : FileShare) → g.machine.file_of r ≡ Some f → IsShare g.machine f) → ((m : ℕ) → m < k → (s m).retire < c) → fits_registers g s k c ≡ true
unfolding fits_registers
over_registers g s c k valid h = rw (
  over_count c k (λ m. nat_lt 0 (g.row m).rd) (λ m. (s m).retire) h,
  room_for_one g.machine.limits.registers,
  over_file g s c k h (g.machine.file_of (g.row k).rd) (valid (g.row k).rd),
) (or_true (nat_eq (g.row k).rd 0))

over_loads : (g : Input) (s : Table) (c k : ℕ) → ((m : ℕ) → m < k → (s m).retire < c) → fits_loads g s k c ≡ true
unfolding fits_loads
over_loads g s c k h = rw (over_count c k (λ m. is_load (g.row m).kind) (λ m. (s m).retire) h, room_for_one g.machine.limits.loads) (or_true (not (is_load (g.row k).kind)))

over_stores : (g : Input) (s : Table) (c k : ℕ) → ((m : ℕ) → m < k → (s m).retire < c) → fits_stores g s k c ≡ true
unfolding fits_stores
over_stores g s c k h = rw (over_count c k (λ m. is_store (g.row m).kind) (λ m. (s m).retire) h, room_for_one g.machine.limits.stores) (or_true (not (is_store (g.row k).kind)))

over_buffers : (g : Input) (s : Table) (c k : ℕ) → ((m : ℕ) → m < k → (s m).issue < c) → fits_buffers g s k c ≡ true
unfolding fits_buffers
over_buffers g s c k h = each_holds (g.row k).uses _ (λ w.
    ap (has_room (entries (g.machine.buffer w.resource))) (over_count c k (λ m. names w.resource (g.row m)) (λ m. (s m).issue) h) ∙ room_for_one (entries (g.machine.buffer w.resource)))

pub over_can_dispatch : {numbers size : ℕ} (g : Input) (s : Table) (c k : ℕ) → IsValidMachine numbers size g.machine → can_start g s k c ≡ true → ((m : ℕ) → m < k → IsOver g s c m) → can_dispatch g s k c ≡ true
unfolding can_dispatch
over_can_dispatch g s c k valid issue over =
    let retired : (m : ℕ) → m < k → (s m).retire < c = λ m lm. (over m lm).retired in
    rw (
      over_follows (λ m. (s m).dispatch) k c (λ m lm. (over m lm).dispatched),
      over_group g s c k (λ m lm. over_share g s c m valid.limits.width_low (over m lm)),
      over_reorder g s c k retired,
      over_registers g s c k valid.share retired,
      over_loads g s c k retired,
      over_stores g s c k retired,
      over_buffers g s c k (λ m lm. (over m lm).issued),
      issue,
    ) (both (g.row k).reserved)
  where
    both : (b : Bool) → (if b then true else true) ≡ true
    both true = refl
    both false = refl

pub over_can_issue : (g : Input) (s : Table) (c k : ℕ) → (s k).dispatch < c → can_start g s k c ≡ true → can_issue g s k c ≡ true
unfolding can_issue
over_can_issue g s c k d can = rw (lt-ltb (s k).dispatch c d, can) refl

pub over_can_retire : (g : Input) (s : Table) (c k : ℕ) → (s k).complete < c → ((m : ℕ) → m < k → (s m).retire < c) → can_retire g s k c ≡ true
unfolding can_retire
over_can_retire g s c k done over = rw (
  lt-ltb (s k).complete c done,
  over_follows (λ m. (s m).retire) k c over,
  count_none k (λ m. nat_eq (s m).retire c) (λ m lm. ne_eqb (s m).retire c (λ e. absurd (omega (arith, e, over m lm)))),
  room_for_one g.machine.limits.retire,
) refl
