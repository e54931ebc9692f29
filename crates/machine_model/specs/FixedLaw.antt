-- A machine by three numbers keeps the law.
use Rattle.std.proofs.Common.{◌≡◌, ℕ, ◌+◌, ◌<◌, ◌≤◌, zero, suc, Bool, true, false, Some, None, [], ◌∷◌, refl, subst, arith, nat_eq, nat_lt, if◌then◌else◌, lit≤, inl, inr}
use Rattle.std.proofs.lemmas.Bool.{cases_lt}
use Rattle.std.proofs.lemmas.Bool.Decides.{nat_tests}
use Rattle.std.proofs.lemmas.Option.{none-some}
use Rattle.unit_sets.specs.Below.{count_below}
use Rattle.rv_isa.specs.Opcodes.{facts_of}
use Rattle.rv_isa.specs.declared.facts.Kind.{Kind}
use Rattle.rv_isa.specs.declared.facts.Kind.TheVariants as kind
use Rattle.machine_model.specs.Fixed.{AreSizes, given_or, fixed_limits, fixed_units, owned, multiplies, divides, write_of_kind, fixed_write, one_use, fixed_class, fixed_meaning}
use Rattle.machine_model.specs.Meaning.{MachineMeaning}
use Rattle.machine_model.specs.Uses.{units_of, share_unit, can_be_met}
use Rattle.machine_model.specs.Valid.{AreLimits, IsResource, IsOwner, IsWrite, IsBinding, IsValidMachine, no_class}
use Rattle.machine_model.specs.declared.answers.Binding.{Binding}
use Rattle.machine_model.specs.declared.answers.ClassAnswer.TheVariants.{Class}
use Rattle.machine_model.specs.declared.answers.UnitOwner.{UnitOwner}
use Rattle.machine_model.specs.declared.tuning.Tuning.{Tuning}

-- all of the numbers below n pass
pub count-all : (n : ℕ) (p : ℕ → Bool) → ((v : ℕ) → v < n → p v ≡ true) → n ≡ count_below n p
unfolding count_below
count-all zero p h = refl
count-all (suc n) p h =
    let rest : n ≡ count_below n p = count-all n p (λ v lt. h v (omega arith)) in
    let last : p n ≡ true = h n (omega arith) in
    rw last (omega (arith, rest))

-- none of them does
pub count-none : (n : ℕ) (p : ℕ → Bool) → ((v : ℕ) → v < n → p v ≡ false) → 0 ≡ count_below n p
unfolding count_below
count-none zero p h = refl
count-none (suc n) p h =
    let rest : 0 ≡ count_below n p = count-none n p (λ v lt. h v (omega arith)) in
    let last : p n ≡ false = h n (omega arith) in
    rw last (omega (arith, rest))

-- one of them does
pub count-some : (n u : ℕ) (p : ℕ → Bool) → u < n → p u ≡ true → 0 < count_below n p
unfolding count_below
count-some zero u p lt e = absurd (omega arith)
count-some (suc n) u p lt e = elim (cases_lt u n) [
  | inl low ↦ (let rest : 0 < count_below n p = count-some n u p low e in omega (arith, rest))
  | inr high ↦ (let last : p n ≡ true = subst (λ v. p v ≡ true) (omega arith) e in rw last (omega arith))
]

given_or-low : (given own : ℕ) → 1 ≤ own → 1 ≤ given_or given own
given_or-low given own h = grind (arith, nat_tests, h)

given_or-high : (given own high : ℕ) → given ≤ high → own ≤ high → given_or given own ≤ high
given_or-high given own high g h = grind (arith, nat_tests, g, h)

limits_fit : (w r a : ℕ) → AreSizes w r a → (t : Tuning) → AreLimits (fixed_limits w r t)
limits_fit w r a s t = record {
  width_low = given_or-low t.dispatch w s.width_low;
  width_high = given_or-high t.dispatch w 64 t.in_range.dispatch s.width_high;
  reorder_low = s.reorder_low;
  reorder_high = s.reorder_high;
  retire = s.width_high;
  loads = given_or-high t.loads 16 4096 t.in_range.loads (lit≤ tt);
  stores = given_or-high t.stores 16 4096 t.in_range.stores (lit≤ tt);
  registers = given_or-high t.registers 0 65536 t.in_range.registers (lit≤ tt);
}

-- a resource's first unit, which it has
some_unit : (a r : ℕ) → 1 ≤ a → a ≤ 60 → r < 4 → 0 < count_below 64 (fixed_units a r)
some_unit a zero low high h = count-some 64 0 (fixed_units a 0) (omega arith) (grind (arith, nat_tests))
some_unit a (suc zero) low high h = count-some 64 a (fixed_units a 1) (omega arith) (grind (arith, nat_tests))
some_unit a (suc (suc zero)) low high h = count-some 64 (a + 1) (fixed_units a 2) (omega arith) (grind (arith, nat_tests))
some_unit a (suc (suc (suc zero))) low high h = count-some 64 (a + 2) (fixed_units a 3) (omega arith) (grind (arith, nat_tests))
some_unit a (suc (suc (suc (suc r)))) low high h = absurd (omega arith)

units_low : (a r u : ℕ) → a ≤ 60 → fixed_units a r u ≡ true → u < 64
units_low a zero u high e = grind (arith, nat_tests, e)
units_low a (suc zero) u high e = grind (arith, nat_tests, e)
units_low a (suc (suc zero)) u high e = grind (arith, nat_tests, e)
units_low a (suc (suc (suc r))) u high e = grind (arith, nat_tests, e)

fixed_resource : (w r a : ℕ) → AreSizes w r a → (t : Tuning) (q : ℕ) → q < 4 → IsResource (fixed_meaning w r a t) q
fixed_resource w r a s t zero h = record { buffer_low = refl; buffer_high = refl; some_unit = some_unit a 0 s.alus_low s.alus_high h; units_low = λ u. units_low a 0 u s.alus_high }
fixed_resource w r a s t (suc zero) h = record { buffer_low = refl; buffer_high = refl; some_unit = some_unit a 1 s.alus_low s.alus_high h; units_low = λ u. units_low a 1 u s.alus_high }
fixed_resource w r a s t (suc (suc zero)) h = record { buffer_low = refl; buffer_high = refl; some_unit = some_unit a 2 s.alus_low s.alus_high h; units_low = λ u. units_low a 2 u s.alus_high }
fixed_resource w r a s t (suc (suc (suc zero))) h = record { buffer_low = refl; buffer_high = refl; some_unit = some_unit a 3 s.alus_low s.alus_high h; units_low = λ u. units_low a 3 u s.alus_high }
fixed_resource w r a s t (suc (suc (suc (suc q)))) h = absurd (omega arith)

-- the unit of MUL, DIV or MEM has none of its resource below it
owner_of_one : (w r a : ℕ) (t : Tuning) (u q : ℕ) (o : UnitOwner) → q < 4 → fixed_units a q u ≡ true → ((v : ℕ) → v < u → fixed_units a q v ≡ false) → owned q 0 ≡ Some o → IsOwner (fixed_meaning w r a t) u o
owner_of_one w r a t u q o low has below e =
    let own : UnitOwner = record { resource = q; place = 0 } in
    let same : own ≡ o = cc in
    subst (IsOwner (fixed_meaning w r a t) u) same (record { resource = low; has = has; place = count-none u (fixed_units a q) below })

owner_by : (w r a : ℕ) (t : Tuning) (u : ℕ) (o : UnitOwner) (alu mul div mem : Bool) → nat_lt u a ≡ alu → nat_eq u a ≡ mul → nat_eq u (a + 1) ≡ div → nat_eq u (a + 2) ≡ mem
    → (if alu then owned 0 u else if mul then owned 1 0 else if div then owned 2 0 else if mem then owned 3 0 else None) ≡ Some o → IsOwner (fixed_meaning w r a t) u o
owner_by w r a t u o true mul div mem is_alu is_mul is_div is_mem e =
    let own : UnitOwner = record { resource = 0; place = u } in
    let same : own ≡ o = cc in
    subst (IsOwner (fixed_meaning w r a t) u) same (record { resource = lit≤ tt; has = is_alu; place = count-all u (fixed_units a 0) (λ v lt. grind (arith, nat_tests, is_alu, lt)) })
owner_by w r a t u o false true div mem is_alu is_mul is_div is_mem e = owner_of_one w r a t u 1 o (lit≤ tt) is_mul (λ v lt. grind (arith, nat_tests, is_mul, lt)) e
owner_by w r a t u o false false true mem is_alu is_mul is_div is_mem e = owner_of_one w r a t u 2 o (lit≤ tt) is_div (λ v lt. grind (arith, nat_tests, is_div, lt)) e
owner_by w r a t u o false false false true is_alu is_mul is_div is_mem e = owner_of_one w r a t u 3 o (lit≤ tt) is_mem (λ v lt. grind (arith, nat_tests, is_mem, lt)) e
owner_by w r a t u o false false false false is_alu is_mul is_div is_mem e = absurd (none-some o e)

fixed_write-low : (multiply divide : Bool) (k : Kind) → (if multiply then 1 else if divide then 2 else write_of_kind k) < 5
fixed_write-low true divide k = lit≤ tt
fixed_write-low false true k = lit≤ tt
fixed_write-low false false kind.Plain = lit≤ tt
fixed_write-low false false kind.Load = lit≤ tt
fixed_write-low false false kind.Store = lit≤ tt
fixed_write-low false false kind.Barrier = lit≤ tt

fixed_binding : (w r a : ℕ) (t : Tuning) (write : ℕ) (b : Binding) → write < 5 → Class (record { write = write; reads = no_class ∷ no_class ∷ [] }) ≡ Class b → IsBinding (fixed_meaning w r a t) b
fixed_binding w r a t write b low e =
    let own : Binding = record { write = write; reads = no_class ∷ no_class ∷ [] } in
    let same : own ≡ b = cc in
    subst (IsBinding (fixed_meaning w r a t)) same (record { write = low; rs1 = λ some. absurd (some refl); rs2 = λ some. absurd (some refl) })

-- one use of a resource that has a unit can be met
one_use-met : (m : MachineMeaning) (q hold : ℕ) → 0 < units_of m q → can_be_met (units_of m) (share_unit m) (record { resource = q; hold = suc hold } ∷ []) ≡ true
one_use-met m q hold some = grind (arith, nat_tests, some)

one_use-fits : (m : MachineMeaning) (q hold latency : ℕ) → q < m.resource_count → 0 < units_of m q → suc hold ≤ 1000000 → latency ≤ 1000000 → IsWrite m (one_use q (suc hold) latency)
one_use-fits m q hold latency low some short soon = record {
  latency = soon;
  uops_low = lit≤ tt;
  uops_high = lit≤ tt;
  use_count = lit≤ tt;
  eight = refl;
  use_of = elim [ zero ↦ λ h. record { resource = low; hold = short } | suc i ↦ λ h. absurd (omega arith) ];
  met = one_use-met m q hold some;
}

fixed_class-fits : (w r a : ℕ) → AreSizes w r a → (t : Tuning) (k : ℕ) → k < 5 → IsWrite (fixed_meaning w r a t) (fixed_class k)
fixed_class-fits w r a s t zero h = one_use-fits (fixed_meaning w r a t) 0 0 1 (lit≤ tt) (some_unit a 0 s.alus_low s.alus_high (lit≤ tt)) (lit≤ tt) (lit≤ tt)
fixed_class-fits w r a s t (suc zero) h = one_use-fits (fixed_meaning w r a t) 1 0 3 (lit≤ tt) (some_unit a 1 s.alus_low s.alus_high (lit≤ tt)) (lit≤ tt) (lit≤ tt)
fixed_class-fits w r a s t (suc (suc zero)) h = one_use-fits (fixed_meaning w r a t) 2 19 20 (lit≤ tt) (some_unit a 2 s.alus_low s.alus_high (lit≤ tt)) (lit≤ tt) (lit≤ tt)
fixed_class-fits w r a s t (suc (suc (suc zero))) h = one_use-fits (fixed_meaning w r a t) 3 0 4 (lit≤ tt) (some_unit a 3 s.alus_low s.alus_high (lit≤ tt)) (lit≤ tt) (lit≤ tt)
fixed_class-fits w r a s t (suc (suc (suc (suc zero)))) h = one_use-fits (fixed_meaning w r a t) 3 0 1 (lit≤ tt) (some_unit a 3 s.alus_low s.alus_high (lit≤ tt)) (lit≤ tt) (lit≤ tt)
fixed_class-fits w r a s t (suc (suc (suc (suc (suc k))))) h = absurd (omega arith)

pub fixed_valid : (w r a : ℕ) → AreSizes w r a → (t : Tuning) → IsValidMachine 64 64 (fixed_meaning w r a t)
fixed_valid w r a s t = record {
  limits = limits_fit w r a s t;
  units = refl;
  units_fit = lit≤ tt;
  units_few = lit≤ tt;
  resources_few = lit≤ tt;
  resource = fixed_resource w r a s t;
  owner = λ u o. owner_by w r a t u o (nat_lt u a) (nat_eq u a) (nat_eq u (a + 1)) (nat_eq u (a + 2)) refl refl refl refl;
  files_few = lit≤ tt;
  file = λ f h. lit≤ tt;
  share = λ q c e. absurd (none-some c e);
  writes_few = lit≤ tt;
  reads_few = lit≤ tt;
  binding = λ o b. fixed_binding w r a t (fixed_write o) b (fixed_write-low (multiplies o) (divides o) (facts_of o).kind);
  write = fixed_class-fits w r a s t;
  advance_low = λ q k. refl;
  advance_high = λ q k. refl;
  no_advance = λ k. refl;
}
