-- Greatest times, and the first rows that reach them.
use Rattle.std.proofs.Common.{zero, suc, ◌≡◌, ℕ, ◌+◌, ◌<◌, ◌≤◌, inl, inr, arith, refl, sym, ◌∙◌, ap, subst, Bool, true, false, ◌||◌}
use Rattle.std.specs.Prelude.{nat_lt, max, if◌then◌else◌}
use Rattle.std.proofs.lemmas.Bool.{cases_lt}
use Rattle.std.proofs.lemmas.Bool.Decides.{nat_tests}
use Rattle.rv_isa.specs.declared.facts.Kind.{Kind}
use Rattle.rv_isa.specs.declared.facts.Kind.TheVariants.{Plain, Load, Store, Barrier}
use Rattle.cycle_rules.specs.CycleBound.{max_below}
use Rattle.cycle_rules.specs.Row.{Input, Table, is_store, is_barrier}
use Rattle.cycle_rules.specs.Issue.{is_fenced}
use Rattle.dep_graph.specs.PassTimes.{let_go, pass_time}
use Rattle.dep_graph.specs.Peaks.{IsFirstAt, IsPeak, AreFences}
use Rattle.dep_graph.specs.declared.peak.Peak.{Peak}
use Rattle.dep_graph.specs.declared.memory.Fences.{Fences}

pub below_max : (n k : ℕ) (f : ℕ → ℕ) → k < n → f k ≤ max_below n f
unfolding max_below
below_max zero k f lt = absurd (omega (arith, lt))
below_max (suc n) k f lt = elim (cases_lt k n) [ inl low ↦ omega (arith, below_max n k f low) | inr last ↦ (let e : k ≡ n = omega (arith, last, lt) in rw e (omega arith)) ]

max_same : (n : ℕ) (f h : ℕ → ℕ) → ((k : ℕ) → k < n → f k ≡ h k) → max_below n f ≡ max_below n h
unfolding max_below
max_same zero f h s = refl
max_same (suc n) f h s = let rest : max_below n f ≡ max_below n h = max_same n f h (λ k lt. s k (omega (arith, lt))) in omega (arith, rest, s n (omega arith))

max_more : (n : ℕ) (f : ℕ → ℕ) → max_below (n + 1) f ≡ max (max_below n f) (f n)
unfolding max_below
max_more n f = let e : suc n ≡ n + 1 = omega arith in ap (λ m. max_below m f) (sym e)

max_zero : (n : ℕ) → max_below n (λ k. 0) ≡ 0
unfolding max_below
max_zero zero = refl
max_zero (suc n) = omega (arith, max_zero n)

pub peak_none : (f : ℕ → ℕ) → IsPeak f 0 (record { time = 0; row = 0 })
unfolding max_below
peak_none f = record { time_is = refl; row_is = λ some. absurd (omega (arith, some)) }

pub peak_higher : (f : ℕ → ℕ) (n time : ℕ) (old : Peak) → f n ≡ time → IsPeak f n old → old.time < time → IsPeak f (n + 1) (record { time = time; row = n })
peak_higher f n time old at h lt = record {
  time_is = omega (arith, max_more n f, at, h.time_is, lt);
  row_is = λ some. record { within = omega arith; at = at; first = λ k low. omega (arith, below_max n k f low, h.time_is, lt) };
}

pub peak_lower : (f : ℕ → ℕ) (n time : ℕ) (old : Peak) → f n ≡ time → IsPeak f n old → time ≤ old.time → IsPeak f (n + 1) old
peak_lower f n time old at h le = record {
  time_is = omega (arith, max_more n f, at, h.time_is, le);
  row_is = λ some. (let r : IsFirstAt f n old.time old.row = h.row_is some in record { within = omega (arith, r.within); at = r.at; first = r.first });
}

peak_same : (f h : ℕ → ℕ) (n : ℕ) (p : Peak) → ((k : ℕ) → k < n → f k ≡ h k) → IsPeak f n p → IsPeak h n p
peak_same f h n p s is = record {
  time_is = is.time_is ∙ max_same n f h s;
  row_is = λ some. (let r : IsFirstAt f n p.time p.row = is.row_is some in
      record { within = r.within; at = sym (s p.row r.within) ∙ r.at; first = λ k lt. omega (arith, s k (omega (arith, lt, r.within)), r.first k lt) });
}

-- The order of memory

store_free : (b : Kind) (na f h : Bool) (i c : ℕ) → let_go Store b na f i c ≡ let_go Store b na h i c
store_free Plain na f h i c = refl
store_free Load na f h i c = refl
store_free Store na f h i c = refl
store_free Barrier na f h i c = refl

barrier_free : (b : Kind) (na f h : Bool) (i c : ℕ) → let_go Barrier b na f i c ≡ let_go Barrier b na h i c
barrier_free Plain na f h i c = refl
barrier_free Load na f h i c = refl
barrier_free Store na f h i c = refl
barrier_free Barrier na f h i c = refl

pass_of : (g : Input) (t : Table) (j : ℕ) (kind : Kind) (p : Peak) → (g.row j).kind ≡ kind → IsPeak (λ k. let_go kind (g.row k).kind g.machine.limits.no_alias (is_fenced g k j) (t k).issue (t k).complete) j p → IsPeak (pass_time g t j) j p
pass_of g t j kind p is h = subst (λ a. IsPeak (λ k. let_go a (g.row k).kind g.machine.limits.no_alias (is_fenced g k j) (t k).issue (t k).complete) j p) (sym is) h

pub plain_peak : (g : Input) (t : Table) (j : ℕ) (p : Peak) → (g.row j).kind ≡ Plain → p.time ≡ 0 → IsPeak (pass_time g t j) j p
plain_peak g t j p is none = pass_of g t j Plain p is (record { time_is = none ∙ sym (max_zero j); row_is = λ some. absurd (omega (arith, some, none)) })

pub load_peak : (g : Input) (t : Table) (j : ℕ) (fences : Fences) → (g.row j).kind ≡ Load → AreFences g t j fences → IsPeak (pass_time g t j) j fences.load
load_peak g t j fences is h = pass_of g t j Load fences.load is h.load

pub store_peak : (g : Input) (t : Table) (j : ℕ) (fences : Fences) → (g.row j).kind ≡ Store → AreFences g t j fences → IsPeak (pass_time g t j) j fences.store
store_peak g t j fences is h = pass_of g t j Store fences.store is (peak_same _ _ j fences.store (λ k lt. store_free (g.row k).kind g.machine.limits.no_alias true (is_fenced g k j) (t k).issue (t k).complete) h.store)

pub barrier_peak : (g : Input) (t : Table) (j : ℕ) (fences : Fences) → (g.row j).kind ≡ Barrier → AreFences g t j fences → IsPeak (pass_time g t j) j fences.barrier
barrier_peak g t j fences is h = pass_of g t j Barrier fences.barrier is (peak_same _ _ j fences.barrier (λ k lt. barrier_free (g.row k).kind g.machine.limits.no_alias true (is_fenced g k j) (t k).issue (t k).complete) h.barrier)

pub no_fence : (is_store Plain || is_barrier Plain) ≡ false
unfolding is_store is_barrier
no_fence = refl

-- behind a store or a barrier every older row is fenced off
fenced_more : (g : Input) (k n : ℕ) → k < n → (is_store (g.row n).kind || is_barrier (g.row n).kind) ≡ true → is_fenced g k (n + 1) ≡ true
unfolding is_fenced
fenced_more g k n lt is =
    let e : suc n ≡ n + 1 = omega arith in
    let low : nat_lt k n ≡ true = grind (arith, nat_tests, lt) in
    ap (is_fenced g k) (sym e) ∙ (rw (low, is) refl)

fenced_still : (g : Input) (k n : ℕ) → k < n → (is_store (g.row n).kind || is_barrier (g.row n).kind) ≡ false → is_fenced g k (n + 1) ≡ is_fenced g k n
unfolding is_fenced
fenced_still g k n lt is =
    let e : suc n ≡ n + 1 = omega arith in
    let low : nat_lt k n ≡ true = grind (arith, nat_tests, lt) in
    ap (is_fenced g k) (sym e) ∙ (rw (low, is) refl)

fenced_self : (g : Input) (n : ℕ) → is_fenced g n (n + 1) ≡ false
unfolding is_fenced
fenced_self g n =
    let e : suc n ≡ n + 1 = omega arith in
    let low : nat_lt n n ≡ false = grind (arith, nat_tests) in
    ap (is_fenced g n) (sym e) ∙ (rw low refl)

fence_self : (b : Kind) (na f h : Bool) (i c : ℕ) → (is_store b || is_barrier b) ≡ true → let_go Load b na f i c ≡ let_go Load b na h i c
unfolding is_store is_barrier
fence_self Plain na f h i c is = cc
fence_self Load na f h i c is = cc
fence_self Store na f h i c is = refl
fence_self Barrier na f h i c is = refl

free_self : (b : Kind) (na : Bool) (i c : ℕ) → (is_store b || is_barrier b) ≡ false → let_go Load b na false i c ≡ 0
unfolding is_store is_barrier
free_self Plain na i c is = refl
free_self Load na i c is = refl
free_self Store na i c is = cc
free_self Barrier na i c is = cc

load_fence : (g : Input) (t : Table) (n : ℕ) (p : Peak) → (is_store (g.row n).kind || is_barrier (g.row n).kind) ≡ true
    → IsPeak (λ k. let_go Load (g.row k).kind g.machine.limits.no_alias true (t k).issue (t k).complete) (n + 1) p
    → IsPeak (λ k. let_go Load (g.row k).kind g.machine.limits.no_alias (is_fenced g k (n + 1)) (t k).issue (t k).complete) (n + 1) p
load_fence g t n p is h = peak_same _ _ (n + 1) p (λ k lt. elim (cases_lt k n) [
  | inl low ↦ ap (λ f. let_go Load (g.row k).kind g.machine.limits.no_alias f (t k).issue (t k).complete) (sym (fenced_more g k n low is))
  | inr last ↦ (let e : k ≡ n = omega (arith, last, lt) in fence_self (g.row k).kind g.machine.limits.no_alias true (is_fenced g k (n + 1)) (t k).issue (t k).complete (subst (λ m. (is_store (g.row m).kind || is_barrier (g.row m).kind) ≡ true) (sym e) is))
]) h

load_free : (g : Input) (t : Table) (n : ℕ) (p : Peak) → (is_store (g.row n).kind || is_barrier (g.row n).kind) ≡ false
    → IsPeak (λ k. let_go Load (g.row k).kind g.machine.limits.no_alias (is_fenced g k n) (t k).issue (t k).complete) n p
    → IsPeak (λ k. let_go Load (g.row k).kind g.machine.limits.no_alias (is_fenced g k (n + 1)) (t k).issue (t k).complete) (n + 1) p
load_free g t n p is h =
    let f : ℕ → ℕ = λ k. let_go Load (g.row k).kind g.machine.limits.no_alias (is_fenced g k (n + 1)) (t k).issue (t k).complete in
    let before : IsPeak f n p = peak_same _ f n p (λ k lt. ap (λ b. let_go Load (g.row k).kind g.machine.limits.no_alias b (t k).issue (t k).complete) (sym (fenced_still g k n lt is))) h in
    let none : f n ≡ 0 = ap (λ b. let_go Load (g.row n).kind g.machine.limits.no_alias b (t n).issue (t n).complete) (fenced_self g n) ∙ free_self (g.row n).kind g.machine.limits.no_alias (t n).issue (t n).complete is in
    peak_lower f n 0 p none before (omega arith)

pub load_later : (g : Input) (t : Table) (n : ℕ) (b : Bool) (fenced load : Peak) → (is_store (g.row n).kind || is_barrier (g.row n).kind) ≡ b
    → IsPeak (λ k. let_go Load (g.row k).kind g.machine.limits.no_alias true (t k).issue (t k).complete) (n + 1) fenced
    → IsPeak (λ k. let_go Load (g.row k).kind g.machine.limits.no_alias (is_fenced g k n) (t k).issue (t k).complete) n load
    → IsPeak (λ k. let_go Load (g.row k).kind g.machine.limits.no_alias (is_fenced g k (n + 1)) (t k).issue (t k).complete) (n + 1) (if b then fenced else load)
load_later g t n true fenced load is h old = load_fence g t n fenced is h
load_later g t n false fenced load is h old = load_free g t n load is old
