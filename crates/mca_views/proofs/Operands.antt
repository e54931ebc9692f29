-- The rows that wrote registers last, and when reads have their values.
use Rattle.std.proofs.Common.{suc, ◌≡◌, ℕ, ◌+◌, ◌<◌, inl, inr, List, [], ◌∷◌, ◌++◌, length, take, get_or, set, arith, refl, sym, ◌∙◌, ap, Bool, true, false, ◌&&◌, not}
use Rattle.std.specs.Prelude.{max, nat_eq, if◌then◌else◌, Option, Some, None}
use Rattle.std.proofs.lemmas.Bool.{cases_eq}
use Rattle.std.proofs.lemmas.Bool.Decides.{nat_tests}
use Rattle.std.proofs.lemmas.List.{get_or-set_same, get_or-set_other, take_more}
use Rattle.cycle_rules.specs.Below.{last_below}
use Rattle.cycle_rules.specs.Row.{Input, Table}
use Rattle.cycle_rules.specs.Issue.{producer}
use Rattle.cycle_rules.specs.WaitTimes.{value_time, read_time, reads_time}
use Rattle.cycle_rules.specs.declared.bound.Source.{Source}
use Rattle.cycle_rules.proofs.WaitsTimed.{last_older}

-- The last writers

pub none_wrote : (g : Input) (r : ℕ) → None ≡ producer g 0 r
unfolding producer last_below
none_wrote g r = refl

producer_more : (g : Input) (j r : ℕ) → producer g (j + 1) r ≡ (if nat_eq (g.row j).rd r then Some j else producer g j r)
unfolding producer last_below
producer_more g j r = let e : j + 1 ≡ suc j = omega arith in ap (λ n. last_below n (λ k. nat_eq (g.row k).rd r)) e

pub wrote : (g : Input) (j rd : ℕ) (ws : List (Option ℕ)) → rd < length ws → rd ≡ (g.row j).rd → ((r : ℕ) (d : Option ℕ) → r < 32 → get_or ws r d ≡ producer g j r)
    → (r : ℕ) (d : Option ℕ) → r < 32 → get_or (set ws rd (Some j)) r d ≡ producer g (j + 1) r
wrote g j rd ws low is before r d lt = elim (cases_eq r rd) [
  | inl here ↦ (let yes_ : nat_eq (g.row j).rd r ≡ true = (let same : (g.row j).rd ≡ r = sym (here ∙ is) in grind (arith, nat_tests, same)) in
      let chosen : producer g (j + 1) r ≡ Some j = producer_more g j r ∙ (rw yes_ refl) in
      ap (λ x. get_or (set ws rd (Some j)) x d) here ∙ get_or-set_same ws rd (Some j) d low ∙ sym chosen)
  | inr there ↦ (let no_ : nat_eq (g.row j).rd r ≡ false = (let differ : (g.row j).rd ≡ r → ⊥ = λ e. there (sym (is ∙ e)) in grind (arith, nat_tests, differ)) in
      let kept : producer g (j + 1) r ≡ producer g j r = producer_more g j r ∙ (rw no_ refl) in
      get_or-set_other ws rd r (Some j) d there ∙ before r d lt ∙ sym kept)
]

pub wrote_before : (g : Input) (j r k : ℕ) → producer g j r ≡ Some k → k < j
unfolding producer
wrote_before g j r k is = last_older j (λ i. nat_eq (g.row i).rd r) k is

-- Reads

pub read_none : (g : Input) (t : Table) (seen : ℕ → ℕ) (j : ℕ) (s : Source) → s.reg ≡ 0 → 0 ≡ read_time g t seen j s
unfolding read_time
read_none g t seen j s zero_ = let yes_ : nat_eq s.reg 0 ≡ true = grind (arith, nat_tests, zero_) in rw yes_ refl

pub read_found : (g : Input) (t : Table) (seen : ℕ → ℕ) (j : ℕ) (s : Source) (o : Option ℕ) → (s.reg ≡ 0 → ⊥) → o ≡ producer g j s.reg → value_time g t seen s.read o ≡ read_time g t seen j s
unfolding read_time
read_found g t seen j s o some is = let no_ : nat_eq s.reg 0 ≡ false = grind (arith, nat_tests, some) in rw no_ (ap (value_time g t seen s.read) is)

reads_append : (g : Input) (t : Table) (seen : ℕ → ℕ) (j : ℕ) (xs : List Source) (s : Source) → reads_time g t seen j (xs ++ s ∷ []) ≡ max (reads_time g t seen j xs) (read_time g t seen j s)
reads_append g t seen j [] s = omega arith
reads_append g t seen j (x ∷ xs) s = let rest : reads_time g t seen j (xs ++ s ∷ []) ≡ max (reads_time g t seen j xs) (read_time g t seen j s) = reads_append g t seen j xs s in omega (arith, rest)

pub reads_more : (g : Input) (t : Table) (seen : ℕ → ℕ) (j k x : ℕ) (xs : List Source) (d : Source) → k < length xs → x ≡ reads_time g t seen j (take k xs) → max x (read_time g t seen j (get_or xs k d)) ≡ reads_time g t seen j (take (k + 1) xs)
reads_more g t seen j k x xs d lt is = ap (λ m. max m (read_time g t seen j (get_or xs k d))) is ∙ sym (ap (reads_time g t seen j) (take_more xs k d lt) ∙ reads_append g t seen j (take k xs) (get_or xs k d))

-- What a row finds

pub by_reserved : (b : Bool) (i : ℕ) → i ≡ (if b && not true then i + 1 else i)
by_reserved true i = refl
by_reserved false i = refl
