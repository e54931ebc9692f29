-- What is kept of the units while the rows of a run go by in issue order.
use Rattle.std.specs.Prelude.{zero, suc, ◌≡◌, ℕ, ◌+◌, ◌<◌, ◌≤◌, List, [], ◌∷◌, ◌++◌, length, slice_index, slice_index_or, slice_set, Bool, true, false, ◌&&◌, Option, Some, None, nat_eq}
use Rattle.std.specs.List.{list_any}
use Rattle.cycle_rules.specs.Row.{Input, Table}
use Rattle.cycle_rules.specs.Pick.{Taken, holds_at}
use Rattle.cycle_rules.specs.Held.{taken_of}
use Rattle.dep_graph.specs.declared.holders.Taker.{Taker}

-- the uses by which the first q rows of an order took units
abbrev pub taken_along : Input → Table → List ℕ → ℕ → List Taken
taken_along g t order zero = []
taken_along g t order (suc q) = taken_along g t order q ++ taken_of g t (slice_index order q)

-- a row holds a unit in a cycle
abbrev pub holds_one : Input → Table → ℕ → ℕ → ℕ → Bool
holds_one g t u c k = list_any (λ h. nat_eq h.unit u && holds_at c h) (taken_of g t k)

-- what is kept of a unit
abbrev pub taker_at : List Taker → ℕ → Taker
taker_at last u = slice_index_or last u (record { place = 0; until = 0 })

-- of the first q rows those that hold a unit in cycle a or later are the ones that are kept, with when they give it back
pub record AreHolders (g : Input) (t : Table) (order : List ℕ) (q a : ℕ) (last : List Taker) : Type 0 where
  pub size : length last ≡ g.machine.unit_count
  pub latest : (i u b : ℕ) → i < q → u < g.machine.unit_count → a ≤ b → holds_one g t u b (slice_index order i) ≡ true → ((taker_at last u).place ≡ i) × (b < (taker_at last u).until)
  pub real : (u b : ℕ) → u < g.machine.unit_count → a ≤ b → b < (taker_at last u).until → ((taker_at last u).place < q) × (holds_one g t u b (slice_index order (taker_at last u).place) ≡ true)

-- a row notes the units that it takes
abbrev pub noted : ℕ → List Taken → List Taker → List Taker
noted place [] last = last
noted place (h ∷ hs) last = noted place hs (slice_set last h.unit (record { place = place; until = h.from + h.hold }))

-- of the numbers below n that pass the one with the greatest place
pub record IsGreatest (n : ℕ) (test : ℕ → Bool) (place : ℕ → ℕ) (p : ℕ) : Type 0 where
  pub number : ℕ
  pub within : number < n
  pub passes : test number ≡ true
  pub at : place number ≡ p
  pub most : (u : ℕ) → u < n → test u ≡ true → place u ≤ p

-- the greatest place of those that pass, or nothing where none passes
abbrev pub IsLast : ℕ → (ℕ → Bool) → (ℕ → ℕ) → Option ℕ → Type 0
IsLast n test place None = (u : ℕ) → u < n → test u ≡ false
IsLast n test place (Some p) = IsGreatest n test place p

-- the last of the first rows that took units holds one of some units in a cycle; p is its place
pub record IsTop (has : ℕ → Bool) (taken c : ℕ) (last : List Taker) (p : ℕ) : Type 0 where
  pub unit : ℕ
  pub within : unit < length last
  pub member : has unit ≡ true
  pub held : c < (taker_at last unit).until
  pub at : (taker_at last unit).place ≡ p
  pub top : p + 1 ≡ taken
