-- What is kept of the uses that took units, in place of their list: from when on each unit is free, which are held, and where the search goes on.
use Rattle.std.specs.Prelude.{zero, suc, ◌≡◌, ℕ, ◌+◌, ◌-◌, ◌^◌, ◌<◌, ◌≤◌, min, List, [], ◌∷◌, Bool, true, false, not, ◌&&◌, ◌||◌, Option, Some, None, nat_lt, nat_le, nat_eq, if◌then◌else◌, ⊤}
use Rattle.std.specs.List.{list_any, list_all}
use Rattle.machine_model.specs.Meaning.{MachineMeaning}
use Rattle.machine_model.specs.declared.facts.Use.{Use}
use Rattle.cycle_rules.specs.declared.bound.Bound.{Bound}
use Rattle.cycle_rules.specs.Pick.{Taken, is_free, place_after, cyclic_from, or_else, prepend, no_unit}
use Rattle.cycle_rules.specs.Bind.{AreUses, row_of}
use Rattle.cycle_rules.specs.Held.{AllBegun, changes_at}

-- a place where a search may begin; behind the last number it begins at 0
abbrev pub turned : ℕ → ℕ → ℕ
turned size place = if nat_lt place size then place else 0

-- some number below n passes
unfoldable pub any_below : ℕ → (ℕ → Bool) → Bool
any_below zero p = false
any_below (suc n) p = any_below n p || p n

-- how it is written that no unit will be freed
abbrev pub never : ℕ
never = 2 ^ 64 - 1

-- next is the least time of the members below n, or never where there is none
pub record IsSoonest (n : ℕ) (member : ℕ → Bool) (until : ℕ → ℕ) (next : ℕ) : Type 0 where
  pub low : (u : ℕ) → u < n → member u ≡ true → next ≤ until u
  pub is : (nat_eq next never || any_below n (λ u. member u && nat_eq (until u) next)) ≡ true

-- the sooner of the time of a unit and another, where the unit is held in a cycle
abbrev pub passed : ℕ → ℕ → ℕ → ℕ
passed c until next = if nat_le until c then next else min until next

-- what is kept is right for cycle c and later: a unit that is not marked is free
pub record IsKept (n c : ℕ) (marked : ℕ → Bool) (until : ℕ → ℕ) (next : ℕ) : Type 0 where
  pub free : (u : ℕ) → u < n → marked u ≡ false → until u ≤ c
  pub soonest : IsSoonest n marked until next
  pub low : (u : ℕ) → u < n → until u < never

-- what is kept shows what uses have taken up to cycle c, as far as it matters in that cycle and later
pub record ShowsTaken (m : MachineMeaning) (c : ℕ) (until place : ℕ → ℕ) (taken : List Taken) : Type 0 where
  pub begun : AllBegun c taken
  pub free : (u b : ℕ) → u < m.unit_count → c ≤ b → is_free taken b u ≡ nat_le (until u) b
  pub changes : (b : ℕ) → c < b → list_any (changes_at m b) taken ≡ any_below m.unit_count (λ u. nat_eq (until u) b)
  pub places : (r : ℕ) → r < m.resource_count → place r ≡ place_after r taken

-- what a search shows of them in one cycle: the units that they hold, and where it goes on for each resource
pub record ShowsHeld (m : MachineMeaning) (c : ℕ) (held : ℕ → Bool) (place : ℕ → ℕ) (taken : List Taken) : Type 0 where
  pub units : (u : ℕ) → u < m.unit_count → held u ≡ not (is_free taken c u)
  pub places : (r : ℕ) → r < m.resource_count → place r ≡ place_after r taken

-- the uses name resources of the machine
abbrev pub knows : MachineMeaning → List Use → Bool
knows m uses = list_all (λ w. nat_lt w.resource m.resource_count) uses

-- a use that took a unit
abbrev pub use_at : ℕ → ℕ → ℕ → ℕ → Taken
use_at c r hold u = record { resource = r; hold = hold; unit = u; from = c }

-- the units that uses find by what a search shows
unfoldable pub found_units : MachineMeaning → (ℕ → Bool) → (ℕ → ℕ) → List Use → Option (List ℕ)
found_units m held place [] = Some []
found_units m held place (w ∷ rest) =
    if nat_eq w.hold 0
    then prepend (Some no_unit) (λ _. found_units m held place rest)
    else prepend (cyclic_from m.unit_count (place w.resource) (λ u. m.units w.resource u && not (held u)))
    (λ u. found_units m (λ v. nat_eq v u || held v) (λ r. if nat_eq r w.resource then u + 1 else place r) rest)

-- the least time above c is the next change
pub record IsNextChange (m : MachineMeaning) (c : ℕ) (taken : List Taken) (b : ℕ) : Type 0 where
  pub later : c < b
  pub there : list_any (changes_at m b) taken ≡ true
  pub none : (d : ℕ) → c < d → d < b → list_any (changes_at m d) taken ≡ false

-- the answer of which change comes next
abbrev pub AnswersChange : MachineMeaning → ℕ → List Taken → Option ℕ → Type 0
AnswersChange m c taken None = (d : ℕ) → c < d → list_any (changes_at m d) taken ≡ false
AnswersChange m c taken (Some b) = IsNextChange m c taken b

-- the same by a number, which is `never` where no change comes
pub record AnswersTime (m : MachineMeaning) (c : ℕ) (taken : List Taken) (b : ℕ) : Type 0 where
  pub none : b ≡ never → (d : ℕ) → c < d → list_any (changes_at m d) taken ≡ false
  pub some : (b ≡ never → ⊥) → IsNextChange m c taken b

-- a cycle comes before the next change
abbrev pub ComesBefore : Option ℕ → ℕ → Type 0
ComesBefore None b = ⊤
ComesBefore (Some d) b = b < d

-- an instruction has uses that the machine can meet
pub record HasUses (m : MachineMeaning) (b : Bound) : Type 0 where
  pub count : b.use_count ≤ 8
  pub uses : AreUses m (row_of b).uses

-- the unit that was chosen last for a resource
abbrev pub last_taken : ℕ → List Taken → Option ℕ
last_taken r [] = None
last_taken r (h ∷ later) = or_else (last_taken r later) (if nat_eq h.resource r then Some h.unit else None)
