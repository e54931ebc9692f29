-- The numbers of a run as a whole, and reciprocal throughputs: the cycles that instructions take at least, each time, where they are repeated for ever.
use Rattle.std.specs.Prelude.{zero, suc, ◌≡◌, ℕ, ◌*◌, ◌<◌, ◌≤◌, ◌⊎◌, List, [], ◌∷◌, Bool, nat_lt, nat_eq, if◌then◌else◌}
use Rattle.std.specs.List.{list_any, sum_by}
use Rattle.mca_fixed.specs.declared.decimals.Frac.{Frac}
use Rattle.machine_model.specs.Meaning.{MachineMeaning}
use Rattle.machine_model.specs.Uses.{units_of}
use Rattle.machine_model.specs.declared.facts.Use.{Use}
use Rattle.cycle_rules.specs.Below.{sum_below}
use Rattle.cycle_rules.specs.Bind.{row_of}
use Rattle.cycle_rules.specs.Row.{Input}
use Rattle.cycle_rules.specs.declared.bound.Bound.{Bound}

-- the micro-ops of all rows, as the table has them: more than the reorder buffer holds are not cut off
unfoldable pub total_uops : Input → ℕ
total_uops g = sum_below g.rows (λ j. (g.row j).uops)

-- Fractions

abbrev pub over : ℕ → ℕ → Frac
over num den = record { num = num; den = den }

abbrev pub is_less : Frac → Frac → Bool
is_less a b = nat_lt (a.num * b.den) (b.num * a.den)

abbrev pub greater : Frac → Frac → Frac
greater a b = if is_less a b then b else a

-- the greatest of a fraction and of those of the numbers below n; of equal ones the first
unfoldable pub greatest : Frac → ℕ → (ℕ → Frac) → Frac
greatest first zero f = first
greatest first (suc n) f = greater (greatest first n f) (f n)

-- no denominator is 0
pub record AreFractions (first : Frac) (n : ℕ) (f : ℕ → Frac) : Type 0 where
  pub start : 1 ≤ first.den
  pub each : (k : ℕ) → k < n → 1 ≤ (f k).den

-- it is one of them
abbrev pub IsOneOf : Frac → ℕ → (ℕ → Frac) → Frac → Type 0
IsOneOf first n f g = (g ≡ first) ⊎ ((k : ℕ) × (k < n) × (g ≡ f k))

-- Reciprocal throughputs

-- for how many cycles uses hold units of a resource
abbrev pub uses_hold : ℕ → List Use → ℕ
uses_hold r uses = sum_by (λ w. if nat_eq w.resource r then w.hold else 0) uses

-- and those of instructions
abbrev pub body_holds : ℕ → List Bound → ℕ
body_holds r body = sum_by (λ b. uses_hold r (row_of b).uses) body

abbrev pub body_uops : List Bound → ℕ
body_uops body = sum_by (λ b. b.uops) body

-- the greatest of a fraction and, for each resource, of the holds of instructions over its units
abbrev pub greatest_load : MachineMeaning → Frac → List Bound → Frac
greatest_load m first body = greatest first m.resource_count (λ r. over (body_holds r body) (units_of m r))

-- of a body: its micro-ops over the dispatch width count too
unfoldable pub block_throughput : MachineMeaning → List Bound → Frac
block_throughput m body = greatest_load m (over (body_uops body) m.limits.width) body

-- an instruction holds a unit
abbrev pub holds_unit : Bound → Bool
holds_unit b = list_any (λ w. nat_lt 0 w.hold) (row_of b).uses

-- of an instruction: of its holds alone, and of its micro-ops where it holds no unit
unfoldable pub throughput : MachineMeaning → Bound → Frac
throughput m b = if holds_unit b then greatest_load m (over 0 1) (b ∷ []) else over b.uops m.limits.width
