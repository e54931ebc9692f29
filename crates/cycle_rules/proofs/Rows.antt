-- The rules at the event of a row, and events as numbers.
use Rattle.std.proofs.Common.{zero, suc, ◌≡◌, ℕ, ◌+◌, ◌*◌, ◌/◌, ◌%◌, ◌<◌, List, [], arith, sym, ◌∙◌, refl, Bool, true, false}
use Rattle.std.specs.Prelude.{nat_lt, nat_eq}
use Rattle.std.proofs.lemmas.Bool.Decides.{nat_tests}
use Rattle.std.proofs.lemmas.Nat.{div-mul-add, mod-mul-add, div-add-mod', div_below}
use Rattle.cycle_rules.specs.Below.{Least}
use Rattle.cycle_rules.specs.Schedule.{Known, event}
use Rattle.cycle_rules.specs.Row.{Row, Input, Table, phase}
use Rattle.cycle_rules.specs.Pick.{pick, padded}
use Rattle.cycle_rules.specs.Events.{events, in_cycle, may_fall, units_taken, rules_of}
use Rattle.cycle_rules.proofs.TableEvents.{event_in, events_of}

-- the rules at an event of a row
pub allowed_at : (g : Input) (known : Known (List ℕ)) (c p j : ℕ) → j < g.rows → (rules_of g).allowed known c (event g.rows p j) ≡ may_fall g known c p j
allowed_at g known c p j lt = rw (div-mul-add p g.rows j lt, mod-mul-add p g.rows j lt) refl

pub takes_at : (g : Input) (known : Known (List ℕ)) (c p j : ℕ) → j < g.rows → (rules_of g).takes known c (event g.rows p j) ≡ units_taken g known c p j
takes_at g known c p j lt = rw (div-mul-add p g.rows j lt, mod-mul-add p g.rows j lt) refl

pub least_along : (p q : ℕ → Bool) (x : ℕ) → ((c : ℕ) → p c ≡ q c) → Least p x → Least q x
least_along p q x same l = record { holds = sym (same x) ∙ l.holds; below = λ b lt. sym (same b) ∙ l.below b lt }

-- the phase in which a row issues
pub phase_reserved : (b : Row) → b.reserved ≡ true → phase b ≡ 2
unfolding phase
phase_reserved b is = rw is refl

pub phase_free : (b : Row) → b.reserved ≡ false → phase b ≡ 1
unfolding phase
phase_free b is = rw is refl

pub phase_some : (b : Row) → 0 < phase b
unfolding phase
phase_some b = grind arith

-- an event takes units where the row issues by it
pub takes_units : (g : Input) (known : Known (List ℕ)) (c p j : ℕ) → p ≡ phase (g.row j) → units_taken g known c p j ≡ padded (pick g (in_cycle g c known) j c)
takes_units g known c p j is = let yes : nat_eq p (phase (g.row j)) ≡ true = grind (arith, nat_tests) in rw yes refl

pub takes_none : (g : Input) (known : Known (List ℕ)) (c p j : ℕ) → (p ≡ phase (g.row j) → ⊥) → units_taken g known c p j ≡ []
takes_none g known c p j is = let none : nat_eq p (phase (g.row j)) ≡ false = grind (arith, nat_tests, is) in rw none refl

-- events as numbers
pub event_below : (g : Input) (p j : ℕ) → p < 3 → j < g.rows → event g.rows p j < events g
event_below g zero j three lt = omega arith
event_below g (suc zero) j three lt = omega arith
event_below g (suc (suc zero)) j three lt = omega arith
event_below g (suc (suc (suc p))) j three lt = absurd (omega arith)

pub event_of_row : (g : Input) (t : Table) (p j : ℕ) → p < 3 → j < g.rows → events_of g t (event g.rows p j) ≡ event_in (g.row j) (t j) p
event_of_row g t p j three lt =
    let in_range : event g.rows p j < events g = event_below g p j three lt in
    let yes : nat_lt (event g.rows p j) (events g) ≡ true = grind (arith, nat_tests) in
    rw (yes, div-mul-add p g.rows j lt, mod-mul-add p g.rows j lt) refl

-- each event is one of a row in a phase
pub record IsEvent (n e : ℕ) : Type 0 where
  pub phase : e / n < 3
  pub row : e % n < n
  pub is : event n (e / n) (e % n) ≡ e

pub event_is : (n e : ℕ) → e < 3 * n → IsEvent n e
event_is n e lt =
    let sum : e / n * n + e % n ≡ e = div-add-mod' e n in
    record { phase = div_below e n 3 (omega (arith, lt)) lt; row = omega (arith, lt); is = sum }
