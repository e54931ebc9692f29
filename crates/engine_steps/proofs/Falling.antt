-- An event that is written in a cycle falls in it.
use Rattle.std.proofs.Common.{◌≡◌, ℕ, ◌+◌, ◌*◌, ◌<◌, ◌≤◌, List, arith, sym, ◌∙◌, ap, refl, Bool, true, false, ◌||◌}
use Rattle.std.specs.Prelude.{Some}
use Rattle.std.proofs.Math.Nat.{mul-le-mul_right}
use Rattle.cycle_rules.specs.Row.{Input, times}
use Rattle.cycle_rules.specs.Schedule.{event, known_at}
use Rattle.cycle_rules.specs.Events.{events, rules_of}
use Rattle.cycle_rules.specs.declared.times.Times.{Times}
use Rattle.cycle_rules.proofs.Exists.{upward}
use Rattle.cycle_rules.proofs.Sees.{choose_false}
use Rattle.engine_state.specs.State.{never, recorded_in, recorded, at, IsState}
use Rattle.engine_state.proofs.State.{recorded_row}
use Rattle.engine_state.proofs.Turn.{known_is_some}
use Rattle.engine_steps.specs.Done.{Falls, IsIdle}

-- a key of a cycle comes no later than the next cycle
key_low : (g : Input) (c p n : ℕ) → p < 3 → n ≤ g.rows → at g c p n ≤ (c + 1) * events g
key_low g c p n three le = let phases : p * g.rows ≤ 2 * g.rows = mul-le-mul_right g.rows (let s : p ≤ 2 = omega arith in s) in omega (arith, phases)

falls : (g : Input) (c p n q k : ℕ) (xs : List Times) (time : ℕ) (what : List ℕ) → IsState g (at g c p n) xs → p < 3 → n ≤ g.rows → q < 3 → k < g.rows
    → recorded_in (g.row k) (times xs k) q ≡ Some (record { cycle = time; what = what }) → time ≡ c → Falls g c
falls g c p n q k xs time what s three le three_q lt is e = record {
  phase = q;
  row = k;
  in_phases = three_q;
  in_rows = lt;
  fall = record { cycle = time; what = what };
  there = upward (rules_of g) (events g) (at g c p n) ((c + 1) * events g) (event g.rows q k) (record { cycle = time; what = what }) (key_low g c p n three le)
      (sym (ap (λ v. v (event g.rows q k)) s.known) ∙ recorded_row g xs q k three_q lt ∙ is);
  then_is = e;
}

pub retire_falls : (g : Input) (c n k : ℕ) (xs : List Times) → IsState g (at g c 0 n) xs → n ≤ g.rows → k < g.rows → c < never → (times xs k).retire ≡ c → Falls g c
retire_falls g c n k xs s le lt low is = falls g c 0 n 0 k xs _ _ s (omega arith) le (omega arith) lt (known_is_some (times xs k).retire _ (λ e. omega (arith, e, is, low))) is

pub issue_falls : (g : Input) (c n k : ℕ) (xs : List Times) → IsState g (at g c 1 n) xs → n ≤ g.rows → k < g.rows → c < never → (g.row k).reserved ≡ false → (times xs k).issue ≡ c → Falls g c
issue_falls g c n k xs s le lt low free is = falls g c 1 n 1 k xs _ _ s (omega arith) le (omega arith) lt
    (choose_false (g.row k).reserved _ _ free ∙ known_is_some (times xs k).issue (times xs k).units (λ e. omega (arith, e, is, low))) is

pub dispatch_falls : (g : Input) (c n k : ℕ) (xs : List Times) → IsState g (at g c 2 n) xs → n ≤ g.rows → k < g.rows → c < never → (times xs k).dispatch ≡ c → Falls g c
dispatch_falls g c n k xs s le lt low is = falls g c 2 n 2 k xs _ _ s (omega arith) le (omega arith) lt (known_is_some (times xs k).dispatch _ (λ e. omega (arith, e, is, low))) is

-- where nothing is written in a cycle, it is idle
pub idle_cycle : (g : Input) (a b : ℕ) (xs ys : List Times) → IsState g (at g a 0 0) xs → IsState g (at g b 0 0) ys → ys ≡ xs → IsIdle g a b
idle_cycle g a b xs ys s t same =
    let first : (n : ℕ) → at g n 0 0 ≡ n * events g = λ n. omega arith in
    ap (known_at (rules_of g) (events g)) (sym (first b)) ∙ sym t.known ∙ ap (recorded g) same ∙ s.known ∙ ap (known_at (rules_of g) (events g)) (first a)

-- the state stays as it is over idle cycles
pub state_idles : (g : Input) (a b : ℕ) (xs : List Times) → IsIdle g a b → IsState g (at g a 0 0) xs → IsState g (at g b 0 0) xs
state_idles g a b xs idle s =
    let first : (n : ℕ) → at g n 0 0 ≡ n * events g = λ n. omega arith in
    record { rows = s.rows; known = s.known ∙ ap (known_at (rules_of g) (events g)) (first a) ∙ sym idle ∙ ap (known_at (rules_of g) (events g)) (sym (first b)); kept = s.kept }

-- one of three, and none of three
pub one_of : {A : Type 0} (a b d : Bool) → (a || b || d) ≡ true → (a ≡ true → A) → (b ≡ true → A) → (d ≡ true → A) → A
one_of true b d e first second third = first refl
one_of false true d e first second third = second refl
one_of false false true e first second third = third refl
one_of false false false e first second third = cc

pub none_of : (a b d : Bool) → (a || b || d) ≡ false → (a ≡ false) × (b ≡ false) × (d ≡ false)
none_of false false false e = (refl, refl, refl)
none_of true b d e = cc
none_of false true d e = cc
none_of false false true e = cc
