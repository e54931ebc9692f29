-- The parts go on to a later cycle before which nothing falls any more: they keep the same rows.
use Rattle.std.proofs.Common.{zero, suc, ◌≡◌, ℕ, ◌+◌, ◌-◌, ◌*◌, ◌<◌, ◌≤◌, inl, inr, List, arith, true, false, sym, ◌∙◌, ap, subst, refl}
use Rattle.std.specs.Prelude.{nat_lt, nat_le, nat_eq, Some, None}
use Rattle.std.proofs.lemmas.Bool.Decides.{nat_tests}
use Rattle.std.proofs.lemmas.Bool.{cases_eq, cases_lt}
use Rattle.std.proofs.Math.Nat.{mul-le-mul_right}
use Rattle.cycle_rules.specs.Row.{Input, times, phase}
use Rattle.cycle_rules.specs.Schedule.{Fall, known_at, event}
use Rattle.cycle_rules.specs.Events.{events, rules_of, known_of}
use Rattle.cycle_rules.specs.declared.times.Times.{Times}
use Rattle.cycle_rules.proofs.Exists.{came}
use Rattle.cycle_rules.proofs.Sees.{known_in}
use Rattle.issue_queues.proofs.Flight.{rows-same}
use Rattle.mem_queues.specs.Flight.{row_at}
use Rattle.mem_queues.proofs.Flight.{rows-same as access-same}
use Rattle.engine_state.specs.State.{never, now, recorded, or_ahead, at, taken_now, IsState}
use Rattle.engine_state.proofs.Reading.{now_issue, issued_by, waits_now}
use Rattle.engine_state.proofs.State.{state_along}
use Rattle.engine_state.proofs.Taken.{taken_cycle, phase_low}
use Rattle.event_rules.proofs.Reached.{Early}
use Rattle.event_rules.proofs.TakenStill.{taken_still}
use Rattle.engine_steps.specs.Flight.{none_ready, waiting, accesses}

-- a key of a cycle at which a table is as recorded
pub record InCycle (g : Input) (c : ℕ) (xs : List Times) : Type 0 where
  pub phase_of : ℕ
  pub row_of : ℕ
  pub low : phase_of < 3
  pub within : row_of ≤ g.rows
  pub state : IsState g (at g c phase_of row_of) xs

pub begins : (g : Input) (c : ℕ) (xs : List Times) → IsState g (at g c 0 0) xs → InCycle g c xs
begins g c xs s = record { phase_of = 0; row_of = 0; low = omega arith; within = omega arith; state = s }

-- the begin of a cycle is the end of the one before
pub ends : (g : Input) (n : ℕ) (xs : List Times) → IsState g (at g n 0 0) xs → InCycle g (n - 1) xs
ends g zero xs s = begins g 0 xs s
ends g (suc n) xs s =
    let last : suc n - 1 ≡ n = omega arith in
    subst (λ c. InCycle g c xs) (sym last) (record { phase_of = 2; row_of = g.rows; low = omega arith; within = omega arith; state = state_along g (at g (suc n) 0 0) (at g n 2 g.rows) xs (omega arith) s })

pub waiting_moves : (g : Input) (b c front head : ℕ) (xs : List Times) → InCycle g b xs → InCycle g c xs → head ≤ g.rows → waiting g b xs front head ≡ waiting g c xs front head
waiting_moves g b c front head xs s t within = rows-same g (now g b xs) (now g c xs) none_ready none_ready b c front (head - front)
    (λ i le low. let lt : i < g.rows = omega (arith, low, le, within) in
    waits_now g c t.phase_of t.row_of xs i t.state t.low t.within lt ∙ sym (waits_now g b s.phase_of s.row_of xs i s.state s.low s.within lt)) (λ i le low. refl)

row_moves : (g : Input) (b c i : ℕ) (xs : List Times) → InCycle g b xs → InCycle g c xs → i < g.rows → row_at g (now g b xs) b i ≡ row_at g (now g c xs) c i
row_moves g b c i xs s t lt =
    let here : (now g b xs i).issue ≡ or_ahead b (times xs i).issue = now_issue g b xs i lt (s.state.kept i lt) in
    let next : (now g c xs i).issue ≡ or_ahead c (times xs i).issue = now_issue g c xs i lt (s.state.kept i lt) in
    elim (cases_eq (times xs i).issue never) [
      | inl none ↦ (let test : nat_eq (times xs i).issue never ≡ true = grind (arith, nat_tests, none) in
          let late : nat_le (now g b xs i).issue b ≡ false = rw (here, test) (grind (arith, nat_tests)) in
          let later : nat_le (now g c xs i).issue c ≡ false = rw (next, test) (grind (arith, nat_tests)) in
          rw (late, later) refl)
      | inr ne ↦ (let test : nat_eq (times xs i).issue never ≡ false = grind (arith, nat_tests, ne) in
          let past : (times xs i).issue ≤ b = issued_by g b s.phase_of s.row_of xs i s.state s.low s.within lt ne in
          let after : (times xs i).issue ≤ c = issued_by g c t.phase_of t.row_of xs i t.state t.low t.within lt ne in
          let low : nat_le (times xs i).issue b ≡ true = grind (arith, nat_tests, past) in
          let lower : nat_le (times xs i).issue c ≡ true = grind (arith, nat_tests, after) in
          rw (here, next, test, low, lower) refl)
    ]

pub accesses_move : (g : Input) (b c front head : ℕ) (xs : List Times) → InCycle g b xs → InCycle g c xs → head ≤ g.rows → accesses g b xs front head ≡ accesses g c xs front head
accesses_move g b c front head xs s t within = access-same g (now g b xs) (now g c xs) b c front (head - front) (λ i le low. row_moves g b c i xs s t (omega (arith, low, le, within)))

-- what is known at the begin of a cycle fell before it
pub fell_early : (g : Input) (n q k : ℕ) (f : Fall (List ℕ)) → q < 3 → k < g.rows → known_at (rules_of g) (events g) (at g n 0 0) (event g.rows q k) ≡ Some f → f.cycle < n
fell_early g n q k f three lt is =
    let before : at g f.cycle q k < at g n 0 0 = (came (rules_of g) (events g) (at g n 0 0) (event g.rows q k) f (omega (arith, lt)) is).before in
    let not_late : n ≤ f.cycle → ⊥ = λ late. (let more : n * events g ≤ f.cycle * events g = mul-le-mul_right (events g) late in omega (arith, more, before)) in
    grind (arith, not_late)

early : (g : Input) (n k : ℕ) (xs : List Times) → IsState g (at g n 0 0) xs → Early n (known_of g (recorded g xs) (phase (g.row k)) k)
early g n k xs s f is = elim (cases_lt k g.rows) [
  | inl lt ↦ fell_early g n (phase (g.row k)) k f (phase_low (g.row k)) lt (sym (ap (λ v. v (event g.rows (phase (g.row k)) k)) s.known) ∙ sym (known_in g (recorded g xs) (phase (g.row k)) k lt) ∙ is)
  | inr past ↦ (let out : nat_lt k g.rows ≡ false = grind (arith, nat_tests, past) in absurd (nothing (rw out at is)))
]
  where
    nothing : {A : Type 0} {x : A} → None ≡ Some x → ⊥
    nothing e = cc

taken_first : (g : Input) (n : ℕ) (xs : List Times) → IsState g (at g n 0 0) xs → taken_now g n xs ≡ taken_now g (n - 1) xs
taken_first g zero xs s = refl
taken_first g (suc n) xs s =
    let last : suc n - 1 ≡ n = omega arith in
    subst (λ b. taken_now g (suc n) xs ≡ taken_now g b xs) (sym last) (let next : n + 1 ≡ suc n = omega arith in subst (λ b. taken_now g b xs ≡ taken_now g n xs) next (taken_cycle g n xs (state_along g (at g (suc n) 0 0) (at g (n + 1) 0 0) xs (omega arith) s)))

pub taken_moves : (g : Input) (n c : ℕ) (xs : List Times) → n ≤ c → IsState g (at g n 0 0) xs → taken_now g c xs ≡ taken_now g (n - 1) xs
taken_moves g n c xs le s = sym (taken_still g (recorded g xs) n c le (λ k. early g n k xs s)) ∙ taken_first g n xs s
