-- How the conditions of an engine read what is recorded.
use Rattle.std.proofs.Common.{suc, ◌≡◌, ℕ, ◌+◌, ◌*◌, ◌<◌, ◌≤◌, inl, inr, List, [], arith, sym, ◌∙◌, ap, refl, Bool, true, false}
use Rattle.std.specs.Prelude.{nat_lt, nat_eq, if◌then◌else◌, Some}
use Rattle.std.proofs.lemmas.Bool.Decides.{nat_tests}
use Rattle.std.proofs.lemmas.Bool.{cases_Bool, cases_eq}
use Rattle.std.proofs.Math.Nat.{mul-le-mul_right}
use Rattle.cycle_rules.specs.Schedule.{Fall, event, known_at}
use Rattle.cycle_rules.specs.Row.{Input, times}
use Rattle.cycle_rules.specs.Dispatch.{is_held}
use Rattle.cycle_rules.specs.Events.{events, cycle_or, known_of, rules_of}
use Rattle.engine_state.specs.State.{never, if_known, recorded_in, recorded, now, or_ahead, at, IsWritten, IsState}
use Rattle.cycle_rules.specs.declared.times.Times.{Times}
use Rattle.cycle_rules.proofs.Exists.{came}
use Rattle.cycle_rules.proofs.Rows.{phase_reserved, phase_free}
use Rattle.engine_state.proofs.State.{recorded_row}
use Rattle.cycle_rules.proofs.Sees.{choose_false, known_in}
use Rattle.engine_state.proofs.Turn.{known_is_some}

-- what is recorded fell before the key
pub fell_before : (g : Input) (n : ℕ) (xs : List Times) (q k : ℕ) (f : Fall (List ℕ)) → IsState g n xs → q < 3 → k < g.rows → recorded_in (g.row k) (times xs k) q ≡ Some f → at g f.cycle q k < n
fell_before g n xs q k f h three lt is =
    let known : known_at (rules_of g) (events g) n (event g.rows q k) ≡ Some f = sym (ap (λ v. v (event g.rows q k)) h.known) ∙ recorded_row g xs q k three lt ∙ is in
    (came (rules_of g) (events g) n (event g.rows q k) f (omega (arith, lt)) known).before

-- so it fell in that cycle or earlier
pub fell_by : (g : Input) (c p j : ℕ) (xs : List Times) (q k : ℕ) (f : Fall (List ℕ)) → IsState g (at g c p j) xs → p < 3 → j ≤ g.rows → q < 3 → k < g.rows → recorded_in (g.row k) (times xs k) q ≡ Some f → f.cycle ≤ c
fell_by g c p j xs q k f h three le three_q lt is =
    let before : at g f.cycle q k < at g c p j = fell_before g (at g c p j) xs q k f h three_q lt is in
    let inside : event g.rows p j ≤ events g = (let rows : p * g.rows ≤ 2 * g.rows = mul-le-mul_right g.rows (let s : p ≤ 2 = omega arith in s) in omega (arith, rows)) in
    let not_late : c < f.cycle → ⊥ = λ late. (let more : suc c * events g ≤ f.cycle * events g = mul-le-mul_right (events g) (let s : suc c ≤ f.cycle = omega arith in s) in omega (arith, more)) in
    grind (arith, not_late)

pub retired_by : (g : Input) (c p j : ℕ) (xs : List Times) (k : ℕ) → IsState g (at g c p j) xs → p < 3 → j ≤ g.rows → k < g.rows → ((times xs k).retire ≡ never → ⊥) → (times xs k).retire ≤ c
retired_by g c p j xs k h three le lt ne = fell_by g c p j xs 0 k (record { cycle = (times xs k).retire; what = [] }) h three le (omega arith) lt (known_is_some (times xs k).retire [] ne)

pub dispatched_by : (g : Input) (c p j : ℕ) (xs : List Times) (k : ℕ) → IsState g (at g c p j) xs → p < 3 → j ≤ g.rows → k < g.rows → ((times xs k).dispatch ≡ never → ⊥) → (times xs k).dispatch ≤ c
dispatched_by g c p j xs k h three le lt ne = fell_by g c p j xs 2 k (record { cycle = (times xs k).dispatch; what = if (g.row k).reserved then (times xs k).units else [] }) h three le (omega arith) lt (known_is_some (times xs k).dispatch _ ne)

issued_case : (g : Input) (c p j : ℕ) (xs : List Times) (k : ℕ) → IsState g (at g c p j) xs → p < 3 → j ≤ g.rows → k < g.rows → ((times xs k).issue ≡ never → ⊥) → (b : Bool) → (g.row k).reserved ≡ b → (times xs k).issue ≤ c
issued_case g c p j xs k h three le lt ne true is =
    let same : (times xs k).issue ≡ (times xs k).dispatch = (h.kept k lt).together is in
    omega (arith, same, dispatched_by g c p j xs k h three le lt (λ n. ne (same ∙ n)))
issued_case g c p j xs k h three le lt ne false is = fell_by g c p j xs 1 k (record { cycle = (times xs k).issue; what = (times xs k).units }) h three le (omega arith) lt
    (choose_false (g.row k).reserved _ _ is ∙ known_is_some (times xs k).issue (times xs k).units ne)

pub issued_by : (g : Input) (c p j : ℕ) (xs : List Times) (k : ℕ) → IsState g (at g c p j) xs → p < 3 → j ≤ g.rows → k < g.rows → ((times xs k).issue ≡ never → ⊥) → (times xs k).issue ≤ c
issued_by g c p j xs k h three le lt ne = issued_case g c p j xs k h three le lt ne (g.row k).reserved refl

-- the times of the table that a condition reads

cycle_of_known : (c time : ℕ) (what : List ℕ) → cycle_or (c + 1) (if_known time what) ≡ or_ahead c time
cycle_of_known c time what = elim (cases_Bool (nat_eq time never)) [ inl is ↦ rw is refl | inr no_time ↦ rw no_time refl ]

pub now_retire : (g : Input) (c : ℕ) (xs : List Times) (k : ℕ) → k < g.rows → (now g c xs k).retire ≡ or_ahead c (times xs k).retire
now_retire g c xs k lt = ap (cycle_or (c + 1)) (known_in g (recorded g xs) 0 k lt ∙ recorded_row g xs 0 k (omega arith) lt) ∙ cycle_of_known c (times xs k).retire []

pub now_dispatch : (g : Input) (c : ℕ) (xs : List Times) (k : ℕ) → k < g.rows → (now g c xs k).dispatch ≡ or_ahead c (times xs k).dispatch
now_dispatch g c xs k lt = ap (cycle_or (c + 1)) (known_in g (recorded g xs) 2 k lt ∙ recorded_row g xs 2 k (omega arith) lt) ∙ cycle_of_known c (times xs k).dispatch (if (g.row k).reserved then (times xs k).units else [])

issue_case : (g : Input) (c : ℕ) (xs : List Times) (k : ℕ) → k < g.rows → IsWritten (g.row k) (times xs k) → (b : Bool) → (g.row k).reserved ≡ b → (now g c xs k).issue ≡ or_ahead c (times xs k).issue
issue_case g c xs k lt kept true is = ap (λ p. cycle_or (c + 1) (known_of g (recorded g xs) p k)) (phase_reserved (g.row k) is) ∙ now_dispatch g c xs k lt ∙ ap (or_ahead c) (sym (kept.together is))
issue_case g c xs k lt kept false is = ap (λ p. cycle_or (c + 1) (known_of g (recorded g xs) p k)) (phase_free (g.row k) is)
    ∙ ap (cycle_or (c + 1)) (known_in g (recorded g xs) 1 k lt ∙ recorded_row g xs 1 k (omega arith) lt ∙ choose_false (g.row k).reserved _ _ is) ∙ cycle_of_known c (times xs k).issue (times xs k).units

pub now_issue : (g : Input) (c : ℕ) (xs : List Times) (k : ℕ) → k < g.rows → IsWritten (g.row k) (times xs k) → (now g c xs k).issue ≡ or_ahead c (times xs k).issue
now_issue g c xs k lt kept = issue_case g c xs k lt kept (g.row k).reserved refl

after_now : (c time : ℕ) → ((time ≡ never → ⊥) → time ≤ c) → nat_lt c (or_ahead c time) ≡ nat_eq time never
after_now c time past = elim (cases_eq time never) [
  | inl is ↦ (let test : nat_eq time never ≡ true = grind (arith, nat_tests) in rw test (grind (arith, nat_tests)))
  | inr ne ↦ (let test : nat_eq time never ≡ false = grind (arith, nat_tests, ne) in let le : time ≤ c = past ne in rw test (grind (arith, nat_tests, le)))
]

-- a row holds its place in the reorder buffer where its retirement is not recorded, and its buffer entries where its issue is not
pub held_now : (g : Input) (c p j : ℕ) (xs : List Times) (k : ℕ) → IsState g (at g c p j) xs → p < 3 → j ≤ g.rows → k < g.rows → is_held (now g c xs) c k ≡ nat_eq (times xs k).retire never
held_now g c p j xs k h three le lt = ap (nat_lt c) (now_retire g c xs k lt) ∙ after_now c (times xs k).retire (retired_by g c p j xs k h three le lt)

pub waits_now : (g : Input) (c p j : ℕ) (xs : List Times) (k : ℕ) → IsState g (at g c p j) xs → p < 3 → j ≤ g.rows → k < g.rows → nat_lt c (now g c xs k).issue ≡ nat_eq (times xs k).issue never
waits_now g c p j xs k h three le lt = ap (nat_lt c) (now_issue g c xs k lt (h.kept k lt)) ∙ after_now c (times xs k).issue (issued_by g c p j xs k h three le lt)
