-- How the rows in flight that wait to issue change with the events of a cycle.
use Rattle.std.proofs.Common.{zero, suc, ◌≡◌, ℕ, ◌+◌, ◌-◌, ◌<◌, ◌≤◌, inl, inr, List, [], ◌∷◌, ◌++◌, length, set, arith, sym, ◌∙◌, ap, subst, refl, true, cond}
use Rattle.std.specs.Prelude.{nat_lt}
use Rattle.std.proofs.lemmas.Bool.Decides.{nat_tests}
use Rattle.std.proofs.lemmas.Bool.{cases_Bool, cases_eq}
use Rattle.cycle_rules.specs.Row.{Input, Table}
use Rattle.cycle_rules.specs.declared.times.Times.{Times}
use Rattle.issue_queues.specs.Waiting.{Waiting, without, are_below, IsIn}
use Rattle.issue_queues.specs.Flight.{row_at, rows_from}
use Rattle.issue_queues.proofs.Flight.{rows-last, rows-retire, rows-issue, rows-same}
use Rattle.engine_state.specs.State.{now}
use Rattle.engine_state.proofs.Taken.{now_other}
use Rattle.engine_steps.specs.Flight.{none_ready, waiting}

-- a row that issued retires
pub waiting_leaves : (g : Input) (c front head : ℕ) (xs : List Times) (v : Times) → front < head → head ≤ g.rows → (now g c xs front).issue ≤ c → waiting g c (set xs front v) (front + 1) head ≡ waiting g c xs front head
waiting_leaves g c front head xs v lt within issued =
    let count : head - (front + 1) + 1 ≡ head - front = omega arith in
    let first : rows_from g (now g c xs) none_ready c front (head - front) ≡ rows_from g (now g c xs) none_ready c (front + 1) (head - (front + 1)) =
    subst (λ n. rows_from g (now g c xs) none_ready c front n ≡ rows_from g (now g c xs) none_ready c (front + 1) (head - (front + 1))) count (rows-retire g (now g c xs) none_ready c front (head - (front + 1)) issued) in
    rows-same g (now g c (set xs front v)) (now g c xs) none_ready none_ready c c (front + 1) (head - (front + 1))
    (λ i le low. ap (λ (t : Times). nat_lt c t.issue) (sym (now_other g c front i xs v (omega (arith, low, lt, within)) (λ e. omega (arith, e, le))))) (λ i le low. refl)
    ∙ sym first

-- a row issues
pub waiting_issues : (g : Input) (c front head j : ℕ) (xs : List Times) (v : Times) → front ≤ head → head ≤ g.rows → (now g c (set xs j v) j).issue ≤ c → without j (waiting g c xs front head) ≡ waiting g c (set xs j v) front head
waiting_issues g c front head j xs v order within issued = rows-issue g (now g c xs) (now g c (set xs j v)) none_ready c c front (head - front) j issued
    (λ i le low ne. ap (λ (t : Times). nat_lt c t.issue) (now_other g c j i xs v (omega (arith, low, order, within)) ne))

-- a row dispatches
pub waiting_next : (g : Input) (c front head : ℕ) (xs : List Times) (v : Times) → front ≤ head → head < g.rows
    → waiting g c (set xs head v) front (head + 1) ≡ waiting g c xs front head ++ cond (nat_lt c (now g c (set xs head v) head).issue) (row_at g none_ready head ∷ []) []
waiting_next g c front head xs v order lt =
    let count : head - front + 1 ≡ head + 1 - front = omega arith in
    let last : front + (head - front) ≡ head = omega arith in
    let t : Table = now g c (set xs head v) in
    let more : rows_from g t none_ready c front (head - front + 1) ≡ rows_from g t none_ready c front (head - front) ++ cond (nat_lt c (t (front + (head - front))).issue) (row_at g none_ready (front + (head - front)) ∷ []) [] =
    rows-last g t none_ready c front (head - front) in
    let here : rows_from g t none_ready c front (head + 1 - front) ≡ rows_from g t none_ready c front (head - front) ++ cond (nat_lt c (t head).issue) (row_at g none_ready head ∷ []) [] =
    subst (λ n. rows_from g t none_ready c front n ≡ rows_from g t none_ready c front (head - front) ++ cond (nat_lt c (t head).issue) (row_at g none_ready head ∷ []) []) count
    (subst (λ k. rows_from g t none_ready c front (head - front + 1) ≡ rows_from g t none_ready c front (head - front) ++ cond (nat_lt c (t k).issue) (row_at g none_ready k ∷ []) []) last more) in
    let same : rows_from g t none_ready c front (head - front) ≡ rows_from g (now g c xs) none_ready c front (head - front) =
    rows-same g t (now g c xs) none_ready none_ready c c front (head - front)
    (λ i le low. ap (λ (x : Times). nat_lt c x.issue) (sym (now_other g c head i xs v (omega (arith, low, order, lt)) (λ e. omega (arith, e, low, order))))) (λ i le low. refl) in
    here ∙ ap (λ (ws : List Waiting). ws ++ cond (nat_lt c (t head).issue) (row_at g none_ready head ∷ []) []) same

-- what is known of all of them

pub waiting_few : (g : Input) (t : Table) (c a n : ℕ) → length (rows_from g t none_ready c a n) ≤ n
waiting_few g t c a zero = omega arith
waiting_few g t c a (suc n) =
    let rest : length (rows_from g t none_ready c (a + 1) n) ≤ n = waiting_few g t c (a + 1) n in
    elim (cases_Bool (nat_lt c (t a).issue)) [ inl q ↦ rw q (omega (arith, rest)) | inr q ↦ rw q (omega (arith, rest)) ]

pub waiting_some : (g : Input) (t : Table) (c a n most : ℕ) → n < most → length (rows_from g t none_ready c a n) < most
waiting_some g t c a n most lt = omega (arith, waiting_few g t c a n, lt)

pub waiting_below : (g : Input) (t : Table) (c a n j : ℕ) → a + n ≤ j → are_below j (rows_from g t none_ready c a n) ≡ true
waiting_below g t c a zero j le = refl
waiting_below g t c a (suc n) j le =
    let rest : are_below j (rows_from g t none_ready c (a + 1) n) ≡ true = waiting_below g t c (a + 1) n j (omega arith) in
    let here : nat_lt a j ≡ true = grind (arith, nat_tests, le) in
    elim (cases_Bool (nat_lt c (t a).issue)) [ inl q ↦ rw (q, here) rest | inr q ↦ rw q rest ]

-- a row in flight that has not issued is among them
pub waiting_in : (g : Input) (t : Table) (c a n j : ℕ) → a ≤ j → j < a + n → nat_lt c (t j).issue ≡ true → (i : ℕ) × IsIn j (g.row j).uses (rows_from g t none_ready c a n) i
waiting_in g t c a zero j le lt waits = absurd (omega (arith, le, lt))
waiting_in g t c a (suc n) j le lt waits = elim (cases_eq a j) [
  | inl here ↦ (let first : nat_lt c (t a).issue ≡ true = subst (λ k. nat_lt c (t k).issue ≡ true) (sym here) waits in
      rw first (0, record { within = omega arith; row_is = here; uses_are = ap (λ k. (g.row k).uses) here }))
  | inr ne ↦ (let rest : (i : ℕ) × IsIn j (g.row j).uses (rows_from g t none_ready c (a + 1) n) i = waiting_in g t c (a + 1) n j (omega (arith, le, ne)) (omega (arith, lt)) waits in
      elim (cases_Bool (nat_lt c (t a).issue)) [
        | inl q ↦ rw q (suc rest.0, record { within = omega (arith, (rest.1).within); row_is = (rest.1).row_is; uses_are = (rest.1).uses_are })
        | inr q ↦ rw q rest
      ])
]
