-- What a table has recorded after one more key.
use Rattle.std.proofs.Common.{suc, ◌≡◌, ℕ, ◌+◌, ◌/◌, ◌%◌, ◌<◌, ◌⊎◌, inl, inr, List, length, set, arith, sym, ◌∙◌, ap, subst, refl, true, false, get_or-set_other, get_or-set_same, length-set}
use Rattle.std.specs.Prelude.{nat_lt, nat_eq, Option, Some, None}
use Rattle.std.proofs.lemmas.Bool.Decides.{nat_tests}
use Rattle.std.proofs.lemmas.Bool.{cases_lt, cases_eq}
use Rattle.std.proofs.lemmas.Nat.{div-mul-add, mod-mul-add}
use Rattle.cycle_rules.specs.Schedule.{Fall, Rules, event, known_at}
use Rattle.cycle_rules.specs.Row.{Input, times, no_times}
use Rattle.cycle_rules.specs.Events.{events, may_fall, units_taken, rules_of}
use Rattle.engine_state.specs.State.{recorded_in, recorded, at, IsWritten, IsState}
use Rattle.cycle_rules.specs.declared.times.Times.{Times}
use Rattle.cycle_rules.proofs.Rows.{allowed_at, takes_at, event_below, IsEvent, event_is}
use Rattle.engine_state.proofs.Step.{put, step_known, step_refused, step_falls}

-- what is recorded of an event of a row
pub recorded_row : (g : Input) (xs : List Times) (p j : ℕ) → p < 3 → j < g.rows → recorded g xs (event g.rows p j) ≡ recorded_in (g.row j) (times xs j) p
recorded_row g xs p j three lt =
    let in_range : event g.rows p j < events g = event_below g p j three lt in
    let test : nat_lt (event g.rows p j) (events g) ≡ true = grind (arith, nat_tests) in
    rw (test, div-mul-add p g.rows j lt, mod-mul-add p g.rows j lt) refl

-- the next key
pub at_next : (g : Input) (c p j : ℕ) → suc (at g c p j) ≡ at g c p (j + 1)
at_next g c p j = omega arith

pub state_along : (g : Input) (k l : ℕ) (xs : List Times) → k ≡ l → IsState g k xs → IsState g l xs
state_along g k l xs e h = subst (λ n. IsState g n xs) e h

cases_option : {A : Type 0} (o : Option A) → (o ≡ None) ⊎ ((x : A) × (o ≡ Some x))
cases_option None = inl refl
cases_option (Some x) = inr (x, refl)

-- an event that is recorded, or may not fall, leaves the table as it is
pub state_keeps : (g : Input) (c p j : ℕ) (xs : List Times) → IsState g (at g c p j) xs → p < 3 → j < g.rows
    → (recorded_in (g.row j) (times xs j) p ≡ None → may_fall g (recorded g xs) c p j ≡ false) → IsState g (at g c p (j + 1)) xs
state_keeps g c p j xs h three lt refused =
    let below : event g.rows p j < events g = event_below g p j three lt in
    let here : known_at (rules_of g) (events g) (at g c p j) (event g.rows p j) ≡ recorded_in (g.row j) (times xs j) p =
    sym (ap (λ v. v (event g.rows p j)) h.known) ∙ recorded_row g xs p j three lt in
    let same : known_at (rules_of g) (events g) (suc (at g c p j)) ≡ known_at (rules_of g) (events g) (at g c p j) =
    elim (cases_option (recorded_in (g.row j) (times xs j) p)) [
      | inr x ↦ step_known (rules_of g) (events g) c (event g.rows p j) x.0 below (here ∙ x.1)
      | inl none ↦ step_refused (rules_of g) (events g) c (event g.rows p j) below
          (allowed_at g (known_at (rules_of g) (events g) (at g c p j)) c p j lt ∙ subst (λ v. may_fall g v c p j ≡ false) h.known (refused none))
    ] in
    state_along g (suc (at g c p j)) (at g c p (j + 1)) xs (at_next g c p j) (record { rows = h.rows; known = h.known ∙ sym same; kept = h.kept })

pub times_set_other : (xs : List Times) (j k : ℕ) (v : Times) → (k ≡ j → ⊥) → times (set xs j v) k ≡ times xs k
times_set_other xs j k v ne = get_or-set_other xs j k v no_times ne

pub times_set_same : (xs : List Times) (j : ℕ) (v : Times) → j < length xs → times (set xs j v) j ≡ v
times_set_same xs j v lt = get_or-set_same xs j v no_times lt

-- one event is written into row j
recorded_put : (g : Input) (xs : List Times) (p j : ℕ) (v : Times) (o : Option (Fall (List ℕ))) → p < 3 → j < g.rows → j < length xs → recorded_in (g.row j) v p ≡ o
    → ((q : ℕ) → q < 3 → (q ≡ p → ⊥) → recorded_in (g.row j) v q ≡ recorded_in (g.row j) (times xs j) q)
    → (e : ℕ) → recorded g (set xs j v) e ≡ put (recorded g xs) (event g.rows p j) o e
recorded_put g xs p j v o three lt in_list is others e = elim (cases_lt e (events g)) [
  | inl low ↦ (let row : IsEvent g.rows e = event_is g.rows e low in
      subst (λ x. recorded g (set xs j v) x ≡ put (recorded g xs) (event g.rows p j) o x) row.is (of_row (e / g.rows) (e % g.rows) row.phase row.row))
  | inr high ↦ (
      let outside : nat_lt e (events g) ≡ false = grind (arith, nat_tests, high) in
      let other : nat_eq e (event g.rows p j) ≡ false = (let below : event g.rows p j < events g = event_below g p j three lt in grind (arith, nat_tests, high, below)) in
      rw (outside, other) refl)
]
  where
    put_other : (q k : ℕ) → (event g.rows q k ≡ event g.rows p j → ⊥) → recorded g (set xs j v) (event g.rows q k) ≡ recorded g xs (event g.rows q k)
        → recorded g (set xs j v) (event g.rows q k) ≡ put (recorded g xs) (event g.rows p j) o (event g.rows q k)
    put_other q k ne same = let test : nat_eq (event g.rows q k) (event g.rows p j) ≡ false = grind (arith, nat_tests, ne) in rw test same

    apart_rows : (q k : ℕ) → k < g.rows → (k ≡ j → ⊥) → event g.rows q k ≡ event g.rows p j → ⊥
    apart_rows q k lk ne same = ne (sym (mod-mul-add q g.rows k lk) ∙ ap (λ x. x % g.rows) same ∙ mod-mul-add p g.rows j lt)

    apart_phases : (q : ℕ) → (q ≡ p → ⊥) → event g.rows q j ≡ event g.rows p j → ⊥
    apart_phases q ne same = ne (sym (div-mul-add q g.rows j lt) ∙ ap (λ x. x / g.rows) same ∙ div-mul-add p g.rows j lt)

    of_row : (q k : ℕ) → q < 3 → k < g.rows → recorded g (set xs j v) (event g.rows q k) ≡ put (recorded g xs) (event g.rows p j) o (event g.rows q k)
    of_row q k lq lk = elim (cases_eq k j) [
      | inr ne ↦ put_other q k (apart_rows q k lk ne) (recorded_row g (set xs j v) q k lq lk ∙ ap (λ t. recorded_in (g.row k) t q) (times_set_other xs j k v ne) ∙ sym (recorded_row g xs q k lq lk))
      | inl same ↦ subst (λ x. recorded g (set xs j v) (event g.rows q x) ≡ put (recorded g xs) (event g.rows p j) o (event g.rows q x)) (sym same) (elim (cases_eq q p) [
        | inr ne ↦ put_other q j (apart_phases q ne) (recorded_row g (set xs j v) q j lq lt ∙ ap (λ t. recorded_in (g.row j) t q) (times_set_same xs j v in_list) ∙ others q lq ne ∙ sym (recorded_row g xs q j lq lt))
        | inl now_p ↦ subst (λ x. recorded g (set xs j v) (event g.rows x j) ≡ put (recorded g xs) (event g.rows p j) o (event g.rows x j)) (sym now_p)
            (let test : nat_eq (event g.rows p j) (event g.rows p j) ≡ true = grind (arith, nat_tests) in
            rw test (recorded_row g (set xs j v) p j three lt ∙ ap (λ t. recorded_in (g.row j) t p) (times_set_same xs j v in_list) ∙ is))
      ])
    ]

-- an event that is not recorded and may fall is written into the table
pub state_writes : (g : Input) (c p j : ℕ) (xs : List Times) (v : Times) → IsState g (at g c p j) xs → p < 3 → j < g.rows
    → recorded_in (g.row j) (times xs j) p ≡ None → may_fall g (recorded g xs) c p j ≡ true
    → recorded_in (g.row j) v p ≡ Some (record { cycle = c; what = units_taken g (recorded g xs) c p j })
    → ((q : ℕ) → q < 3 → (q ≡ p → ⊥) → recorded_in (g.row j) v q ≡ recorded_in (g.row j) (times xs j) q)
    → IsWritten (g.row j) v → IsState g (at g c p (j + 1)) (set xs j v)
state_writes g c p j xs v h three lt none can is others kept =
    let r : Rules (List ℕ) = rules_of g in
    let k : ℕ = at g c p j in
    let e : ℕ = event g.rows p j in
    let below : e < events g = event_below g p j three lt in
    let in_list : j < length xs = omega (arith, h.rows) in
    let open_now : known_at r (events g) k e ≡ None = sym (ap (λ w. w e) h.known) ∙ recorded_row g xs p j three lt ∙ none in
    let allowed : r.allowed (known_at r (events g) k) c e ≡ true = allowed_at g (known_at r (events g) k) c p j lt ∙ subst (λ w. may_fall g w c p j ≡ true) h.known can in
    let takes : r.takes (known_at r (events g) k) c e ≡ units_taken g (recorded g xs) c p j = takes_at g (known_at r (events g) k) c p j lt ∙ sym (ap (λ w. units_taken g w c p j) h.known) in
    let falls : known_at r (events g) (suc k) ≡ put (known_at r (events g) k) e (Some (record { cycle = c; what = r.takes (known_at r (events g) k) c e })) = step_falls r (events g) c e below open_now allowed in
    let put_here : recorded g (set xs j v) ≡ put (recorded g xs) e (Some (record { cycle = c; what = units_taken g (recorded g xs) c p j })) =
    λ i x. recorded_put g xs p j v (Some (record { cycle = c; what = units_taken g (recorded g xs) c p j })) three lt in_list is others x i in
    state_along g (suc k) (at g c p (j + 1)) (set xs j v) (at_next g c p j) (record {
      rows = length-set xs j v ∙ h.rows;
      known = put_here ∙ ap (λ w. put w e (Some (record { cycle = c; what = units_taken g (recorded g xs) c p j }))) h.known
          ∙ ap (λ us. put (known_at r (events g) k) e (Some (record { cycle = c; what = us }))) (sym takes) ∙ sym falls;
      kept = λ i li. elim (cases_eq i j) [
        | inr ne ↦ subst (IsWritten (g.row i)) (sym (times_set_other xs j i v ne)) (h.kept i li)
        | inl same ↦ subst (λ n. IsWritten (g.row n) (times (set xs j v) n)) (sym same) (subst (IsWritten (g.row j)) (sym (times_set_same xs j v in_list)) kept)
      ];
    })

-- the keys of a cycle go on from phase to phase, and to the next cycle
pub state_phase : (g : Input) (c p : ℕ) (xs : List Times) → IsState g (at g c p g.rows) xs → IsState g (at g c (p + 1) 0) xs
state_phase g c p xs h = state_along g (at g c p g.rows) (at g c (p + 1) 0) xs (omega arith) h

pub state_cycle : (g : Input) (c : ℕ) (xs : List Times) → IsState g (at g c 2 g.rows) xs → IsState g (at g (c + 1) 0 0) xs
state_cycle g c xs h = state_along g (at g c 2 g.rows) (at g (c + 1) 0 0) xs (omega arith) h
