-- What an engine may leave out of a cycle.
use Rattle.std.proofs.Common.{zero, suc, ◌≡◌, ℕ, ◌+◌, ◌-◌, ◌*◌, ◌/◌, ◌%◌, ◌<◌, ◌≤◌, inl, inr, List, arith, sym, ◌∙◌, ap, subst, refl, add-zero, add-suc, Bool, true, false, ◌&&◌}
use Rattle.std.specs.Prelude.{nat_lt, nat_le, Option, Some, None}
use Rattle.std.proofs.lemmas.Bool.Decides.{nat_tests}
use Rattle.std.proofs.lemmas.Bool.{cases_Bool, cases_lt}
use Rattle.std.proofs.lemmas.Nat.{div-mul-add, mod-mul-add}
use Rattle.cycle_rules.specs.Row.{Input}
use Rattle.cycle_rules.specs.Schedule.{Known, key, known_at, event}
use Rattle.cycle_rules.specs.Events.{events, cycle_or, known_of, in_cycle, may_fall, rules_of}
use Rattle.cycle_rules.specs.Dispatch.{follows, can_dispatch}
use Rattle.cycle_rules.specs.Issue.{can_start, can_issue}
use Rattle.cycle_rules.specs.Retire.{can_retire}
use Rattle.event_rules.specs.Due.{ready_from}
use Rattle.event_rules.specs.Skip.{known_before, SkipRetired, SkipRetires, Unready, SkipUnready, SkipDispatched, SkipDispatches}
use Rattle.cycle_rules.proofs.Exists.{Came, came, upward, not_both, cases}
use Rattle.cycle_rules.proofs.Falls.{first_true}
use Rattle.cycle_rules.proofs.Sees.{known_in, known_none}
use Rattle.cycle_rules.proofs.Rows.{allowed_at, event_below}
use Rattle.event_rules.proofs.StillTests.{reached, operands_from}
use Rattle.event_rules.proofs.Quiet.{quiet_keys}

-- rows are passed over, where none of them that has not had its event may have it
pub skip_rows : (g : Input) (c p j n : ℕ) → p < 3 → j + n ≤ g.rows → ((k : ℕ) → j ≤ k → k < j + n → known_before g c p j (event g.rows p k) ≡ None → may_fall g (known_before g c p j) c p k ≡ false)
    → known_before g c p (j + n) ≡ known_before g c p j
skip_rows g c p j n three le h =
    let m : ℕ = events g in
    let start : ℕ = key m c (event g.rows p j) in
    let sum : key m c (event g.rows p (j + n)) ≡ start + n = omega arith in
    ap (known_at (rules_of g) m) sum ∙ quiet_keys (rules_of g) m start n (λ i lo hi none.
    let k : ℕ = i - (c * m + p * g.rows) in
    let row : k < g.rows = omega (arith, hi, le) in
    let e : ℕ = event g.rows p k in
    let is : c * m + e ≡ i = omega (arith, lo) in
    let below : e < m = event_below g p k three row in
    let cycle : i / m ≡ c = ap (λ x. x / m) (sym is) ∙ div-mul-add c m e below in
    let which : i % m ≡ e = ap (λ x. x % m) (sym is) ∙ mod-mul-add c m e below in
    let not_now : may_fall g (known_before g c p j) c p k ≡ false = h k (omega (arith, lo)) (omega (arith, hi)) (subst (λ x. known_at (rules_of g) m start x ≡ None) which none) in
    rw (cycle, which) (allowed_at g (known_before g c p j) c p k row ∙ not_now))

-- Order

follows_known : (g : Input) (known : Known (List ℕ)) (q k c : ℕ) → nat_le (cycle_or (c + 1) (known_of g known q k)) c ≡ true → known_of g known q k ≡ None → ⊥
follows_known g known q k c h none = past (sym (ap (λ o. nat_le (cycle_or (c + 1) o) c) none) ∙ h)
  where
    past : nat_le (c + 1) c ≡ true → ⊥
    past e = grind (arith, nat_tests, e)

retire_follows : (g : Input) (known : Known (List ℕ)) (k c : ℕ) → may_fall g known c 0 (suc k) ≡ true → known_of g known 0 k ≡ None → ⊥
unfolding can_retire follows
retire_follows g known k c h none = follows_known g known 0 k c (second _ _ _ h) none
  where
    second : (x y z : Bool) → (x && y && z) ≡ true → y ≡ true
    second true true z e = refl
    second true false z e = e
    second false y z e = cc

dispatch_follows : (g : Input) (known : Known (List ℕ)) (k c : ℕ) → may_fall g known c 2 (suc k) ≡ true → known_of g known 2 k ≡ None → ⊥
unfolding can_dispatch follows
dispatch_follows g known k c h none = follows_known g known 2 k c (first_true _ _ (first_true _ _ (first_true _ _ (first_true _ _ (first_true _ _ (first_true _ _ h)))))) none

-- an event of the row before is known where one is, for retirement and dispatch
in_order : (g : Input) (n q k : ℕ) → q < 3 → ((known : Known (List ℕ)) (c : ℕ) → may_fall g known c q (suc k) ≡ true → known_of g known q k ≡ None → ⊥)
    → suc k < g.rows → known_at (rules_of g) (events g) n (event g.rows q k) ≡ None → known_at (rules_of g) (events g) n (event g.rows q (suc k)) ≡ None
in_order g n q k three needs lt none = elim (cases (known_at (rules_of g) (events g) n (event g.rows q (suc k)))) [
  | inl never ↦ never
  | inr x ↦ (
      let e : ℕ = event g.rows q (suc k) in
      let below : e < events g = event_below g q (suc k) three lt in
      let c : Came (rules_of g) (events g) n e x.0 = came (rules_of g) (events g) n e x.0 (omega (arith, below)) x.1 in
      let early : Known (List ℕ) = known_at (rules_of g) (events g) (key (events g) (x.0).cycle e) in
      let allowed : may_fall g early (x.0).cycle q (suc k) ≡ true = sym (allowed_at g early (x.0).cycle q (suc k) lt) ∙ c.allowed in
      let before : early (event g.rows q k) ≡ None = elim (cases (early (event g.rows q k))) [
        | inl never ↦ never
        | inr y ↦ absurd (not_both (known_at (rules_of g) (events g) n (event g.rows q k)) y.0 none (upward (rules_of g) (events g) (key (events g) (x.0).cycle e) n (event g.rows q k) y.0 (omega (arith, c.before)) y.1))
      ] in
      absurd (needs early (x.0).cycle allowed (known_in g early q k (omega (arith, lt)) ∙ before)))
]

behind : (g : Input) (n q j d : ℕ) → q < 3 → ((known : Known (List ℕ)) (k c : ℕ) → may_fall g known c q (suc k) ≡ true → known_of g known q k ≡ None → ⊥)
    → j + d < g.rows → known_at (rules_of g) (events g) n (event g.rows q j) ≡ None → known_at (rules_of g) (events g) n (event g.rows q (j + d)) ≡ None
behind g n q j zero three needs lt none = rw add-zero none
behind g n q j (suc d) three needs lt none = rw add-suc (in_order g n q (j + d) three (λ known c. needs known (j + d) c) (omega (arith, lt)) (behind g n q j d three needs (omega (arith, lt)) none))

-- where a row may not have its event in its turn, none behind it has it
stops : (g : Input) (c q j : ℕ) → q < 3 → ((known : Known (List ℕ)) (k c : ℕ) → may_fall g known c q (suc k) ≡ true → known_of g known q k ≡ None → ⊥)
    → j ≤ g.rows → (j < g.rows → known_before g c q j (event g.rows q j) ≡ None) → (j < g.rows → may_fall g (known_before g c q j) c q j ≡ false) → known_before g c q g.rows ≡ known_before g c q j
stops g c q j three needs le none not_now =
    let sum : j + (g.rows - j) ≡ g.rows = omega arith in
    subst (λ x. known_before g c q x ≡ known_before g c q j) sum (skip_rows g c q j (g.rows - j) three (omega arith) (λ k lo hi unknown. each k lo (omega (arith, hi))))
  where
    known : Known (List ℕ)
    known = known_before g c q j

    false_of : (b : Bool) → (b ≡ true → ⊥) → b ≡ false
    false_of true e = absurd (e refl)
    false_of false e = refl

    each : (k : ℕ) → j ≤ k → k < g.rows → may_fall g known c q k ≡ false
    each k lo hi = elim (cases_lt j k) [
      | inr here ↦ (let s : j ≡ k = omega (arith, lo, here) in subst (λ x. may_fall g known c q x ≡ false) s (not_now (omega (arith, s, hi))))
      | inl past ↦ (
          let d : ℕ = k - j - 1 in
          let s : suc (j + d) ≡ k = omega (arith, past) in
          let gone : known (event g.rows q (j + d)) ≡ None = behind g (key (events g) c (event g.rows q j)) q j d three needs (omega (arith, s, hi)) (none (omega (arith, s, hi))) in
          subst (λ x. may_fall g known c q x ≡ false) s (false_of _ (λ yes_it. needs known (j + d) c yes_it (known_in g known q (j + d) (omega (arith, s, hi)) ∙ gone))))
    ]

passes_over : (g : Input) (c q j : ℕ) → q < 3 → j ≤ g.rows → ((k : ℕ) → k < j → known_before g c q 0 (event g.rows q k) ≡ None → ⊥) → known_before g c q j ≡ known_before g c q 0
passes_over g c q j three le there = let none_yet : 0 + j ≡ j = omega arith in
    subst (λ x. known_before g c q x ≡ known_before g c q 0) none_yet (skip_rows g c q 0 j three (omega (arith, le)) (λ k lo hi none. absurd (there k (omega (arith, hi)) none)))

pub skip_retired : SkipRetired
skip_retired g c j le there = passes_over g c 0 j (omega arith) le there

pub skip_dispatched : SkipDispatched
skip_dispatched g c j le there = passes_over g c 2 j (omega arith) le there

pub skip_retires : SkipRetires
skip_retires g c j le none not_now =
    let next : key (events g) c (event g.rows 1 0) ≡ key (events g) c (event g.rows 0 g.rows) = omega arith in
    ap (known_at (rules_of g) (events g)) next ∙ stops g c 0 j (omega arith) (retire_follows g) le (λ _. none) not_now

pub skip_dispatches : SkipDispatches
skip_dispatches g c j le none not_now =
    let next : key (events g) (c + 1) (event g.rows 0 0) ≡ key (events g) c (event g.rows 2 g.rows) = omega arith in
    ap (known_at (rules_of g) (events g)) next ∙ stops g c 2 j (omega arith) (dispatch_follows g) le (λ _. none) not_now

-- Operands

unready_waits : (g : Input) (known : Known (List ℕ)) (k c : ℕ) → Unready c (ready_from g known k) → can_start g (in_cycle g c known) k c ≡ false
unfolding can_start
unready_waits g known k c h = rw (operands_from g known k c ∙ not_reached (ready_from g known k) h) refl
  where
    not_reached : (o : Option ℕ) → Unready c o → reached c o ≡ false
    not_reached None h = refl
    not_reached (Some x) h = grind (arith, nat_tests, h)

no_leave : (g : Input) (known : Known (List ℕ)) (k c : ℕ) → k < g.rows → known (event g.rows 2 k) ≡ None → can_issue g (in_cycle g c known) k c ≡ false
unfolding can_issue
no_leave g known k c lt none = let past : nat_lt (cycle_or (c + 1) (known_of g known 2 k)) c ≡ false = ap (λ o. nat_lt (cycle_or (c + 1) o) c) (known_none g known 2 k none) ∙ next in rw past refl
  where
    next : nat_lt (c + 1) c ≡ false
    next = grind (arith, nat_tests)

unready_stays : (g : Input) (known : Known (List ℕ)) (k c : ℕ) → can_start g (in_cycle g c known) k c ≡ false → can_issue g (in_cycle g c known) k c ≡ false
unfolding can_issue
unready_stays g known k c h = rw h (and_false _)
  where
    and_false : (b : Bool) → (b && false) ≡ false
    and_false true = refl
    and_false false = refl

pub skip_unready : SkipUnready
skip_unready g c j n le unready = skip_rows g c 1 j n (omega arith) le (λ k lo hi none. row k lo hi none)
  where
    known : Known (List ℕ)
    known = known_before g c 1 j

    row : (k : ℕ) → j ≤ k → k < j + n → known (event g.rows 1 k) ≡ None → may_fall g known c 1 k ≡ false
    row k lo hi none = elim (cases_Bool (g.row k).reserved) [
      | inl reserved ↦ rw reserved refl
      | inr free ↦ rw free (elim (cases (known (event g.rows 2 k))) [
        | inl never ↦ no_leave g known k c (omega (arith, hi, le)) never
        | inr x ↦ unready_stays g known k c (unready_waits g known k c (unready k lo hi free none x.0 x.1))
      ])
    ]
